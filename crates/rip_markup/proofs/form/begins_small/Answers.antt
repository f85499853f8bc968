use Rattle.std.proofs.Common.{◌∙◌, sym}
use Rattle.rip_markup.proofs.Fronts.{begins_small-none}
use Rattle.rip_markup.proofs.form.begins_small.Goals as goal

pub returns-in_default-clause-small : goal.returns-in_default-clause-small
returns-in_default-clause-small c = sym (begins_small-none c.args.front.now c.loop-byte.rest.now c.loop-byte.byte-index c.loop-byte-test.true c.in_default.len_below) ∙ c.loop-byte.invariant.same
