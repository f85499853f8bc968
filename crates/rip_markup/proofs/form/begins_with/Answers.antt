use Rattle.std.proofs.Common.{◌∙◌, sym}
use Rattle.rip_markup.proofs.Fronts.{begins_with-none}
use Rattle.rip_markup.proofs.form.begins_with.Goals as goal

pub returns-in_default-clause-front : goal.returns-in_default-clause-front
returns-in_default-clause-front c = sym (begins_with-none c.args.front.now c.loop-byte.rest.now c.loop-byte.byte-index c.loop-byte-test.true c.in_default.len_below) ∙ c.loop-byte.invariant.same
