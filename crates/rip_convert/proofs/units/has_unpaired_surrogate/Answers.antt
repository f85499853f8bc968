use Rattle.std.proofs.Common.{sym, ◌∙◌, arith}
use Rattle.rip_convert.proofs.Chars.{unpaired_end}
use Rattle.rip_convert.proofs.units.has_unpaired_surrogate.Goals as goal

pub returns : goal.returns
returns c = sym (unpaired_end c.args.units.now c.loop-at.at (omega (arith, c.loop-at-test.false))) ∙ c.loop-at.invariant.1
