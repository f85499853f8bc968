use Rattle.std.proofs.Common.{◌≡◌, ◌++◌, drop, false}
use Rattle.rip_markup.specs.Input.{lines}
use Rattle.rip_markup.proofs.input.lines.Given as goal

abbrev pub invariant-loop-unit : goal.invariant-loop-unit
invariant-loop-unit l = l.out.items ++ lines l.behind_cr (drop l.unit-index l.raw) ≡ lines false l.raw
