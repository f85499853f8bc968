use Rattle.std.proofs.Common.{◌≡◌}
use Rattle.std.specs.Prelude.{take}
use Rattle.rip_parser.specs.Building.{numbers}
use Rattle.rip_parser.proofs.part.list_numbers.Given as goal

abbrev pub invariant-loop-part : goal.invariant-loop-part
invariant-loop-part l = l.list.items ≡ numbers (take l.part-index l.parts)
