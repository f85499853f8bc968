use Rattle.std.proofs.Common.{◌≡◌, ◌≤◌, ◌+◌, ◌*◌, drop, false}
use Rattle.rip_markup.specs.Input.{bytes_before}
use Rattle.rip_markup.proofs.input.byte_place.Given as goal

abbrev pub invariant-loop-unit : goal.invariant-loop-unit
invariant-loop-unit l = record {
  counted : l.count + bytes_before l.behind_cr (drop l.unit-index l.unit-items) l.left ≡ l.text.mark + bytes_before false l.unit-items l.place;
  bound : l.count ≤ 3 + 3 * l.unit-index;
}
