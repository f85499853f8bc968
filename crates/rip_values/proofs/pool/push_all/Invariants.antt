use Rattle.std.proofs.Common.{◌≡◌, ◌++◌, take, vec_capacity}
use Rattle.std.specs.List.{flat_map}
use Rattle.rip_values.specs.FixedTable.{text_of}
use Rattle.rip_values.proofs.pool.push_all.Given as goal

abbrev pub invariant-loop-fixed : goal.invariant-loop-fixed
invariant-loop-fixed l = record {
  units : l.units.items ≡ l.initial.units.items ++ flat_map text_of (take l.fixed-index l.texts);
  room : vec_capacity l.units ≡ vec_capacity l.initial.units;
}
