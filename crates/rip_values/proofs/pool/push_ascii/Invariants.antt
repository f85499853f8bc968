use Rattle.std.proofs.Common.{◌≡◌, ◌++◌, take, vec_capacity}
use Rattle.rip_values.proofs.pool.push_ascii.Given as goal

abbrev pub invariant-loop-byte : goal.invariant-loop-byte
invariant-loop-byte l = record {
  units : l.units.items ≡ l.initial.units.items ++ take l.byte-index l.text;
  room : vec_capacity l.units ≡ vec_capacity l.initial.units;
}
