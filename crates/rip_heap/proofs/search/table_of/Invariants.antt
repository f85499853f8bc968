use Rattle.std.proofs.Common.{◌≡◌, ◌+◌, length, take, drop, vec_capacity}
use Rattle.rip_heap.specs.Borders.{IsLongest, IsTable}
use Rattle.rip_heap.proofs.search.table_of.Given as goal

abbrev pub invariant-loop-unit : goal.invariant-loop-unit
invariant-loop-unit l =
    (length l.table.items ≡ l.unit-index + 1) × IsTable l.pattern l.table.items × IsLongest l.pattern (take l.unit-index (drop 1 l.pattern)) l.matched × (vec_capacity l.table ≡ vec_capacity l.fn.table)
