use Rattle.std.proofs.Common.{◌≡◌, ◌+◌, ◌-◌, ◌*◌, ◌≤◌, ◌^◌}
use Rattle.rip_heap.specs.Growth.{Grows}
use Rattle.rip_heap.specs.World.{cost_of_function}
use Rattle.rip_eval_language.specs.Reading.{children_from}
use Rattle.rip_eval_language.specs.Rows.Functions.{declared_functions, with_functions}
use Rattle.rip_eval_statements.proofs.functions.declare_functions.Given as goal

-- those from this place on are still to be made and bound, and their charge fits
abbrev pub invariant-loop-f : goal.invariant-loop-f
invariant-loop-f l = record {
  declared : with_functions l.p l.scope (children_from l.p l.id l.place) l.heap ≡ with_functions l.p l.scope (children_from l.p l.id l.from) l.fn.heap;
  room : l.heap.cells + cost_of_function * declared_functions l.p (children_from l.p l.id l.place) ≤ l.heap.limit;
  grows : Grows l.fn.heap l.heap;
}

abbrev pub decreases-loop-f : goal.decreases-loop-f
decreases-loop-f l = 2 ^ 32 - l.place
