use Rattle.std.proofs.Common.{◌≡◌}
use Rattle.rip_heap.specs.Growth.{Grows}
use Rattle.rip_eval_language.specs.Rows.Functions.{with_undefined}
use Rattle.rip_eval_statements.proofs.functions.set_undefined.Given as goal

abbrev pub invariant-loop-place : goal.invariant-loop-place
invariant-loop-place l = record {
  set : l.heap ≡ with_undefined l.scope l.place l.fn.heap;
  grows : Grows l.fn.heap l.heap;
}
