use Rattle.std.proofs.Common.{◌≡◌}
use Rattle.rip_heap.specs.Growth.{Grows}
use Rattle.rip_eval_language.specs.Reading.{scoping}
use Rattle.rip_eval_language.specs.Rows.Functions.{with_arguments, with_undefined}
use Rattle.rip_eval_statements.proofs.functions.fill_scope.Given as goal

abbrev pub invariant-loop-n : goal.invariant-loop-n
invariant-loop-n l = record {
  filled : l.heap ≡ with_arguments l.p l.f l.scope l.args l.n (with_undefined l.scope (scoping l.p l.f).names l.fn.heap);
  grows : Grows l.fn.heap l.heap;
}
