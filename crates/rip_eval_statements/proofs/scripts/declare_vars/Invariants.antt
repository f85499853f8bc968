use Rattle.std.proofs.Common.{◌≡◌, fold, take}
use Rattle.rip_heap.specs.Growth.{Grows}
use Rattle.rip_eval_language.specs.Rows.Scripts.{with_var}
use Rattle.rip_eval_statements.proofs.scripts.declare_vars.Given as goal

-- the names so far are declared
abbrev pub invariant-loop-place : goal.invariant-loop-place
invariant-loop-place l = record {
  declared : l.heap ≡ fold with_var l.fn.heap (take l.place-index l.places);
  grows : Grows l.fn.heap l.heap;
}
