use Rattle.std.proofs.Common.{◌≡◌, ℕ, ◌+◌, ◌≤◌}
use Rattle.rip_heap.specs.Growth.{Grows}
use Rattle.rip_eval_rows.specs.Rest.{next_run}
use Rattle.rip_eval_rows.proofs.steps.take_parts.Given as goal

abbrev pub invariant-loop : goal.invariant-loop
invariant-loop g l = record {
  fits : g.H.Host.fits l.host l.heap;
  run : (k : ℕ) → next_run g.H.Host.answers (g.R.Rows.table l.rows) l.at l.next (l.left + k) l.heap l.host ≡ next_run g.H.Host.answers (g.R.Rows.table l.rows) l.at l.fn.next (l.fn.left + k) l.fn.heap l.fn.host;
  within : l.left ≤ l.fn.left;
  grows : Grows l.fn.heap l.heap;
}

abbrev pub decreases-loop : goal.decreases-loop
decreases-loop g l = l.left
