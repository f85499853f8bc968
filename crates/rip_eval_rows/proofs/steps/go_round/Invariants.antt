use Rattle.std.proofs.Common.{◌≡◌, ℕ, ◌+◌, ◌-◌, ◌≤◌}
use Rattle.rip_heap.specs.Growth.{Grows}
use Rattle.rip_eval_rows.specs.Round.{rest_at}
use Rattle.rip_eval_rows.specs.Run.{run}
use Rattle.rip_eval_rows.proofs.steps.go_round.Given as goal

abbrev pub invariant-loop-last : goal.invariant-loop-last
invariant-loop-last g l = record {
  run : (k : ℕ) (host : g.row.H.Denot) → run g.H.Host.answers (g.R.Rows.table l.rows) (l.at.room - 1) (rest_at (g.R.Rows.table l.rows) l.at l.place l.completion l.heap) (l.left + k) host ≡ run g.H.Host.answers (g.R.Rows.table l.rows) (l.at.room - 1) (rest_at (g.R.Rows.table l.rows) l.at l.fn.wait l.fn.c l.fn.heap) (l.fn.left + k) host;
  within : l.left ≤ l.fn.left;
  grows : Grows l.fn.heap l.heap;
}

abbrev pub decreases-loop-last : goal.decreases-loop-last
decreases-loop-last g l = l.left
