use Rattle.std.proofs.Common.{◌≡◌, ◌+◌, ◌*◌, ◌≤◌}
use Rattle.rip_heap.specs.Growth.{Grows}
use Rattle.rip_eval_rows.specs.Law.{SameRest, weight}
use Rattle.rip_eval_rows.specs.Nesting.{IsInside}
use Rattle.rip_eval_rows.specs.Room.{most_values}
use Rattle.rip_eval_rows.proofs.steps.steps.Given as goal

abbrev pub invariant-loop : goal.invariant-loop
invariant-loop g l = record {
  fits : g.H.Host.fits l.host l.heap;
  rest : SameRest g.H.Host.answers (g.R.Rows.table l.rows) l.fn.ahead.control l.fn.stack.frames l.fn.ahead.left l.fn.heap l.fn.host l.ahead.control l.stack.frames l.ahead.left l.heap l.host;
  within : l.ahead.left ≤ l.fn.ahead.left;
  inside : IsInside l.stack.most l.ahead.control l.stack.frames;
  values : most_values l.ahead.control l.stack.frames l.ahead.left ≤ most_values l.fn.ahead.control l.fn.stack.frames l.fn.ahead.left;
  most : (l.stack.most ≡ l.fn.stack.most) × (l.fn.stack.room ≤ l.stack.room);
  grows : Grows l.fn.heap l.heap;
}

abbrev pub decreases-loop : goal.decreases-loop
decreases-loop g l = 3 * l.ahead.left + weight l.ahead.control l.stack.frames
