use Rattle.std.proofs.Common.{◌≡◌, ℕ, ◌+◌, ◌-◌, [], ◌∙◌}
use Rattle.rip_eval_rows.specs.Frame.{waiting}
use Rattle.rip_eval_rows.specs.Rest.{next_run}
use Rattle.rip_eval_rows.specs.Run.{run}
use Rattle.rip_eval_rows.specs.Stack.{framed}
use Rattle.rip_eval_rows.proofs.StepLaws.{ok_map, settled_run}
use Rattle.rip_eval_rows.proofs.steps.finish_alone.Goals as goal

pub returns-clause-run : goal.returns-clause-run
returns-clause-run g c =
    let h = g.H.Host.answers in
    let t = g.R.Rows.table c.args.rows.now in
    let at = c.args.at.now in
    let row = t.rest (framed (waiting at c.args.wait.now) []) c.args.c.now c.args.heap.now in
    let taken = c.take_parts.new in
    ok_map c.take_parts.result
    ((k : ℕ) → next_run h t at taken.next (taken.left + k) taken.heap taken.host ≡ next_run h t at c.finish.new.next (c.args.ahead.now.left + k) c.finish.new.heap c.finish.new.host)
    ((k : ℕ) → next_run h t at taken.next (taken.left + k) taken.heap taken.host ≡ run h t (at.room - 1) row (c.args.ahead.now.left + k) c.args.host.now)
    c.take_parts.ensures.run
    (λ ran k. ran k ∙ settled_run h t at c.finish.new.next [] row (at.room - 1) (c.args.ahead.now.left + k) c.finish.new.heap c.args.host.now c.finish.new.host c.in_ok-finish.ensures.row)
