use Rattle.std.proofs.Common.{◌≡◌, ℕ, ◌+◌, ◌-◌, ◌≤◌, List, [], ◌++◌, ap, subst, sym, ◌∙◌, arith}
use Rattle.rip_base.specs.declared.value.Value.{Value}
use Rattle.rip_eval_rows.specs.Rest.{as_row, frame_of, room_in}
use Rattle.rip_eval_rows.specs.Run.{run}
use Rattle.rip_eval_rows.specs.Stack.{Frames, count_of_values, framed, last_values, without_last}
use Rattle.rip_eval_rows.proofs.Nested.{at_last, went_inside}
use Rattle.rip_eval_rows.proofs.Roomed.{count_split, went_values}
use Rattle.rip_eval_rows.proofs.StepLaws.{given_rest, no_values, settled_run}
use Rattle.rip_eval_rows.proofs.steps.give.Goals.{then-is_empty+in_ok-finish_alone, else-is_empty+in_ok-finish_beside}
use Rattle.rip_eval_rows.proofs.steps.give.Goals as goal

pub returns-clause-rest : goal.returns-clause-rest
returns-clause-rest g c k =
    let h = g.H.Host.answers in
    let t = g.R.Rows.table c.args.rows.now in
    let os = c.args.stack.now.frames in
    let frame = c.in-Some.frame.now in
    let values : List Value = last_values os in
    let row = t.rest (framed frame values) c.args.c.now c.args.heap.now in
    let v : ℕ = c.args.ahead.now.left + k in
    let then = c.if-is_empty in
    let ran : run h t (room_in frame) (as_row t frame.at then.ahead.next values then.heap) (then.ahead.left + k) then.host ≡ run h t (room_in frame) row v c.args.host.now =
    elim c.if-is_empty.branch [
      | then-is_empty+in_ok-finish_alone w ↦
          let none : values ≡ [] = sym c.values.ensures ∙ no_values c.is_empty.result c.values.result.now c.is_empty.ensures w.if-is_empty.true in
          let P : List Value → Type 0 = λ vs. run h t (room_in frame) (as_row t frame.at w.finish_alone.new.ahead.next vs w.finish_alone.new.heap) (w.finish_alone.new.ahead.left + k) w.finish_alone.new.host
          ≡ run h t (room_in frame) (t.rest (framed frame vs) c.args.c.now c.args.heap.now) v c.args.host.now in
          rw (w.ahead-is, w.heap-is, w.host-is) (subst P (sym none) (w.in_ok-finish_alone.ensures.run k))
      | else-is_empty+in_ok-finish_beside w ↦
          rw (w.ahead-is, w.heap-is, w.host-is) (settled_run h t frame.at w.finish_beside.new.next values row (room_in frame) v w.finish_beside.new.heap c.args.host.now w.finish_beside.new.host w.in_ok-finish_beside.ensures.row)
    ] in
    let same : c.if-is_empty.stack ≡ c.args.stack.now = elim c.if-is_empty.branch [
      | then-is_empty+in_ok-finish_alone w ↦ w.stack-is
      | else-is_empty+in_ok-finish_beside w ↦ w.stack-is ∙ w.in_ok-finish_beside.ensures.stack
    ] in
    let frames : c.reopen.new.stack.frames ≡ without_last os ++ frame_of frame.at then.ahead.next values =
    ap (λ (m : Frames). m.frames) c.reopen.ensures.frames ∙ ap (λ (m : Frames). without_last m.frames ++ frame_of frame.at then.ahead.next (last_values m.frames)) same in
    given_rest h t c.args.c.now then.ahead.next (without_last os) os c.reopen.new.stack.frames (framed frame values) c.reopen.new.control c.args.heap.now then.heap c.args.host.now then.host
    (then.ahead.left + k) v ran c.in-Some.ensures c.reopen.ensures.control frames

pub returns-clause-inside : goal.returns-clause-inside
returns-clause-inside g c =
    let os = c.args.stack.now.frames in
    let frame = c.in-Some.frame.now in
    let next = c.if-is_empty.ahead.next in
    let same : c.if-is_empty.stack ≡ c.args.stack.now = elim c.if-is_empty.branch [
      | then-is_empty+in_ok-finish_alone w ↦ w.stack-is
      | else-is_empty+in_ok-finish_beside w ↦ w.stack-is ∙ w.in_ok-finish_beside.ensures.stack
    ] in
    let went : c.reopen.new.stack ≡ record c.args.stack.now { frames = without_last os ++ frame_of frame.at next (last_values os) } =
    c.reopen.ensures.frames ∙ ap (λ (m : Frames). record m { frames = without_last m.frames ++ frame_of frame.at next (last_values m.frames) }) same in
    let last = at_last c.args.stack.now.most os (without_last os) (framed frame (last_values os)) c.in-Some.ensures c.requires.inside in
    went_inside c.args.stack.now c.reopen.new.stack frame.at next (last_values os) (without_last os) c.reopen.new.control last.0 last.2 last.1 c.reopen.ensures.control went

pub returns-clause-values : goal.returns-clause-values
returns-clause-values g c =
    let os = c.args.stack.now.frames in
    let frame = c.in-Some.frame.now in
    let next = c.if-is_empty.ahead.next in
    let same : c.if-is_empty.stack ≡ c.args.stack.now = elim c.if-is_empty.branch [
      | then-is_empty+in_ok-finish_alone w ↦ w.stack-is
      | else-is_empty+in_ok-finish_beside w ↦ w.stack-is ∙ w.in_ok-finish_beside.ensures.stack
    ] in
    let within : c.if-is_empty.ahead.left ≤ c.args.ahead.now.left = elim c.if-is_empty.branch [
      | then-is_empty+in_ok-finish_alone w ↦ rw w.ahead-is w.finish_alone.ensures.within
      | else-is_empty+in_ok-finish_beside w ↦ rw w.ahead-is (omega arith)
    ] in
    let went : c.reopen.new.stack ≡ record c.args.stack.now { frames = without_last os ++ frame_of frame.at next (last_values os) } =
    c.reopen.ensures.frames ∙ ap (λ (m : Frames). record m { frames = without_last m.frames ++ frame_of frame.at next (last_values m.frames) }) same in
    let split = count_split os (framed frame (last_values os)) c.in-Some.ensures in
    went_values c.args.stack.now c.reopen.new.stack frame.at next (last_values os) (without_last os) c.reopen.new.control c.if-is_empty.ahead.left (count_of_values os + c.args.ahead.now.left + 1) c.reopen.ensures.control went (omega (arith, split, within))
