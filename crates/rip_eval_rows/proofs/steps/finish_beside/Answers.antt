use Rattle.std.proofs.Common.{◌≡◌, List, [], ◌∷◌, ◌++◌, OnOk, ap, subst, ◌∙◌}
use Rattle.rip_base.specs.declared.value.Value.{Value}
use Rattle.rip_eval_rows.specs.Rest.{as_row}
use Rattle.rip_eval_rows.specs.Settle.{settle}
use Rattle.rip_eval_rows.specs.Stack.{Frames, framed, last_values, without_last}
use Rattle.rip_eval_rows.proofs.Joined.{last_values-push}
use Rattle.rip_eval_rows.proofs.Roomed.{taken, together}
use Rattle.rip_eval_rows.proofs.steps.finish_beside.Goals as goal

pub finish-then-requires-clause-all : goal.finish-then-requires-clause-all
finish-then-requires-clause-all g c _ =
    let os = c.args.stack.now.frames in
    let v = c.in-Normal.v in
    let all = c.values-all.ensures ∙ ap (λ (m : Frames). last_values m.frames) c.kept.ensures ∙ last_values-push (without_last os) (framed c.args.frame.now (last_values os ++ v ∷ [])) in
    together c.values-all.result.now (last_values os) v c.args.c.now c.in-Normal.is all

pub returns-in-Normal-clause-row : goal.returns-in-Normal-clause-row
returns-in-Normal-clause-row g c =
    let h = g.H.Host.answers in
    let t = g.R.Rows.table c.args.rows.now in
    let os = c.args.stack.now.frames in
    let frame = c.args.frame.now in
    let all = c.values-all.ensures ∙ ap (λ (m : Frames). last_values m.frames) c.kept.ensures ∙ last_values-push (without_last os) (framed frame (last_values os ++ c.in-Normal.v ∷ [])) in
    let P : List Value → Type 0 = λ vs. OnOk c.finish-then.result ((as_row t frame.at c.finish-then.new.next vs c.finish-then.new.heap, c.finish-then.new.host) ≡ settle h (t.rest (framed frame vs) c.args.c.now c.args.heap.now) c.args.host.now) in
    subst P (taken c.values-all.result.now (last_values os) c.in-Normal.v all) c.finish-then.ensures.row
