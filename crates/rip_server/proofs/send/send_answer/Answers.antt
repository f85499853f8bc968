use Rattle.std.proofs.Common.{◌≡◌, ◌∙◌, List, ℕ, refl, subst}
use Rattle.rip_outer.specs.Outside.{Front}
use Rattle.rip_http.specs.Answers.{answer_text}
use Rattle.rip_server.proofs.ActLemmas.{stopped_none, acted_err}
use Rattle.rip_server.proofs.SendLemmas.{sent_in_part, unsent}
use Rattle.rip_server.proofs.send.send_answer.Goals as goal

pub returns-in_err-bytes-clause-acted : goal.returns-in_err-bytes-clause-acted
returns-in_err-bytes-clause-acted g c = acted_err c.from_residual.result _ _ _ c.from_residual.ensures.0 (stopped_none _ _)

pub returns-in-Failed-clause-acted : goal.returns-in-Failed-clause-acted
returns-in-Failed-clause-acted g c =
    let same : c.as_slice.result.now ≡ answer_text c.args.answer.now = c.as_slice.ensures ∙ c.in_ok-bytes.ensures in
    sent_in_part _ _ c.args.connection _ (answer_text c.args.answer.now)
    (record { others = c.send.ensures.others; shut = c.send.ensures.shuts; asked = c.send.ensures.asked; held = refl })
    (subst (λ (t : List ℕ). Front t (g.D.Door.sent c.args.door.now c.args.connection) (g.D.Door.sent c.send.new.self c.args.connection)) same c.in-Failed.ensures.sent)
    c.in-Failed.ensures.told c.in-Failed.ensures.left

pub returns-clause-acted : goal.returns-clause-acted
returns-clause-acted g c =
    unsent _ _ c.args.connection _
    (record { others = c.send.ensures.others; shut = c.send.ensures.shuts; asked = c.send.ensures.asked; held = refl })
    c.in-Memory.ensures.sent c.in-Memory.ensures.told c.in-Memory.ensures.left
