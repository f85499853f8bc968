use Rattle.std.proofs.Common.{◌<◌, ◌∙◌, ℕ, length, ap, refl, subst}
use Rattle.std.specs.Prelude.{Ok}
use Rattle.rip_http.specs.Answers.{answer_text}
use Rattle.rip_server.specs.Links.{there_of, links_of}
use Rattle.rip_server.specs.declared.connection.Connection.{Connection}
use Rattle.rip_server.specs.declared.send.Reached.TheVariants.{Stays, Shut, Gone}
use Rattle.rip_server.proofs.ActLemmas.{answer_stopped, answer_done}
use Rattle.rip_server.proofs.LinkLemmas.{open_at_place, links_stay, links_forgot, there-without, same_at, when_true}
use Rattle.rip_server.proofs.PlaceLemmas.{got}
use Rattle.rip_server.proofs.connections.Connections.send.Goals as goal

pub send_answer-requires : goal.send_answer-requires
send_answer-requires g c =
    open_at_place (g.D.Door.is_open c.args.door.now) c.args.self.now.list.items c.args.place c.index.result.now c.requires.links.each
    (got c.args.self.now.list.items c.args.place c.index.result.now (subst (λ (n : ℕ). c.args.place < n) c.args.self.now.list.ok.0 c.requires.place) c.index.ensures)

pub returns-in_err-send_answer-clause-acted : goal.returns-in_err-send_answer-clause-acted
returns-in_err-send_answer-clause-acted g c = λ x e.
    answer_stopped c.from_residual.result c.index.result.now.number x.number c.args.answer.now.close (answer_text c.args.answer.now) _ _ c.from_residual.ensures.0
    (ap (λ (y : Connection). y.number) (same_at c.args.self.now.list.items c.args.place c.index.result.now x (got c.args.self.now.list.items c.args.place c.index.result.now (subst (λ (n : ℕ). c.args.place < n) c.args.self.now.list.ok.0 c.requires.place) c.index.ensures) e))
    c.in_err-send_answer.ensures.acted

pub returns-in-Stays-clause-links : goal.returns-in-Stays-clause-links
returns-in-Stays-clause-links g c =
    links_stay (g.D.Door.is_open c.args.door.now) (g.D.Door.is_open c.send_answer.new.door) (links_of c.args.self.now) c.index.result.now.number
    c.in_ok-send_answer.ensures.others (c.in_ok-send_answer.ensures.stays (ap Ok c.in-Stays.is)) c.requires.links

pub returns-in-Stays-clause-acted : goal.returns-in-Stays-clause-acted
returns-in-Stays-clause-acted g c = λ x e.
    answer_done c.in_ok-send_answer.field-0 Stays c.index.result.now.number x.number c.args.answer.now.close (answer_text c.args.answer.now) _ _ c.in-Stays.is
    (ap (λ (y : Connection). y.number) (same_at c.args.self.now.list.items c.args.place c.index.result.now x (got c.args.self.now.list.items c.args.place c.index.result.now (subst (λ (n : ℕ). c.args.place < n) c.args.self.now.list.ok.0 c.requires.place) c.index.ensures) e))
    c.in_ok-send_answer.ensures.acted

pub returns-in-Shut-clause-links : goal.returns-in-Shut-clause-links
returns-in-Shut-clause-links g c =
    links_forgot (g.D.Door.is_open c.args.door.now) (g.D.Door.is_open c.send_answer.new.door) c.args.self.now.opened c.forget.new.self.opened
    c.args.self.now.list.items c.forget.new.self.list.items c.args.place c.index.result.now c.requires.links
    (got c.args.self.now.list.items c.args.place c.index.result.now (subst (λ (n : ℕ). c.args.place < n) c.args.self.now.list.ok.0 c.requires.place) c.index.ensures)
    c.in_ok-send_answer.ensures.others c.forget.ensures.list c.forget.ensures.opened

pub returns-in-Shut-clause-after : goal.returns-in-Shut-clause-after
returns-in-Shut-clause-after g c = λ x e.
    when_true c.args.answer.now.close _ _ _ (c.in_ok-send_answer.ensures.reached.0 c.in-Shut.is)
    (ap there_of c.forget.ensures.list ∙ there-without c.args.self.now.list.items c.args.self.now.opened c.args.place x c.requires.links.rising e)

pub returns-in-Shut-clause-acted : goal.returns-in-Shut-clause-acted
returns-in-Shut-clause-acted g c = λ x e.
    answer_done c.in_ok-send_answer.field-0 Shut c.index.result.now.number x.number c.args.answer.now.close (answer_text c.args.answer.now) _ _ c.in-Shut.is
    (ap (λ (y : Connection). y.number) (same_at c.args.self.now.list.items c.args.place c.index.result.now x (got c.args.self.now.list.items c.args.place c.index.result.now (subst (λ (n : ℕ). c.args.place < n) c.args.self.now.list.ok.0 c.requires.place) c.index.ensures) e))
    c.in_ok-send_answer.ensures.acted

pub returns-in-Gone-clause-links : goal.returns-in-Gone-clause-links
returns-in-Gone-clause-links g c =
    links_forgot (g.D.Door.is_open c.args.door.now) (g.D.Door.is_open c.send_answer.new.door) c.args.self.now.opened c.forget-in-Gone.new.self.opened
    c.args.self.now.list.items c.forget-in-Gone.new.self.list.items c.args.place c.index.result.now c.requires.links
    (got c.args.self.now.list.items c.args.place c.index.result.now (subst (λ (n : ℕ). c.args.place < n) c.args.self.now.list.ok.0 c.requires.place) c.index.ensures)
    c.in_ok-send_answer.ensures.others c.forget-in-Gone.ensures.list c.forget-in-Gone.ensures.opened

pub returns-in-Gone-clause-after : goal.returns-in-Gone-clause-after
returns-in-Gone-clause-after g c = λ x e.
    ap there_of c.forget-in-Gone.ensures.list ∙ there-without c.args.self.now.list.items c.args.self.now.opened c.args.place x c.requires.links.rising e

pub returns-in-Gone-clause-acted : goal.returns-in-Gone-clause-acted
returns-in-Gone-clause-acted g c = λ x e.
    answer_done c.in_ok-send_answer.field-0 Gone c.index.result.now.number x.number c.args.answer.now.close (answer_text c.args.answer.now) _ _ c.in-Gone.is
    (ap (λ (y : Connection). y.number) (same_at c.args.self.now.list.items c.args.place c.index.result.now x (got c.args.self.now.list.items c.args.place c.index.result.now (subst (λ (n : ℕ). c.args.place < n) c.args.self.now.list.ok.0 c.requires.place) c.index.ensures) e))
    c.in_ok-send_answer.ensures.acted
