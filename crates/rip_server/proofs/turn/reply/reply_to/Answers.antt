use Rattle.std.proofs.Common.{◌<◌, ℕ, None, ap, subst}
use Rattle.std.specs.Prelude.{option_map}
use Rattle.rip_server.specs.Acts.{seen}
use Rattle.rip_server.specs.Links.{owed_of, link_of, there_of}
use Rattle.rip_server.proofs.LinkLemmas.{there-get}
use Rattle.rip_server.proofs.ReplyLemmas.{nothing_owed, replied_sent, replied_cut, replied_later, stays_now, stays_later, waits_at, links_later}
use Rattle.rip_server.proofs.turn.reply.reply_to.Goals as goal

pub returns-in_err-send-in-Now-clause-replied : goal.returns-in_err-send-in-Now-clause-replied
returns-in_err-send-in-Now-clause-replied g c = λ x held e free closes.
    replied_cut c.args.reply c.in-Now.answer c.from_residual.result x.number c.args.close (there_of c.args.connections.now.list.items) _
    (seen (g.D.Door.sent c.args.door.now) (g.D.Door.knocks c.args.door.now) (g.D.Door.shuts c.args.door.now) (g.D.Door.asked c.args.door.now) None)
    (seen (g.D.Door.sent c.send.new.door) (g.D.Door.knocks c.send.new.door) (g.D.Door.shuts c.send.new.door) (g.D.Door.asked c.send.new.door) None)
    held c.in-Now.is closes c.from_residual.ensures.0 (c.in_err-send-in-Now.ensures.acted x e)

pub returns-in_ok-send-in-Now-clause-replied : goal.returns-in_ok-send-in-Now-clause-replied
returns-in_ok-send-in-Now-clause-replied g c = λ x held e free closes.
    let items = c.args.connections.now.list.items in
    let nothing = nothing_owed (there_of items) c.args.connections.now.opened c.args.place (link_of x) c.requires.links.rising (there-get items c.args.place x e)
    (ap (option_map owed_of) free) in
    replied_sent c.args.reply c.in-Now.answer c.in_ok-send-in-Now.field-0 x.number c.args.close (there_of items) _
    (seen (g.D.Door.sent c.args.door.now) (g.D.Door.knocks c.args.door.now) (g.D.Door.shuts c.args.door.now) (g.D.Door.asked c.args.door.now) None)
    (seen (g.D.Door.sent c.send.new.door) (g.D.Door.knocks c.send.new.door) (g.D.Door.shuts c.send.new.door) (g.D.Door.asked c.send.new.door) None)
    held c.in-Now.is closes nothing (c.in_ok-send-in-Now.ensures.after x e) (c.in_ok-send-in-Now.ensures.acted x e)

pub returns-in_ok-send-in-Now-clause-stays : goal.returns-in_ok-send-in-Now-clause-stays
returns-in_ok-send-in-Now-clause-stays g c = λ x e free.
    let items = c.args.connections.now.list.items in
    let nothing = nothing_owed (there_of items) c.args.connections.now.opened c.args.place (link_of x) c.requires.links.rising (there-get items c.args.place x e)
    (ap (option_map owed_of) free) in
    stays_now c.in_ok-send-in-Now.field-0 x.number c.in-Now.answer.close (there_of items) _ nothing (c.in_ok-send-in-Now.ensures.after x e)

pub returns-in-Later-clause-links : goal.returns-in-Later-clause-links
returns-in-Later-clause-links g c =
    links_later (g.D.Door.is_open c.args.door.now) c.args.connections.now c.wait.new.connections c.args.place _ c.requires.links
    (subst (λ (n : ℕ). c.args.place < n) c.args.connections.now.list.ok.0 c.requires.place) c.wait.ensures.list c.wait.ensures.opened

pub returns-in-Later-clause-replied : goal.returns-in-Later-clause-replied
returns-in-Later-clause-replied g c = λ x held e free closes.
    let items = c.args.connections.now.list.items in
    replied_later c.args.reply c.in-Later.session x.number c.args.close (there_of items) _ _ c.in-Later.is
    (waits_at items c.wait.new.connections.list.items c.args.connections.now.opened c.args.place x (record { session = c.in-Later.session; close = c.args.close })
    c.requires.links.rising e (c.wait.ensures.list x e))

pub returns-in-Later-clause-stays : goal.returns-in-Later-clause-stays
returns-in-Later-clause-stays g c = λ x e free.
    let items = c.args.connections.now.list.items in
    stays_later c.in-Later.session x.number c.args.close (there_of items) _
    (waits_at items c.wait.new.connections.list.items c.args.connections.now.opened c.args.place x (record { session = c.in-Later.session; close = c.args.close })
    c.requires.links.rising e (c.wait.ensures.list x e))
