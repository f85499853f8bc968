use Rattle.std.proofs.Common.{◌≡◌, ◌<◌, ◌∙◌, ℕ, List, drop, sym, ap, subst}
use Rattle.std.specs.Prelude.{slice_get, option_map}
use Rattle.rip_http.specs.Stream.{refuses, IsNext}
use Rattle.rip_server.specs.Acts.{seen}
use Rattle.rip_server.specs.Links.{owed_of, link_of, links_of, there_of}
use Rattle.rip_server.specs.declared.connection.Connection.{Connection}
use Rattle.rip_server.proofs.LinkLemmas.{same_at, there-get}
use Rattle.rip_server.proofs.PlaceLemmas.{got_below}
use Rattle.rip_server.specs.Handling.{state_of, Refused}
use Rattle.rip_server.proofs.FrontLemmas.{due_free, due_waits}
use Rattle.rip_server.proofs.MessageLemmas.{handled_memory}
use Rattle.rip_server.proofs.ReplyLemmas.{exists_at}
use Rattle.rip_server.proofs.TakenLemmas.{none_taken, links_kept, took_at, free_at, message_less, refusal_less, message_handled, refusal_handled, refusal_told, waits_told, memory_told}
use Rattle.rip_server.proofs.turn.handle.handle_at.Goals as goal

pub on_message-requires-clause-place : goal.on_message-requires-clause-place
on_message-requires-clause-place g c =
    let before = c.args.connections.now in
    let after = c.take_front.new.connections in
    let (x, e) = exists_at before.list.items c.args.place (subst (λ (n : ℕ). c.args.place < n) before.list.ok.0 c.requires.place) in
    let (left, told, list) = c.take_front.ensures.taken x e in
    let took = took_at (g.D.Door.is_open c.args.door.now) before after c.args.place x c.in-Message.message c.take_front.result left c.requires.links e c.in-Message.is told list c.take_front.ensures.opened in
    subst (λ (n : ℕ). c.args.place < n) (sym after.list.ok.0) (got_below after.list.items c.args.place _ took.at)

pub on_message-requires-clause-links : goal.on_message-requires-clause-links
on_message-requires-clause-links g c =
    let before = c.args.connections.now in
    let after = c.take_front.new.connections in
    let (x, e) = exists_at before.list.items c.args.place (subst (λ (n : ℕ). c.args.place < n) before.list.ok.0 c.requires.place) in
    let (left, told, list) = c.take_front.ensures.taken x e in
    let took = took_at (g.D.Door.is_open c.args.door.now) before after c.args.place x c.in-Message.message c.take_front.result left c.requires.links e c.in-Message.is told list c.take_front.ensures.opened in
    took.links

pub on_message-requires-clause-free : goal.on_message-requires-clause-free
on_message-requires-clause-free g c =
    let before = c.args.connections.now in
    let after = c.take_front.new.connections in
    let (x, e) = exists_at before.list.items c.args.place (subst (λ (n : ℕ). c.args.place < n) before.list.ok.0 c.requires.place) in
    let (left, told, list) = c.take_front.ensures.taken x e in
    let took = took_at (g.D.Door.is_open c.args.door.now) before after c.args.place x c.in-Message.message c.take_front.result left c.requires.links e c.in-Message.is told list c.take_front.ensures.opened in
    free_at after c.args.place x (drop took.size x.conn) took.at (due_free x (c.requires.due x e))

pub refuse-requires-clause-place : goal.refuse-requires-clause-place
refuse-requires-clause-place g c =
    let before = c.args.connections.now in
    let after = c.take_front.new.connections in
    let (x, e) = exists_at before.list.items c.args.place (subst (λ (n : ℕ). c.args.place < n) before.list.ok.0 c.requires.place) in
    let (left, told, list) = c.take_front.ensures.taken x e in
    let (n, r, next, code, same) = refusal_told x c.take_front.result left c.in-Refused.code c.in-Refused.is told in
    let items = none_taken before after c.args.place x left e same list in
    subst (λ (k : ℕ). c.args.place < k) (sym after.list.ok.0)
    (got_below after.list.items c.args.place x (ap (λ (xs : List Connection). slice_get xs c.args.place) items ∙ e))

pub refuse-requires-clause-links : goal.refuse-requires-clause-links
refuse-requires-clause-links g c =
    let before = c.args.connections.now in
    let after = c.take_front.new.connections in
    let (x, e) = exists_at before.list.items c.args.place (subst (λ (n : ℕ). c.args.place < n) before.list.ok.0 c.requires.place) in
    let (left, told, list) = c.take_front.ensures.taken x e in
    let (n, r, next, code, same) = refusal_told x c.take_front.result left c.in-Refused.code c.in-Refused.is told in
    let items = none_taken before after c.args.place x left e same list in
    links_kept (g.D.Door.is_open c.args.door.now) before after items c.take_front.ensures.opened c.requires.links

pub refuse-requires-clause-refused : goal.refuse-requires-clause-refused
refuse-requires-clause-refused g c = λ y f.
    let before = c.args.connections.now in
    let after = c.take_front.new.connections in
    let (x, e) = exists_at before.list.items c.args.place (subst (λ (n : ℕ). c.args.place < n) before.list.ok.0 c.requires.place) in
    let (left, told, list) = c.take_front.ensures.taken x e in
    let (n, r, next, code, same) = refusal_told x c.take_front.result left c.in-Refused.code c.in-Refused.is told in
    let items = none_taken before after c.args.place x left e same list in
    let is : y ≡ x = same_at after.list.items c.args.place y x f (ap (λ (xs : List Connection). slice_get xs c.args.place) items ∙ e) in
    (n, r, subst (λ (z : Connection). IsNext z.conn (refuses n r)) (sym is) next, code)

pub returns-in-Message-clause-less : goal.returns-in-Message-clause-less
returns-in-Message-clause-less g c =
    let before = c.args.connections.now in
    let after = c.take_front.new.connections in
    let (x, e) = exists_at before.list.items c.args.place (subst (λ (n : ℕ). c.args.place < n) before.list.ok.0 c.requires.place) in
    let (left, told, list) = c.take_front.ensures.taken x e in
    let took = took_at (g.D.Door.is_open c.args.door.now) before after c.args.place x c.in-Message.message c.take_front.result left c.requires.links e c.in-Message.is told list c.take_front.ensures.opened in
    message_less before c.args.place x c.in-Message.message took.size c.on_message.result (there_of after.list.items) (there_of c.on_message.new.connections.list.items)
    c.requires.links.rising e took.next took.there (c.on_message.ensures.stays (record x { conn = drop took.size x.conn }) took.at)

pub returns-in-Message-clause-handled : goal.returns-in-Message-clause-handled
returns-in-Message-clause-handled g c = λ site h stages is quiet.
    let before = c.args.connections.now in
    let after = c.take_front.new.connections in
    let (x, e) = exists_at before.list.items c.args.place (subst (λ (n : ℕ). c.args.place < n) before.list.ok.0 c.requires.place) in
    let (left, told, list) = c.take_front.ensures.taken x e in
    let took = took_at (g.D.Door.is_open c.args.door.now) before after c.args.place x c.in-Message.message c.take_front.result left c.requires.links e c.in-Message.is told list c.take_front.ensures.opened in
    message_handled (g.S.Sessions.stands c.args.sessions.now) (g.S.Sessions.meaning c.args.sessions.now) site c.args.at.turn c.args.at.time c.args.place
    before c.on_message.new.connections c.on_message.new.roll h stages x c.in-Message.message took.size c.on_message.result (there_of after.list.items) _ _ _ _
    c.requires.links.rising quiet e (due_free x (c.requires.due x e)) took.next took.there (c.on_message.ensures.opened ∙ c.take_front.ensures.opened)
    (c.on_message.ensures.handled site.limit h stages (record x { conn = drop took.size x.conn }) is took.at)

pub returns-in-Refused-clause-less : goal.returns-in-Refused-clause-less
returns-in-Refused-clause-less g c =
    let before = c.args.connections.now in
    let after = c.take_front.new.connections in
    let (x, e) = exists_at before.list.items c.args.place (subst (λ (n : ℕ). c.args.place < n) before.list.ok.0 c.requires.place) in
    let (left, told, list) = c.take_front.ensures.taken x e in
    let (n, r, next, code, same) = refusal_told x c.take_front.result left c.in-Refused.code c.in-Refused.is told in
    let items = none_taken before after c.args.place x left e same list in
    let old = seen (g.D.Door.sent c.args.door.now) (g.D.Door.knocks c.args.door.now) (g.D.Door.shuts c.args.door.now) (g.D.Door.asked c.args.door.now) (g.K.Sink.held c.args.out.now) in
    let new = seen (g.D.Door.sent c.refuse.new.door) (g.D.Door.knocks c.refuse.new.door) (g.D.Door.shuts c.refuse.new.door) (g.D.Door.asked c.refuse.new.door) (g.K.Sink.held c.args.out.now) in
    refusal_less before c.args.place x r c.refuse.result (there_of c.refuse.new.connections.list.items) old new c.requires.links.rising e
    (subst (λ (t : List Connection). Refused x.number r c.refuse.result (there_of t) (there_of c.refuse.new.connections.list.items) old new) items
    (c.refuse.ensures.refused x n r (g.K.Sink.held c.args.out.now) (ap (λ (xs : List Connection). slice_get xs c.args.place) items ∙ e) next code))

pub returns-in-Refused-clause-handled : goal.returns-in-Refused-clause-handled
returns-in-Refused-clause-handled g c = λ site h stages is quiet.
    let before = c.args.connections.now in
    let after = c.take_front.new.connections in
    let (x, e) = exists_at before.list.items c.args.place (subst (λ (n : ℕ). c.args.place < n) before.list.ok.0 c.requires.place) in
    let (left, told, list) = c.take_front.ensures.taken x e in
    let (n, r, next, code, same) = refusal_told x c.take_front.result left c.in-Refused.code c.in-Refused.is told in
    let items = none_taken before after c.args.place x left e same list in
    let old = seen (g.D.Door.sent c.args.door.now) (g.D.Door.knocks c.args.door.now) (g.D.Door.shuts c.args.door.now) (g.D.Door.asked c.args.door.now) (g.K.Sink.held c.args.out.now) in
    let new = seen (g.D.Door.sent c.refuse.new.door) (g.D.Door.knocks c.refuse.new.door) (g.D.Door.shuts c.refuse.new.door) (g.D.Door.asked c.refuse.new.door) (g.K.Sink.held c.args.out.now) in
    refusal_handled (g.S.Sessions.stands c.args.sessions.now) (g.S.Sessions.meaning c.args.sessions.now) site c.args.at.turn c.args.at.time c.args.place
    before c.refuse.new.connections c.args.roll.now h stages x n r c.refuse.result old new _
    c.requires.links.rising quiet e (due_free x (c.requires.due x e)) next (c.refuse.ensures.opened ∙ c.take_front.ensures.opened) is
    (subst (λ (t : List Connection). Refused x.number r c.refuse.result (there_of t) (there_of c.refuse.new.connections.list.items) old new) items
    (c.refuse.ensures.refused x n r (g.K.Sink.held c.args.out.now) (ap (λ (xs : List Connection). slice_get xs c.args.place) items ∙ e) next code))

pub returns-in-NotYet-clause-links : goal.returns-in-NotYet-clause-links
returns-in-NotYet-clause-links g c =
    let before = c.args.connections.now in
    let (x, e) = exists_at before.list.items c.args.place (subst (λ (n : ℕ). c.args.place < n) before.list.ok.0 c.requires.place) in
    let (left, told, list) = c.take_front.ensures.taken x e in
    let (next, same) = waits_told x c.take_front.result left c.in-NotYet.is told in
    absurd (due_waits x (c.requires.due x e) next)

pub returns-in-NotYet-clause-less : goal.returns-in-NotYet-clause-less
returns-in-NotYet-clause-less g c =
    let before = c.args.connections.now in
    let (x, e) = exists_at before.list.items c.args.place (subst (λ (n : ℕ). c.args.place < n) before.list.ok.0 c.requires.place) in
    let (left, told, list) = c.take_front.ensures.taken x e in
    let (next, same) = waits_told x c.take_front.result left c.in-NotYet.is told in
    absurd (due_waits x (c.requires.due x e) next)

pub returns-in-NotYet-clause-handled : goal.returns-in-NotYet-clause-handled
returns-in-NotYet-clause-handled g c =
    let before = c.args.connections.now in
    let (x, e) = exists_at before.list.items c.args.place (subst (λ (n : ℕ). c.args.place < n) before.list.ok.0 c.requires.place) in
    let (left, told, list) = c.take_front.ensures.taken x e in
    let (next, same) = waits_told x c.take_front.result left c.in-NotYet.is told in
    absurd (due_waits x (c.requires.due x e) next)

pub returns-in-Memory-clause-handled : goal.returns-in-Memory-clause-handled
returns-in-Memory-clause-handled g c = λ site h stages is quiet.
    let before = c.args.connections.now in
    let (x, e) = exists_at before.list.items c.args.place (subst (λ (n : ℕ). c.args.place < n) before.list.ok.0 c.requires.place) in
    let (left, told, list) = c.take_front.ensures.taken x e in
    let (n, m, next, same) = memory_told x c.take_front.result left c.in-Memory.is told in
    handled_memory site c.args.at.turn c.args.at.time (state_of (links_of before) h stages) c.args.place n (link_of x) m _ _ _ _ quiet
    (there-get before.list.items c.args.place x e) (ap (option_map owed_of) (due_free x (c.requires.due x e))) next
