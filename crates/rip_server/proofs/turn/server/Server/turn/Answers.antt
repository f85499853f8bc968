use Rattle.std.proofs.Common.{◌+◌, sym, subst}
use Rattle.std.specs.Prelude.{Ok, Err}
use Rattle.rip_history.specs.Run.{State, AreQuiet, called_so_far, after_handlings, after_advances}
use Rattle.rip_server.specs.Acts.{seen}
use Rattle.rip_server.specs.Links.{links_of}
use Rattle.rip_server.specs.Handling.{AreAt}
use Rattle.rip_server.specs.Turning.{outer, source, site_of}
use Rattle.rip_server.proofs.SourceLemmas.{gives_none, gives_one}
use Rattle.rip_server.proofs.TurnLemmas.{knocked_so, handled_calls, stops_at_knock, stops_in_handling, stops_in_advance, turns_whole}
use Rattle.rip_server.proofs.WholeLemmas.{turns_err, handled_behind, advanced_behind, turned_map}
use Rattle.rip_server.proofs.turn.server.Server.turn.Goals as goal

pub returns-in_err-closed-clause-turned : goal.returns-in_err-closed-clause-turned
returns-in_err-closed-clause-turned g c = λ state meant is replies.
    let stands = g.S.Sessions.stands c.args.site.now.sessions.now in
    let m = g.S.Sessions.meaning c.args.site.now.sessions.now in
    let limit = c.args.site.now.limit in
    let site = site_of m meant limit c.args.site.now.page.now in
    let turn = c.args.self.now.turns + 1 in
    let asking = c.is_asking-busy.ensures limit state is.connections is.roll.kept in
    let old =
    outer (seen (g.D.Door.sent c.args.door.now) (g.D.Door.knocks c.args.door.now) (g.D.Door.shuts c.args.door.now) (g.D.Door.asked c.args.door.now) (g.K.Sink.held c.args.out.now))
    (source (g.C.Clock.told c.args.clock.now) (g.C.Clock.coming c.args.clock.now)) (source (g.W.Words.told c.args.words.now) (g.W.Words.coming c.args.words.now)) (g.D.Door.count c.args.door.now) (g.K.Sink.count c.args.out.now) in
    let new =
    outer (seen (g.D.Door.sent c.knock.new.door) (g.D.Door.knocks c.knock.new.door) (g.D.Door.shuts c.knock.new.door) (g.D.Door.asked c.knock.new.door) (g.K.Sink.held c.args.out.now))
    (source (g.C.Clock.told c.args.clock.now) (g.C.Clock.coming c.args.clock.now)) (source (g.W.Words.told c.args.words.now) (g.W.Words.coming c.args.words.now)) (g.D.Door.count c.knock.new.door) (g.K.Sink.count c.args.out.now) in
    turns_err site turn state c.from_residual.result _ old new c.from_residual.ensures.0
    (stops_at_knock site turn state old new (c.in_err-closed.ensures.knocked state (g.K.Sink.held c.args.out.now) is.connections asking) (gives_none old.clock) (gives_none old.words))

pub returns-in_err-handle_all-clause-turned : goal.returns-in_err-handle_all-clause-turned
returns-in_err-handle_all-clause-turned g c = λ state meant is replies.
    let stands = g.S.Sessions.stands c.args.site.now.sessions.now in
    let m = g.S.Sessions.meaning c.args.site.now.sessions.now in
    let limit = c.args.site.now.limit in
    let site = site_of m meant limit c.args.site.now.page.now in
    let turn = c.args.self.now.turns + 1 in
    let asking = c.is_asking-busy.ensures limit state is.connections is.roll.kept in
    let old =
    outer (seen (g.D.Door.sent c.args.door.now) (g.D.Door.knocks c.args.door.now) (g.D.Door.shuts c.args.door.now) (g.D.Door.asked c.args.door.now) (g.K.Sink.held c.args.out.now))
    (source (g.C.Clock.told c.args.clock.now) (g.C.Clock.coming c.args.clock.now)) (source (g.W.Words.told c.args.words.now) (g.W.Words.coming c.args.words.now)) (g.D.Door.count c.args.door.now) (g.K.Sink.count c.args.out.now) in
    let time = c.now.result in
    let k = links_of c.knock.new.connections in
    let knocked = (seen (g.D.Door.sent c.knock.new.door) (g.D.Door.knocks c.knock.new.door) (g.D.Door.shuts c.knock.new.door) (g.D.Door.asked c.knock.new.door) (g.K.Sink.held c.args.out.now)) in
    let kn = c.in_ok-closed.ensures.knocked state (g.K.Sink.held c.args.out.now) is.connections asking in
    let After : Unit {0} → State → Type 0 =
    (λ u z. AreAt stands m limit c.handle_all.new.connections c.handle_all.new.roll z × AreQuiet (let x = z.connections in x.there)) in
    let halt = c.in_err-handle_all.field-0.0 in
    let new =
    outer (seen (g.D.Door.sent c.handle_all.new.door) (g.D.Door.knocks c.handle_all.new.door) (g.D.Door.shuts c.handle_all.new.door) (g.D.Door.asked c.handle_all.new.door) (g.K.Sink.held c.handle_all.new.out))
    (source (g.C.Clock.told c.now.new.self) (g.C.Clock.coming c.now.new.self)) (source (g.W.Words.told c.handle_all.new.words) (g.W.Words.coming c.handle_all.new.words)) (g.D.Door.count c.handle_all.new.door) (g.K.Sink.count c.handle_all.new.out) in
    turns_err site turn state c.from_residual-in_err-handle_all.result _ old new c.from_residual-in_err-handle_all.ensures.0
    (stops_in_handling site turn time state c.in_ok-closed.closed halt k After knocked old new kn
    (handled_behind site turn time state kn.knock k (Err halt) After knocked new.seen old.words new.words kn.after
    (c.in_err-handle_all.ensures.handled site state.history state.stages is.roll))
    (gives_one time old.clock new.clock c.now.ensures.told c.now.ensures.first c.now.ensures.others) c.now.ensures.bound)

pub returns-in_err-advance_all-clause-turned : goal.returns-in_err-advance_all-clause-turned
returns-in_err-advance_all-clause-turned g c = λ state meant is replies.
    let stands = g.S.Sessions.stands c.args.site.now.sessions.now in
    let m = g.S.Sessions.meaning c.args.site.now.sessions.now in
    let limit = c.args.site.now.limit in
    let site = site_of m meant limit c.args.site.now.page.now in
    let turn = c.args.self.now.turns + 1 in
    let asking = c.is_asking-busy.ensures limit state is.connections is.roll.kept in
    let old =
    outer (seen (g.D.Door.sent c.args.door.now) (g.D.Door.knocks c.args.door.now) (g.D.Door.shuts c.args.door.now) (g.D.Door.asked c.args.door.now) (g.K.Sink.held c.args.out.now))
    (source (g.C.Clock.told c.args.clock.now) (g.C.Clock.coming c.args.clock.now)) (source (g.W.Words.told c.args.words.now) (g.W.Words.coming c.args.words.now)) (g.D.Door.count c.args.door.now) (g.K.Sink.count c.args.out.now) in
    let time = c.now.result in
    let k = links_of c.knock.new.connections in
    let knocked = (seen (g.D.Door.sent c.knock.new.door) (g.D.Door.knocks c.knock.new.door) (g.D.Door.shuts c.knock.new.door) (g.D.Door.asked c.knock.new.door) (g.K.Sink.held c.args.out.now)) in
    let kn = c.in_ok-closed.ensures.knocked state (g.K.Sink.held c.args.out.now) is.connections asking in
    let After : Unit {0} → State → Type 0 =
    (λ u z. AreAt stands m limit c.handle_all.new.connections c.handle_all.new.roll z × AreQuiet (let x = z.connections in x.there)) in
    let mid = (seen (g.D.Door.sent c.handle_all.new.door) (g.D.Door.knocks c.handle_all.new.door) (g.D.Door.shuts c.handle_all.new.door) (g.D.Door.asked c.handle_all.new.door) (g.K.Sink.held c.handle_all.new.out)) in
    let words = source (g.W.Words.told c.handle_all.new.words) (g.W.Words.coming c.handle_all.new.words) in
    let handled = handled_behind site turn time state kn.knock k (Ok tt) After knocked mid old.words words kn.after
    (c.in_ok-handle_all.ensures.handled site state.history state.stages is.roll) in
    let next = after_handlings site turn time (knocked_so state kn.knock) handled.handlings in
    let calls = subst (g.V.Service.replies_as c.args.service.now meant) (sym (handled_calls site turn time (knocked_so state kn.knock) handled.handlings)) replies in
    let Next : State → Type 0 =
    (λ z. AreAt stands m limit c.advance_all.new.connections c.advance_all.new.roll z × g.V.Service.replies_as c.advance_all.new.service meant (called_so_far z.history)) in
    let new =
    outer (seen (g.D.Door.sent c.advance_all.new.door) (g.D.Door.knocks c.advance_all.new.door) (g.D.Door.shuts c.advance_all.new.door) (g.D.Door.asked c.advance_all.new.door) (g.K.Sink.held c.advance_all.new.out))
    (source (g.C.Clock.told c.now.new.self) (g.C.Clock.coming c.now.new.self)) (source (g.W.Words.told c.handle_all.new.words) (g.W.Words.coming c.handle_all.new.words)) (g.D.Door.count c.advance_all.new.door) (g.K.Sink.count c.advance_all.new.out) in
    let halt = c.in_err-advance_all.field-0.0 in
    let advanced = advanced_behind stands m limit c.handle_all.new.connections c.handle_all.new.roll site turn time next (Err halt) Next mid new.seen
    c.in_ok-handle_all.ensures.rest handled.after.0 (λ roll. c.in_err-advance_all.ensures.advanced meant limit next.history next.stages roll calls) in
    turns_err site turn state c.from_residual-in_err-advance_all.result _ old new c.from_residual-in_err-advance_all.ensures.0
    (stops_in_advance site turn time state c.in_ok-closed.closed tt halt k After Next knocked mid old new kn handled handled.after.1 advanced
    (gives_one time old.clock new.clock c.now.ensures.told c.now.ensures.first c.now.ensures.others) c.now.ensures.bound)

pub returns-clause-turned : goal.returns-clause-turned
returns-clause-turned g c = λ state meant is replies.
    let stands = g.S.Sessions.stands c.args.site.now.sessions.now in
    let m = g.S.Sessions.meaning c.args.site.now.sessions.now in
    let limit = c.args.site.now.limit in
    let site = site_of m meant limit c.args.site.now.page.now in
    let turn = c.args.self.now.turns + 1 in
    let asking = c.is_asking-busy.ensures limit state is.connections is.roll.kept in
    let old =
    outer (seen (g.D.Door.sent c.args.door.now) (g.D.Door.knocks c.args.door.now) (g.D.Door.shuts c.args.door.now) (g.D.Door.asked c.args.door.now) (g.K.Sink.held c.args.out.now))
    (source (g.C.Clock.told c.args.clock.now) (g.C.Clock.coming c.args.clock.now)) (source (g.W.Words.told c.args.words.now) (g.W.Words.coming c.args.words.now)) (g.D.Door.count c.args.door.now) (g.K.Sink.count c.args.out.now) in
    let time = c.now.result in
    let k = links_of c.knock.new.connections in
    let knocked = (seen (g.D.Door.sent c.knock.new.door) (g.D.Door.knocks c.knock.new.door) (g.D.Door.shuts c.knock.new.door) (g.D.Door.asked c.knock.new.door) (g.K.Sink.held c.args.out.now)) in
    let kn = c.in_ok-closed.ensures.knocked state (g.K.Sink.held c.args.out.now) is.connections asking in
    let After : Unit {0} → State → Type 0 =
    (λ u z. AreAt stands m limit c.handle_all.new.connections c.handle_all.new.roll z × AreQuiet (let x = z.connections in x.there)) in
    let mid = (seen (g.D.Door.sent c.handle_all.new.door) (g.D.Door.knocks c.handle_all.new.door) (g.D.Door.shuts c.handle_all.new.door) (g.D.Door.asked c.handle_all.new.door) (g.K.Sink.held c.handle_all.new.out)) in
    let words = source (g.W.Words.told c.handle_all.new.words) (g.W.Words.coming c.handle_all.new.words) in
    let handled = handled_behind site turn time state kn.knock k (Ok tt) After knocked mid old.words words kn.after
    (c.in_ok-handle_all.ensures.handled site state.history state.stages is.roll) in
    let next = after_handlings site turn time (knocked_so state kn.knock) handled.handlings in
    let calls = subst (g.V.Service.replies_as c.args.service.now meant) (sym (handled_calls site turn time (knocked_so state kn.knock) handled.handlings)) replies in
    let Next : State → Type 0 =
    (λ z. AreAt stands m limit c.advance_all.new.connections c.advance_all.new.roll z × g.V.Service.replies_as c.advance_all.new.service meant (called_so_far z.history)) in
    let new =
    outer (seen (g.D.Door.sent c.advance_all.new.door) (g.D.Door.knocks c.advance_all.new.door) (g.D.Door.shuts c.advance_all.new.door) (g.D.Door.asked c.advance_all.new.door) (g.K.Sink.held c.advance_all.new.out))
    (source (g.C.Clock.told c.now.new.self) (g.C.Clock.coming c.now.new.self)) (source (g.W.Words.told c.handle_all.new.words) (g.W.Words.coming c.handle_all.new.words)) (g.D.Door.count c.advance_all.new.door) (g.K.Sink.count c.advance_all.new.out) in
    let advanced = advanced_behind stands m limit c.handle_all.new.connections c.handle_all.new.roll site turn time next (Ok tt) Next mid new.seen
    c.in_ok-handle_all.ensures.rest handled.after.0 (λ roll. c.in_ok-advance_all.ensures.advanced meant limit next.history next.stages roll calls) in
    let last = after_advances turn next advanced.advances in
    let at = advanced.after.1.0 in
    turned_map site turn state c.end_of.result Next _ old new (λ x p. (record { connections = p.0.links; roll = p.0.roll_is }, p.1))
    (turns_whole site turn time state c.in_ok-closed.closed tt k After Next c.end_of.result knocked mid old new kn handled handled.after.1 advanced
    (gives_one time old.clock new.clock c.now.ensures.told c.now.ensures.first c.now.ensures.others) c.now.ensures.bound
    (c.end_of.ensures kn.knock last kn.closes (c.is_asking.ensures limit last at.links at.roll_is.kept)))
