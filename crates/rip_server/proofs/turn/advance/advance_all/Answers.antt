use Rattle.std.proofs.Common.{refl, ◌∙◌}
use Rattle.std.specs.Prelude.{Ok, Err}
use Rattle.rip_history.specs.Run.{State, called_so_far, after_advances}
use Rattle.rip_table.specs.Rolls.{waiting}
use Rattle.rip_server.specs.Acts.{seen}
use Rattle.rip_server.specs.Links.{links_of}
use Rattle.rip_server.proofs.ActLemmas.{did_none}
use Rattle.rip_server.specs.Advancing.{AdvancedOne}
use Rattle.rip_server.specs.Handling.{AreAt, state_of}
use Rattle.rip_server.specs.Turning.{site_of}
use Rattle.rip_server.proofs.AdvanceLemmas.{walked_none, walked_step, step_stops, walk_ends}
use Rattle.rip_server.proofs.LoopLemmas.{at_state}
use Rattle.rip_server.proofs.turn.advance.advance_all.Goals as goal

pub loop-session-init : goal.loop-session-init
loop-session-init g c = record {
  links = c.requires.links;
  opened = refl;
  sound = c.requires.sound;
  door = refl;
  sink = refl;
  walked = λ meant limit h stages is replies. walked_none _ _ _ _ _ _ _ (did_none _) (record { links = refl; roll_is = is }, replies);
}

pub loop-session-preserved : goal.loop-session-preserved
loop-session-preserved g c =
    let l = c.loop-session in
    record {
      links = c.in_ok-advance_one.ensures.links;
      opened = c.in_ok-advance_one.ensures.opened ∙ l.invariant.opened;
      sound = c.in_ok-advance_one.ensures.sound;
      door = c.in_ok-advance_one.ensures.faults.0 ∙ l.invariant.door;
      sink = c.in_ok-advance_one.ensures.faults.1 ∙ l.invariant.sink;
      walked = λ meant limit h stages is replies.
          (let stands = g.S.Sessions.stands c.args.sessions.now in
          let m = g.S.Sessions.meaning c.args.sessions.now in
          let site = site_of m meant limit c.args.page.now in
          let s = state_of (links_of c.args.connections.now) h stages in
          let w = l.invariant.walked meant limit h stages is replies in
          let next = after_advances c.args.at.turn s w.advances in
          let waits = c.in-Some.ensures.some in
          walked_step site c.args.at.turn c.args.at.time c.in-Some.session (waiting c.args.roll.now) (waiting l.roll) (waiting c.advance_one.new.roll) waits.0 s
          (λ (x : State). AreAt stands m limit l.connections l.roll x × g.V.Service.replies_as l.service meant (called_so_far x.history))
          (λ (x : State). AreAt stands m limit c.advance_one.new.connections c.advance_one.new.roll x × g.V.Service.replies_as c.advance_one.new.service meant (called_so_far x.history))
          _ _ _ waits.1 (c.in_ok-advance_one.ensures.waiting waits.0 waits.1) w
          (at_state stands m limit l.connections l.roll next
          (λ (z : State). AdvancedOne site c.args.at.turn c.args.at.time c.in-Some.session z (Ok tt) (λ (x : State). AreAt stands m limit c.advance_one.new.connections c.advance_one.new.roll x × g.V.Service.replies_as c.advance_one.new.service meant (called_so_far x.history))
          (seen (g.D.Door.sent l.door) (g.D.Door.knocks l.door) (g.D.Door.shuts l.door) (g.D.Door.asked l.door) (g.K.Sink.held l.out))
          (seen (g.D.Door.sent c.advance_one.new.door) (g.D.Door.knocks c.advance_one.new.door) (g.D.Door.shuts c.advance_one.new.door) (g.D.Door.asked c.advance_one.new.door) (g.K.Sink.held c.advance_one.new.out))) w.after.0
          (λ roll_is. c.in_ok-advance_one.ensures.advanced meant limit next.history next.stages roll_is w.after.1)));
    }

pub returns-in_err-advance_one-clause-advanced : goal.returns-in_err-advance_one-clause-advanced
returns-in_err-advance_one-clause-advanced g c = λ meant limit h stages is replies.
    let l = c.loop-session in
    let halt = c.in_err-advance_one.field-0.0 in
    let stands = g.S.Sessions.stands c.args.sessions.now in
    let m = g.S.Sessions.meaning c.args.sessions.now in
    let site = site_of m meant limit c.args.page.now in
    let s = state_of (links_of c.args.connections.now) h stages in
    let w = l.invariant.walked meant limit h stages is replies in
    let next = after_advances c.args.at.turn s w.advances in
    let waits = c.in-Some.ensures.some in
    step_stops site c.args.at.turn c.args.at.time c.in-Some.session (waiting c.args.roll.now) (waiting l.roll) waits.0 s halt c.from_residual.result
    (λ (x : State). AreAt stands m limit l.connections l.roll x × g.V.Service.replies_as l.service meant (called_so_far x.history))
    (λ (x : State). AreAt stands m limit c.advance_one.new.connections c.advance_one.new.roll x × g.V.Service.replies_as c.advance_one.new.service meant (called_so_far x.history))
    _ _ _ _ c.from_residual.ensures.0 waits.1 w
    (at_state stands m limit l.connections l.roll next
    (λ (z : State). AdvancedOne site c.args.at.turn c.args.at.time c.in-Some.session z (Err halt) (λ (x : State). AreAt stands m limit c.advance_one.new.connections c.advance_one.new.roll x × g.V.Service.replies_as c.advance_one.new.service meant (called_so_far x.history))
    (seen (g.D.Door.sent l.door) (g.D.Door.knocks l.door) (g.D.Door.shuts l.door) (g.D.Door.asked l.door) (g.K.Sink.held l.out))
    (seen (g.D.Door.sent c.advance_one.new.door) (g.D.Door.knocks c.advance_one.new.door) (g.D.Door.shuts c.advance_one.new.door) (g.D.Door.asked c.advance_one.new.door) (g.K.Sink.held c.advance_one.new.out))) w.after.0
    (λ roll_is. c.in_err-advance_one.ensures.advanced meant limit next.history next.stages roll_is w.after.1))

pub returns-clause-advanced : goal.returns-clause-advanced
returns-clause-advanced g c = λ meant limit h stages is replies.
    let l = c.loop-session in
    walk_ends _ _ _ _ _ _ _ _ _ _ c.in_default.ensures.none
    (λ x at. (record { links = at.0.links; roll_is = c.end_walk.ensures.same c.args.sessions.now limit x.history x.stages at.0.roll_is }, at.1))
    (l.invariant.walked meant limit h stages is replies)
