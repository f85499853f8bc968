use Rattle.std.proofs.Common.{◌≡◌, ◌∙◌, ℕ, length, refl, arith}
use Rattle.rip_history.specs.Run.{State}
use Rattle.rip_server.specs.Links.{links_of, there_of}
use Rattle.rip_server.proofs.LinkLemmas.{length-there}
use Rattle.rip_server.specs.Handling.{state_of, IsQuietBefore}
use Rattle.rip_server.proofs.HandleLemmas.{handled_none}
use Rattle.rip_server.proofs.LoopLemmas.{handled_next}
use Rattle.rip_server.proofs.TakenLemmas.{handled_stops, handled_end}
use Rattle.rip_server.proofs.turn.handle.handle_all.Goals as goal

pub loop-place-init : goal.loop-place-init
loop-place-init g c = record {
  links = c.requires.links;
  opened = refl;
  sound = c.requires.sound;
  rest = c.requires.rest;
  door = refl;
  sink = refl;
  handled = λ site h stages is.
      handled_none site c.args.at.turn c.args.at.time (state_of (links_of c.args.connections.now) h stages) 0 _ _ _ (record { links = refl; roll_is = is }, tt);
}

pub loop-place-preserved : goal.loop-place-preserved
loop-place-preserved g c =
    let l = c.loop-place in
    record {
      links = c.in_ok-place.ensures.links;
      opened = c.in_ok-place.ensures.opened ∙ l.invariant.opened;
      sound = c.in_ok-place.ensures.sound;
      rest = c.in_ok-place.ensures.rest;
      door = c.in_ok-place.ensures.faults.0 ∙ l.invariant.door;
      sink = c.in_ok-place.ensures.faults.1 ∙ l.invariant.sink;
      handled = λ site h stages is.
          handled_next (g.S.Sessions.stands c.args.sessions.now) (g.S.Sessions.meaning c.args.sessions.now) l.connections l.roll site c.args.at.turn c.args.at.time
          (state_of (links_of c.args.connections.now) h stages) l.place _ (λ (place : ℕ) (s : State). IsQuietBefore place s) _ _ _ _ _ _ _
          (l.invariant.handled site h stages is)
          (λ h2 stages2 is2 quiet. c.in_ok-place.ensures.handled site h2 stages2 is2 quiet);
    }

pub returns-in_err-place-clause-handled : goal.returns-in_err-place-clause-handled
returns-in_err-place-clause-handled g c = λ site h stages is.
    let l = c.loop-place in
    handled_next (g.S.Sessions.stands c.args.sessions.now) (g.S.Sessions.meaning c.args.sessions.now) l.connections l.roll site c.args.at.turn c.args.at.time
    (state_of (links_of c.args.connections.now) h stages) l.place c.from_residual.result (λ (place : ℕ) (s : State). IsQuietBefore place s) _ _ _ _ _ _ _
    (l.invariant.handled site h stages is)
    (λ h2 stages2 is2 quiet. handled_stops site c.args.at.turn c.args.at.time (state_of (links_of l.connections) h2 stages2) c.from_residual.result _ _ _ _ _ _ _
    c.from_residual.ensures.0 (c.in_err-place.ensures.handled site h2 stages2 is2 quiet))

pub returns-clause-handled : goal.returns-clause-handled
returns-clause-handled g c = λ site h stages is.
    let l = c.loop-place in
    let all : length (there_of l.connections.list.items) ≡ length l.connections.list.items = length-there l.connections.list.items in
    handled_end site c.args.at.turn c.args.at.time (state_of (links_of c.args.connections.now) h stages) l.place (g.S.Sessions.stands c.args.sessions.now)
    (g.S.Sessions.meaning c.args.sessions.now) l.connections l.roll _ _ _ _
    (omega (arith, all, c.loop-place-test.false, c.len.ensures, l.connections.list.ok.0)) (l.invariant.handled site h stages is)
