-- From one state of a turn to the next.
use Rattle.std.proofs.Common.{ℕ, List, sym, subst}
use Rattle.std.specs.Prelude.{Result, Ok}
use Rattle.rip_log.specs.Entries.{Recorded}
use Rattle.rip_history.specs.Connections.{Connections as Links}
use Rattle.rip_history.specs.Parts.{Meaning}
use Rattle.rip_history.specs.Run.{Site, State, after_handlings}
use Rattle.rip_history.specs.Stages.{Stage}
use Rattle.rip_table.specs.Rolls.{IsRollOf}
use Rattle.rip_table.specs.declared.roll.roll.Roll.{Roll}
use Rattle.rip_server.specs.Acts.{Seen}
use Rattle.rip_server.specs.Links.{links_of}
use Rattle.rip_server.specs.declared.connections.Connections.{Connections}
use Rattle.rip_server.specs.declared.halt.Halt.{Halt}
use Rattle.rip_server.specs.Handling.{state_of, AreAt, HandledSo}
use Rattle.rip_server.specs.Turning.{Source}
use Rattle.rip_server.proofs.HandleLemmas.{handled_then}

-- what holds of the state that connections and sessions are at holds of that state
pub at_state : {T : Type 0} (stands : T → Stage → Type 0) (m : Meaning) (limit : ℕ) (connections : Connections) (roll : Roll T) (s : State)
    (P : State → Type 0) → AreAt stands m limit connections roll s
    → (IsRollOf stands m limit roll s.history s.stages → P (state_of (links_of connections) s.history s.stages)) → P s
at_state stands m limit connections roll s P at p =
    subst (λ (k : Links). P (state_of k s.history s.stages)) at.links (p at.roll_is)

-- requests were handled, and others are from where these left connections and sessions
pub handled_next : {T A B : Type 0} (stands : T → Stage → Type 0) (m : Meaning) (connections : Connections) (roll : Roll T)
    (site : Site) (turn time : ℕ) (s : State) (a : A) (r : Result B Halt) (Q : A → State → Type 0) (After : B → State → Type 0)
    (old mid new : Seen) (w x y : Source)
    → HandledSo site turn time s (Ok a) (λ b next. AreAt stands m site.limit connections roll next × Q b next) old mid w x
    → ((h : List Recorded) (stages : List Stage) → IsRollOf stands m site.limit roll h stages → Q a (state_of (links_of connections) h stages)
    → HandledSo site turn time (state_of (links_of connections) h stages) r After mid new x y)
    → HandledSo site turn time s r After old new w y
handled_next stands m connections roll site turn time s a r Q After old mid new w x y first step =
    let next : State = after_handlings site turn time s first.handlings in
    let at = first.after.0 in
    let quiet = first.after.1 in
    handled_then site turn time s a r (λ b z. AreAt stands m site.limit connections roll z × Q b z) After old mid new w x y first
    (at_state stands m site.limit connections roll next (λ z. HandledSo site turn time z r After mid new x y) at
    (λ roll_is. step next.history next.stages roll_is
    (subst (λ (k : Links). Q a (state_of k next.history next.stages)) (sym at.links) quiet)))
