-- A turn is what its parts do, one after another.
use Rattle.std.proofs.Common.{◌≡◌, ℕ, List, Option, subst}
use Rattle.std.specs.Prelude.{Result, Ok, Err, IsErr}
use Rattle.rip_outer.specs.declared.connections.TraceKnock.{TraceKnock}
use Rattle.rip_history.specs.Connections.{Connections as Links, after_knock}
use Rattle.rip_history.specs.Parts.{Meaning}
use Rattle.rip_history.specs.Run.{Site, State, busy_in}
use Rattle.rip_history.specs.Stages.{Stage}
use Rattle.rip_table.specs.Rolls.{IsAtRest, IsRollOf, waiting}
use Rattle.rip_table.specs.declared.roll.roll.Roll.{Roll}
use Rattle.rip_server.specs.Acts.{Seen}
use Rattle.rip_server.specs.Links.{links_of}
use Rattle.rip_server.specs.declared.connections.Connections.{Connections}
use Rattle.rip_server.specs.declared.halt.Halt.{Halt}
use Rattle.rip_server.specs.Advancing.{AdvancedSo}
use Rattle.rip_server.specs.Handling.{state_of, AreAt, HandledSo}
use Rattle.rip_server.specs.Turning.{Outer, Source, Turned, Halted, TurnsTo}
use Rattle.rip_server.specs.declared.turn.server.TurnEnd.{TurnEnd}
use Rattle.rip_server.proofs.LoopLemmas.{at_state}
use Rattle.rip_server.proofs.RollLemmas.{waiting_busy}
use Rattle.rip_server.proofs.TurnLemmas.{knocked_so}

-- what stops was broken off
pub turns_err : (site : Site) (turn : ℕ) (s : State) (r : Result TurnEnd Halt) (Stands : State → Type 0) (old new : Outer) → IsErr r
    → Halted site turn s old new → TurnsTo site turn s r Stands old new
turns_err site turn s (Ok end) Stands old new err halted = cc
turns_err site turn s (Err halt) Stands old new err halted = halted

-- requests are handled behind a knock
pub handled_behind : {A : Type 0} (site : Site) (turn time : ℕ) (s : State) (knock : Option TraceKnock) (k : Links) (r : Result A Halt)
    (After : A → State → Type 0) (a b : Seen) (x y : Source) → k ≡ after_knock knock s.connections
    → HandledSo site turn time (state_of k s.history s.stages) r After a b x y → HandledSo site turn time (knocked_so s knock) r After a b x y
handled_behind site turn time s knock k r After a b x y e handled =
    subst (λ (z : Links). HandledSo site turn time (state_of z s.history s.stages) r After a b x y) e handled

-- and the busy sessions go on behind that
pub advanced_behind : {T : Type 0} (stands : T → Stage → Type 0) (m : Meaning) (limit : ℕ) (connections : Connections) (roll : Roll T)
    (site : Site) (turn time : ℕ) (next : State) (r : Result (Unit {0}) Halt) (Next : State → Type 0) (a b : Seen) → IsAtRest roll
    → AreAt stands m limit connections roll next
    → (IsRollOf stands m limit roll next.history next.stages
    → AdvancedSo site turn time (waiting roll) (state_of (links_of connections) next.history next.stages) r Next a b)
    → AdvancedSo site turn time (busy_in next.history) next r Next a b
advanced_behind stands m limit connections roll site turn time next r Next a b rest at f =
    at_state stands m limit connections roll next (λ (z : State). AdvancedSo site turn time (busy_in next.history) z r Next a b) at
    (λ is. subst (λ (ns : List ℕ). AdvancedSo site turn time ns (state_of (links_of connections) next.history next.stages) r Next a b)
    (waiting_busy limit roll next.history rest is.kept) (f is))

-- what holds behind a turn
pub turned_map : (site : Site) (turn : ℕ) (s : State) (end : TurnEnd) (A B : State → Type 0) (old new : Outer) → ((x : State) → A x → B x)
    → Turned site turn s end A old new → Turned site turn s end B old new
turned_map site turn s end A B old new f t = record {
  coming = t.coming;
  turn_is = t.turn_is;
  stands = f _ t.stands;
  ends = t.ends;
  tells = t.tells;
}
