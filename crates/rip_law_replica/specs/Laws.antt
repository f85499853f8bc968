-- What holds of all sessions, whatever their items and pages are.
use Rattle.std.specs.Prelude.{◌≡◌, ℕ, Bool, true, false, List}
use Rattle.rip_heap.specs.World.{World}
use Rattle.rip_wire.specs.Batches.{Contents}
use Rattle.rip_eval_rows.specs.Evaluation.{Evaluation}
use Rattle.rip_history.specs.Parts.{Given, IsLawful}
use Rattle.rip_history.specs.Stages.{MayAdmit, Stage, begun, is_done, is_ended, with_batch}
use Rattle.rip_replica.specs.Going.{depth_in}
use Rattle.rip_replica.specs.declared.replica.Place.TheVariants.{Idle}
use Rattle.rip_replica.specs.Cuts.{CutAfter, EndedBy, StandsDone, StandsEnded}
use Rattle.rip_replica.specs.Numbers.{open_at}
use Rattle.rip_replica.specs.Parts.{Doing, meaning_of}
use Rattle.rip_replica.specs.Plays.{CountsUnits}
use Rattle.rip_replica.specs.Sessions.{IsAt, IsBusy}
use Rattle.rip_replica.specs.Standing.{Spot}
use Rattle.rip_law_replica.specs.Sound.{HaveShapes, IsSound}
use Rattle.rip_law_replica.specs.Spots.{IsAdmitted, IsOpened}

-- the batches of a session and what it is given make what it does in their order, where items have their shapes
abbrev pub MeaningsAreLawful : Type 0 → Type 0 → Type 0
MeaningsAreLawful A S = (doing : ℕ → ℕ → Doing A S) (may : S → Bool) → HaveShapes doing may → IsLawful (meaning_of doing)

-- a session that was opened is at the stage of its opening
abbrev pub OpenedAreBegun : Type 0 → Type 0 → Type 0 → Type 0
OpenedAreBegun M A S = (e : Evaluation M S) (doing : ℕ → ℕ → Doing A S) (may : S → Bool) (at : Spot M A S) (seed time : ℕ)
    → IsSound doing may → IsOpened e (doing seed time) at → IsAt e doing may at (begun seed time)

-- one that was admitted a batch is at the stage with that batch
abbrev pub AdmittedAreNext : Type 0 → Type 0 → Type 0 → Type 0
AdmittedAreNext M A S = (e : Evaluation M S) (doing : ℕ → ℕ → Doing A S) (may : S → Bool) (at to : Spot M A S) (st : Stage) (b : Contents)
    → IsSound doing may → IsAt e doing may at st → MayAdmit (meaning_of doing) st b → IsAdmitted (doing st.seed st.time) b at to
    → IsAt e doing may to (with_batch b st)

-- a session is busy exactly where its last batch is not done
abbrev pub BusyAreNotDone : Type 0 → Type 0 → Type 0 → Type 0
BusyAreNotDone M A S = (e : Evaluation M S) (doing : ℕ → ℕ → Doing A S) (may : S → Bool) (at : Spot M A S) (st : Stage)
    → (IsAt e doing may at st → is_done (meaning_of doing) st ≡ false → IsBusy e (doing st.seed st.time) may at st)
    × (IsBusy e (doing st.seed st.time) may at st → is_done (meaning_of doing) st ≡ false)

-- and where it is busy, it is cut after the units that its last batch got
abbrev pub BusyAreCut : Type 0 → Type 0 → Type 0 → Type 0
BusyAreCut M A S = (e : Evaluation M S) (doing : ℕ → ℕ → Doing A S) (may : S → Bool) (at : Spot M A S) (st : Stage)
    → IsAt e doing may at st → is_done (meaning_of doing) st ≡ false
    → CutAfter (doing st.seed st.time) st.batches st.given st.units (open_at at.place (depth_in e at.going.evaluator at.going.phase)) at.world at.page

-- where its last batch is done and it lives, it is at no place in a batch, and stands behind all items of that one
abbrev pub DoneAreBehind : Type 0 → Type 0 → Type 0 → Type 0
DoneAreBehind M A S = (e : Evaluation M S) (doing : ℕ → ℕ → Doing A S) (may : S → Bool) (at : Spot M A S) (st : Stage)
    → IsAt e doing may at st → is_done (meaning_of doing) st ≡ true → is_ended (meaning_of doing) st ≡ false
    → (at.place ≡ Idle) × StandsDone (doing st.seed st.time) st.batches st.given at.world at.page

-- and where it has ended, it is at no place in a batch, and stands where it was left
abbrev pub EndedAreLeft : Type 0 → Type 0 → Type 0 → Type 0
EndedAreLeft M A S = (e : Evaluation M S) (doing : ℕ → ℕ → Doing A S) (may : S → Bool) (at : Spot M A S) (st : Stage)
    → IsAt e doing may at st → is_ended (meaning_of doing) st ≡ true
    → (at.place ≡ Idle) × StandsEnded (doing st.seed st.time) st.batches st.given st.lacking at.world at.page

-- after so many units a batch is cut at one place, where runs count their units
abbrev pub CutsAreOne : Type 0 → Type 0 → Type 0
CutsAreOne A S = (d : Doing A S) (batches : List Contents) (given : List Given) (units n m : ℕ) (w x : World) (s r : S)
    → CountsUnits d.run → CutAfter d batches given units n w s → CutAfter d batches given units m x r → (n ≡ m) × (w ≡ x) × (s ≡ r)

-- and an item ends a session in one world and with one page
abbrev pub EndsAreOne : Type 0 → Type 0 → Type 0
EndsAreOne A S = (d : Doing A S) (batches : List Contents) (given : List Given) (w x : World) (s r : S)
    → EndedBy d batches given w s → EndedBy d batches given x r → (w ≡ x) × (s ≡ r)
