-- A session at a stage of the server's course.
use Rattle.std.specs.Prelude.{◌≡◌, ◌⊎◌, ℕ, ◌+◌, ◌<◌, ◌≤◌, Bool, true, false, List, [], ◌∷◌, ◌++◌, length, None, Some}
use Rattle.rip_wire.specs.Batches.{Contents}
use Rattle.rip_eval_rows.specs.Evaluation.{Evaluation}
use Rattle.rip_history.specs.Parts.{Part, Given, Meaning, has_ended}
use Rattle.rip_history.specs.Parts as parts
use Rattle.rip_history.specs.Stages.{Stage, finishes_batch, is_done, is_ended}
use Rattle.rip_replica.specs.declared.replica.Place.TheVariants.{Idle}
use Rattle.rip_replica.specs.Cuts.{StandsEnded}
use Rattle.rip_replica.specs.Parts.{Doing, last_items, later_parts, meaning_of, session_behind, session_parts, stand_at}
use Rattle.rip_replica.specs.Standing.{Ahead, Behind, IsCut, Keeps, Spot, Stands, next_number}

-- what is behind the batch of a number
abbrev pub behind_batch : {A S : Type 0} → Doing A S → ℕ → Behind S
behind_batch d batch bs gs w s = later_parts d (batch + 1) bs gs w s

-- these parts are of earlier batches, or of items below a number of the last that cost no more than this
abbrev pub AreBehind : ℕ → ℕ → ℕ → List Part → Type 0
AreBehind last number units [] = Unit {0}
AreBehind last number units (p ∷ ps) =
    ((p.batch < last) ⊎ ((p.batch ≡ last) × (p.item < number) × (p.cost ≤ units))) × AreBehind last number units ps

-- the session is busy with its last batch: so much has come, the rest of the batch is ahead, and it is cut after the units that
-- the batch got
pub record IsBusy {M A S : Type 0} (e : Evaluation M S) (d : Doing A S) (may : S → Bool) (at : Spot M A S) (st : Stage) : Type 0 where
  pub earlier : List Part
  pub ahead : Ahead S
  pub base : ℕ
  pub whole : (bs : List Contents) (gs : List Given) → session_parts d (st.batches ++ bs) (st.given ++ gs) ≡ earlier ++ ahead.parts bs gs
  pub behind : (gs : List Given) (k : ℕ) → session_behind d st.batches (st.given ++ gs) k ≡ ahead.behind gs k
  pub all : at.all ≡ last_items d st.batches
  pub come : AreBehind (length st.batches) (next_number at.place at.begun) st.units earlier
  pub busy : finishes_batch (length st.batches) earlier ≡ false
  pub lives : has_ended earlier ≡ false
  pub based : parts.spent (length st.batches) earlier 1 ≡ base
  pub none : st.lacking ≡ None
  pub stands : Stands e d may (length st.batches) (behind_batch d (length st.batches)) at st.units base st.units ahead
  pub cut : IsCut e d (length st.batches) (behind_batch d (length st.batches)) at at.place base st.units ahead

-- its last batch is done, and it waits for the next
pub record IsIdle {M A S : Type 0} (e : Evaluation M S) (d : Doing A S) (may : S → Bool) (at : Spot M A S) (st : Stage) : Type 0 where
  pub earlier : List Part
  pub number : ℕ
  pub whole : (bs : List Contents) (gs : List Given) → session_parts d (st.batches ++ bs) (st.given ++ gs) ≡ earlier ++ behind_batch d (length st.batches) bs gs at.world at.page
  pub cost : ℕ
  pub behind : (gs : List Given) → session_behind d st.batches (st.given ++ gs) (length (last_items d st.batches)) ≡ Some (stand_at cost gs at.world at.page)
  pub come : AreBehind (length st.batches) number st.units earlier
  pub done : finishes_batch (length st.batches) earlier ≡ true
  pub lives : has_ended earlier ≡ false
  pub none : st.lacking ≡ None
  pub keeps : Keeps e d may (length st.batches) at
  pub place : at.place ≡ Idle

-- it has ended, and stands where it was left
pub record HasEnded {M A S : Type 0} (m : Meaning) (d : Doing A S) (at : Spot M A S) (st : Stage) : Type 0 where
  pub done : is_done m st ≡ true
  pub ended : is_ended m st ≡ true
  pub place : at.place ≡ Idle
  pub stands : StandsEnded d st.batches st.given st.lacking at.world at.page

-- a session stands at a stage, where each session does this from its seed and time on
abbrev pub IsAt : {M A S : Type 0} → Evaluation M S → (ℕ → ℕ → Doing A S) → (S → Bool) → Spot M A S → Stage → Type 0
IsAt e doing may at st =
    IsBusy e (doing st.seed st.time) may at st ⊎ (IsIdle e (doing st.seed st.time) may at st ⊎ HasEnded (meaning_of doing) (doing st.seed st.time) at st)
