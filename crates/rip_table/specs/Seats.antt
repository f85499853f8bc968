-- What is kept of one session, and how calls change it.
use Rattle.std.specs.declared.alloc.Global.{Global}
use Rattle.std.specs.Prelude.{Box, ◌≡◌, ℕ, ◌<◌, Bool, true, false, not, List, [], ◌++◌, length, map, Option, Some, None, is_some}
use Rattle.std.specs.Int.{to_be_bytes, w128}
use Rattle.rip_log.specs.Entries.{Recorded, recorded_of}
use Rattle.rip_http.specs.declared.answer.Opening.{Opening}
use Rattle.rip_wire.specs.Answers.{Served, served_of}
use Rattle.rip_wire.specs.declared.answer.ServedCall.{ServedCall}
use Rattle.rip_wire.specs.Reasons.{reason_of}
use Rattle.rip_wire.specs.declared.ending.Reason.TheVariants.{Closed}
use Rattle.rip_history.specs.Answering.{opening_told}
use Rattle.rip_history.specs.Parts.{Part, Given, Meaning}
use Rattle.rip_history.specs.Requests.{served_in}
use Rattle.rip_history.specs.Services.{Called, Service, called_in, given_by, served_entries, answered_calls}
use Rattle.rip_history.specs.Stages.{Stage, is_done, is_ended, GoesOn, IsProgress}
use Rattle.rip_history.specs.Standings.{when_opened, when_admitted, when_done, is_busy, is_live, standing_of, entries_of}
use Rattle.rip_history.specs.declared.sessions.Progress.{Progress}
use Rattle.rip_history.specs.declared.sessions.Progress.TheVariants.{Busy, Finished}
use Rattle.rip_history.specs.declared.sessions.Slice.{Slice}
use Rattle.rip_history.specs.declared.standing.Standing.{Standing}
use Rattle.rip_table.specs.declared.roll.seat.Advanced.{Advanced}
use Rattle.rip_table.specs.declared.roll.seat.Legacy.{Legacy}
use Rattle.rip_table.specs.declared.roll.seat.Living.{Living}
use Rattle.rip_table.specs.declared.roll.seat.Notes.{Notes}
use Rattle.rip_table.specs.declared.roll.seat.Seat.{Seat}
use Rattle.rip_table.specs.declared.roll.seat.Seat.TheVariants.{Live, Ended}

-- what a session has that lives, which stands apart
abbrev pub Held : Type 0 → Type 0
Held T = Box (Living T) Global

-- the opening of this identifier, seed and time
abbrev pub opening_of : ℕ → ℕ → ℕ → Opening
opening_of id seed time = record { id = to_be_bytes w128 id; seed = seed; time = time }

-- the batch is not done
abbrev pub is_unfinished : Progress → Bool
is_unfinished Busy = true
is_unfinished (Finished how) = false

-- the batch ended the session
abbrev pub ends_session : Progress → Bool
ends_session Busy = false
ends_session (Finished how) = is_some how

module _ {T : Type 0} where
  -- how the session stands. Of one that has ended each batch is done
  abbrev pub standing_in : Seat T → Standing
  standing_in (Live held) = held.value.standing
  standing_in (Ended last reason) = record { last = last; done = Some last; ended = Some reason }

  -- what is noted of a session that lives
  abbrev pub notes_in : Seat T → Option Notes
  notes_in (Live held) = Some held.value.notes
  notes_in (Ended last reason) = None

  -- the session, if it lives
  abbrev pub session_in : Seat T → Option T
  session_in (Live held) = Some held.value.session
  session_in (Ended last reason) = None

-- ---- what the history tells

-- the notes of the session of an ordinal that stands so: its opening, the calls that its last batch that was done served, and
-- those that the batch that is not done served so far
pub record AreNotes (h : List Recorded) (n : ℕ) (standing : Standing) (notes : Notes) : Type 0 where
  pub opening : opening_told n h ≡ Some notes.opening
  pub told : (number : ℕ) → standing.done ≡ Some number → map served_of notes.told.items ≡ served_in n number h
  pub making : is_busy standing ≡ true → map served_of notes.making.items ≡ served_in n standing.last h
  pub none : is_busy standing ≡ false → notes.making.items ≡ []

module _ {T : Type 0} where
  -- what is kept of the session of an ordinal: how it stands, and its notes exactly while it lives
  pub record IsSeat (h : List Recorded) (n : ℕ) (seat : Seat T) : Type 0 where
    pub standing : standing_of n h ≡ Some (standing_in seat)
    pub lives : is_some (notes_in seat) ≡ is_live (standing_in seat)
    pub notes : (notes : Notes) → notes_in seat ≡ Some notes → AreNotes h n (standing_in seat) notes
    pub ahead : (number : ℕ) → (standing_in seat).last < number → served_in n number h ≡ []

  -- so it is, or nothing is told of that ordinal
  abbrev pub IsKeptAt : List Recorded → ℕ → Option (Seat T) → Type 0
  IsKeptAt h n None = entries_of n h ≡ []
  IsKeptAt h n (Some seat) = IsSeat h n seat

  -- whether the session has ended
  abbrev pub has_ended : Seat T → Bool
  has_ended seat = not (is_live (standing_in seat))

  -- ---- how far the session went

  module _ (stands : T → Stage → Type 0) where
    -- it lives, and stands at this stage
    pub record IsThere (seat : Seat T) (st : Stage) : Type 0 where
      pub held : Held T
      pub live : seat ≡ Live held
      pub at_stage : stands held.value.session st

    -- a session that lives stands at its stage, where its last batch is done unless it is busy
    pub record Lives (m : Meaning) (seat : Seat T) (st : Stage) : Type 0 where
      pub there : IsThere seat st
      pub sound : st.lacking ≡ None
      pub open_yet : is_ended m st ≡ false
      pub progress : is_busy (standing_in seat) ≡ not (is_done m st)

    pub record StandsAt (m : Meaning) (seat : Seat T) (st : Stage) : Type 0 where
      pub number : (standing_in seat).last ≡ length st.batches
      pub busy : is_busy (standing_in seat) ≡ true → (standing_in seat).ended ≡ None
      pub lives : (standing_in seat).ended ≡ None → Lives m seat st

  -- ---- changes

  -- as it is opened
  pub record IsOpened (id seed time : ℕ) (seat : Seat T) : Type 0 where
    pub standing : standing_in seat ≡ when_opened
    pub noted : Notes
    pub notes : notes_in seat ≡ Some noted
    pub opening : noted.opening ≡ opening_of id seed time
    pub told : noted.told.items ≡ []
    pub making : noted.making.items ≡ []

  -- with one more batch, of this number
  pub record HasBatch (number : ℕ) (old new : Living T) : Type 0 where
    pub standing : new.standing ≡ when_admitted number old.standing
    pub notes : new.notes ≡ old.notes

  -- the same of its seat
  pub record IsAdmitted (number : ℕ) (old new : Seat T) : Type 0 where
    pub standing : standing_in new ≡ when_admitted number (standing_in old)
    pub notes : notes_in new ≡ notes_in old

  -- closed by its client
  abbrev pub IsClosed : Seat T → Seat T → Type 0
  IsClosed old new = new ≡ Ended (standing_in old).last Closed

-- ---- a slice

-- what is noted where the batch is not done and served these calls more
pub record AreMore (calls : List Served) (old new : Notes) : Type 0 where
  pub opening : new.opening ≡ old.opening
  pub told : new.told.items ≡ old.told.items
  pub making : map served_of new.making.items ≡ map served_of old.making.items ++ calls

-- what is noted where the batch served these calls at the last and is done
pub record AreTold (calls : List Served) (old new : Notes) : Type 0 where
  pub opening : new.opening ≡ old.opening
  pub told : map served_of new.told.items ≡ map served_of old.making.items ++ calls
  pub making : new.making.items ≡ []

-- what is handed on where the batch served these calls at the last and ended the session
pub record IsLegacy (calls : List Served) (old : Notes) (legacy : Option Legacy) : Type 0 where
  pub left : Legacy
  pub some : legacy ≡ Some left
  pub opening : left.opening ≡ old.opening
  pub told : map served_of left.told.items ≡ map served_of old.making.items ++ calls

-- what a session leaves whose batch, of this number, ended it: its opening, and the calls that the batch served
pub record LeavesAll (legacy : Option Legacy) (n number : ℕ) (h : List Recorded) : Type 0 where
  pub left : Legacy
  pub some : legacy ≡ Some left
  pub opening : opening_told n h ≡ Some left.opening
  pub told : map served_of left.told.items ≡ served_in n number h

-- it leaves nothing where it lives
abbrev pub Leaves : Progress → Option Legacy → ℕ → ℕ → List Recorded → Type 0
Leaves Busy legacy n number h = legacy ≡ None
Leaves (Finished None) legacy n number h = legacy ≡ None
Leaves (Finished (Some ending)) legacy n number h = LeavesAll legacy n number h

module _ {T : Type 0} where
  -- what a session has after a slice in which its batch served these calls, and what is handed on. One that ended is given up
  abbrev pub IsAfter : Progress → List Served → Option Legacy → Living T → Living T → Type 0
  IsAfter Busy calls legacy old new = (legacy ≡ None) × (new.standing ≡ old.standing) × AreMore calls old.notes new.notes
  IsAfter (Finished None) calls legacy old new =
      (legacy ≡ None) × (new.standing ≡ when_done old.standing.last None old.standing) × AreTold calls old.notes new.notes
  IsAfter (Finished (Some ending)) calls legacy old new = IsLegacy calls old.notes legacy

  -- what the batch served is noted, or handed on
  abbrev pub IsSettled : Progress → List ServedCall → Living T → Living T → Option Legacy → Type 0
  IsSettled Busy calls old new legacy =
      (legacy ≡ None) × (new.session ≡ old.session) × (new.standing ≡ old.standing)
      × (new.notes.opening ≡ old.notes.opening) × (new.notes.told ≡ old.notes.told) × (new.notes.making.items ≡ calls)
  IsSettled (Finished None) calls old new legacy =
      (legacy ≡ None) × (new.session ≡ old.session) × (new.standing ≡ when_done old.standing.last None old.standing)
      × (new.notes.opening ≡ old.notes.opening) × (new.notes.told.items ≡ calls) × (new.notes.making ≡ old.notes.making)
  IsSettled (Finished (Some ending)) calls old new legacy =
      (new.session ≡ old.session) × ((left : Legacy) × (legacy ≡ Some left) × (left.opening ≡ old.notes.opening) × (left.told.items ≡ calls))

  -- a session that its batch ended is given up, and else it stays
  abbrev pub IsGivenUp : Progress → ℕ → Seat T → Seat T → Type 0
  IsGivenUp Busy number old new = new ≡ old
  IsGivenUp (Finished None) number old new = new ≡ old
  IsGivenUp (Finished (Some ending)) number old new = new ≡ Ended number (reason_of ending)

  -- a busy session went on for a slice from a stage, where a service replied to these calls before
  pub record LivingSlice (m : Meaning) (st : Stage) (service : Service) (calls : List Called) (slice : Slice) (old new : Living T)
      (advanced : Advanced) (stands : T → Stage → Type 0) (Replies : List Called → Type 0) : Type 0 where
    pub parts : List Part
    pub given : List Given
    pub next : Stage
    pub goes_on : GoesOn m st slice.units given parts next
    pub replied : given ≡ given_by service calls slice.time parts
    pub how_far : IsProgress advanced.progress parts
    pub at_stage : stands new.session next
    pub replies : Replies (calls ++ called_in parts)
    pub batch : advanced.batch ≡ old.standing.last
    pub entries : map recorded_of advanced.entries.items ≡ served_entries slice.turn slice.session parts given
    pub after : IsAfter advanced.progress (answered_calls parts given) advanced.legacy old new

  -- so it did in its seat
  pub record SeatSlice (m : Meaning) (st : Stage) (service : Service) (calls : List Called) (slice : Slice) (old new : Seat T) (advanced : Advanced)
      (stands : T → Stage → Type 0) (Replies : List Called → Type 0) : Type 0 where
    pub before : Held T
    pub was : old ≡ Live before
    pub held : Held T
    pub is : new ≡ Live held
    pub went_on : LivingSlice m st service calls slice before.value held.value advanced stands Replies

  -- so it did, and it stays, unless that ended it
  pub record SliceOf (m : Meaning) (st : Stage) (service : Service) (calls : List Called) (slice : Slice) (old new : Seat T) (advanced : Advanced)
      (stands : T → Stage → Type 0) (Replies : List Called → Type 0) : Type 0 where
    pub before : Held T
    pub was : old ≡ Live before
    pub held : Held T
    pub went_on : LivingSlice m st service calls slice before.value held.value advanced stands Replies
    pub left : IsGivenUp advanced.progress advanced.batch (Live held) new
