-- What a server keeps of its sessions, and that it is what a history tells, and stands at stages.
use Rattle.std.specs.Prelude.{◌≡◌, ℕ, ◌-◌, Bool, true, false, nat_le, if◌then◌else◌, List, ◌++◌, length, map, slice_set, Option, Some, None, option_and_then, option_map, unwrap_or}
use Rattle.rip_log.specs.Entries.{Recorded, recorded_of}
use Rattle.rip_table.specs.declared.table.Table.{Table}
use Rattle.rip_table.specs.Table.{IsTable, ids, values, ended, most_live}
use Rattle.rip_history.specs.Parts.{Part, Given, Meaning}
use Rattle.rip_history.specs.Requests.{identifiers_in, live_count}
use Rattle.rip_history.specs.Run.{Advance, advance_entries, busy_in, called_so_far, stage_of, with_stage}
use Rattle.rip_history.specs.Sequences.{counted, ordinals_in}
use Rattle.rip_history.specs.Services.{Called, Service, given_by, served_entries}
use Rattle.rip_history.specs.Stages.{Stage, GoesOn, IsProgress, is_ended}
use Rattle.rip_history.specs.Standings.{is_live, standing_of}
use Rattle.rip_history.specs.declared.sessions.Progress.{Progress}
use Rattle.rip_table.specs.Ordinals.{get_at}
use Rattle.rip_table.specs.Seats.{IsKeptAt, has_ended, Leaves, StandsAt, session_in}
use Rattle.rip_table.specs.Walks.{all_in, waiting_in, IsWalk, IsResting}
use Rattle.rip_table.specs.declared.roll.seat.Advanced.{Advanced}
use Rattle.rip_table.specs.declared.roll.roll.Roll.{Roll}
use Rattle.rip_table.specs.declared.roll.roll.Room.{Room}
use Rattle.rip_table.specs.declared.roll.roll.Room.TheVariants.{Free, Full, Spent}
use Rattle.rip_table.specs.declared.roll.seat.Seat.{Seat}

-- whether there is room for a session more
abbrev pub room_in : ℕ → List Recorded → Room
room_in limit h =
    if nat_le limit (live_count h) then Full
    else if nat_le 1000000 (length (identifiers_in h)) then Spent
    else Free

-- a session that lives has this ordinal
abbrev pub lives_at : ℕ → List Recorded → Bool
lives_at n h = unwrap_or (option_map is_live (standing_of n h)) false

module _ {T : Type 0} where
  -- what is kept of each session, in the order of their opening
  abbrev pub seats : Roll T → List (Seat T)
  seats roll = values roll.table

  -- the session of an ordinal, if it lives
  abbrev pub session_at : Roll T → ℕ → Option T
  session_at roll n = option_and_then session_in (get_at n (seats roll))

  -- the busy sessions that wait for their turn
  abbrev pub waiting : Roll T → List ℕ
  waiting roll = waiting_in roll.busy

  -- each call keeps this
  pub record IsSound (roll : Roll T) : Type 0 where
    pub table : IsTable roll.table
    pub walk : IsWalk roll.busy

  -- no walk over the busy sessions is under way
  abbrev pub IsAtRest : Roll T → Type 0
  IsAtRest roll = IsResting roll.busy

  -- ---- what the history tells

  -- what is kept of all sessions, of which so many may live, is what the history tells
  pub record IsKept (limit : ℕ) (roll : Roll T) (h : List Recorded) : Type 0 where
    pub bound : roll.limit ≡ limit
    pub most : most_live roll.table ≡ limit
    pub identifiers : ids roll.table ≡ identifiers_in h
    pub ordinals : ordinals_in h ≡ counted 1 (length (identifiers_in h))
    pub each : (n : ℕ) → IsKeptAt h n (get_at n (seats roll))
    pub ended : ended roll.table ≡ map has_ended (seats roll)
    pub busy : all_in roll.busy ≡ busy_in h

  -- another seat at an ordinal, whose session has ended by that or not
  pub record IsChanged (n : ℕ) (old new : Table (Seat T)) (seat : Seat T) (ends : Bool) : Type 0 where
    pub ids : ids new ≡ ids old
    pub most : most_live new ≡ most_live old
    pub seats : values new ≡ slice_set (values old) (n - 1) seat
    pub ended : ended new ≡ (if ends then slice_set (ended old) (n - 1) true else ended old)

  -- ---- how far the sessions went

  module _ (stands : T → Stage → Type 0) (m : Meaning) where
    -- there is a session at this ordinal, at this stage, or none
    abbrev pub IsAtStage : Option (Seat T) → Option Stage → Type 0
    IsAtStage None o = o ≡ None
    IsAtStage (Some seat) None = ⊥
    IsAtStage (Some seat) (Some st) = StandsAt stands m seat st

    -- a roll of sessions, of which so many may live, after this history, at these stages
    pub record IsRollOf (limit : ℕ) (roll : Roll T) (h : List Recorded) (stages : List Stage) : Type 0 where
      pub kept : IsKept limit roll h
      pub count : length stages ≡ length (identifiers_in h)
      pub each : (n : ℕ) → IsAtStage (get_at n (seats roll)) (stage_of n stages)

    -- the session stands at the stage of this ordinal among these, and has not ended there
    pub record IsLiveAt (n : ℕ) (stages : List Stage) (session : T) : Type 0 where
      pub stage : Stage
      pub is : stage_of n stages ≡ Some stage
      pub there : stands session stage
      pub lives : is_ended m stage ≡ false

-- ---- a busy session goes on

-- what the session of an ordinal did, as the machine has it. Whether its connection is found gone is not known yet
abbrev pub advance_of : ℕ → List Part → List Given → Stage → Progress → Bool → Advance
advance_of n parts given next progress gone = record {
  session = n;
  parts = parts;
  given = given;
  next = next;
  progress = progress;
  gone = gone;
}

-- the session of an ordinal goes on in a turn, at a moment, from a stage of these, where a service replied to the calls of
-- the history: the roll is then one of more entries and of another stage, and the service replied to more calls
pub record WentOn (m : Meaning) (meant : Service) (turn moment n : ℕ) (h : List Recorded) (stages : List Stage) (advanced : Advanced)
    (After : List Recorded → List Stage → Type 0) (Replies : List Called → Type 0) : Type 0 where
  pub stage : Stage
  pub parts : List Part
  pub given : List Given
  pub next : Stage
  pub stands : stage_of n stages ≡ Some stage
  pub goes_on : GoesOn m stage 1000 given parts next
  pub replied : given ≡ given_by meant (called_so_far h) moment parts
  pub how_far : IsProgress advanced.progress parts
  pub batch : advanced.batch ≡ length next.batches
  pub entries : map recorded_of advanced.entries.items ≡ served_entries turn n parts given
  pub leaves : Leaves advanced.progress advanced.legacy n (length next.batches)
      (h ++ advance_entries turn (advance_of n parts given next advanced.progress false))
  pub after : After (h ++ advance_entries turn (advance_of n parts given next advanced.progress false)) (with_stage n next stages)
  pub replies : Replies (called_so_far (h ++ advance_entries turn (advance_of n parts given next advanced.progress false)))
