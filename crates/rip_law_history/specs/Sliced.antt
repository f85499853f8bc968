-- How far the sessions of a run went.
use Rattle.std.specs.Prelude.{◌≡◌, ℕ, true, List, length, slice_get, Some}
use Rattle.rip_log.specs.Entries.{Recorded}
use Rattle.rip_history.specs.Parts.{IsLawful}
use Rattle.rip_history.specs.Run.{Site, first_state, stage_of, Coming}
use Rattle.rip_history.specs.Runs.{after_turns, AreTurns}
use Rattle.rip_history.specs.Sessions.{opening_in, batches_in, turns_in, given_in}
use Rattle.rip_history.specs.Stages.{Stage}
use Rattle.rip_history.specs.Standings.{standing_of, is_busy}
use Rattle.rip_history.specs.Turns.{units_by}
use Rattle.rip_history.specs.declared.standing.Standing.{Standing}
use Rattle.rip_law_history.specs.Legal.{history_of}

-- the last batch of a session was admitted in some turn, and by the end of this one it got 1,000 units in each from that on
pub record GotUnits (last : ℕ) (h : List Recorded) (n : ℕ) (st : Stage) : Type 0 where
  pub turn : ℕ
  pub admitted : slice_get (turns_in n h) (length st.batches) ≡ Some turn
  pub units : st.units ≡ units_by turn last

-- a session's stage is told by the history: its opening, its batches, what its served calls were given, and while a batch of
-- it is not done exactly the units of the turns since that was admitted, so nothing is run ahead
pub record IsStageOf (last : ℕ) (h : List Recorded) (n : ℕ) (st : Stage) : Type 0 where
  pub opening : opening_in n h ≡ Some (st.seed, st.time)
  pub batches : batches_in n h ≡ st.batches
  pub given : given_in n h ≡ st.given
  pub busy : (s : Standing) → standing_of n h ≡ Some s → is_busy s ≡ true → GotUnits last h n st

-- so it is of each session, after any turns of a run
abbrev pub SessionsAreSliced : Type 0
SessionsAreSliced =
    (site : Site) (ts : List Coming) (n : ℕ) (st : Stage) → IsLawful site.meaning → AreTurns site 1 first_state ts
    → stage_of n (let x = after_turns site 1 first_state ts in x.stages) ≡ Some st
    → IsStageOf (length ts) (history_of site ts) n st
