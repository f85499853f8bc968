-- A run that breaks off is the beginning of a longer one.
use Rattle.std.specs.Prelude.{List, [], ◌∷◌, ◌++◌}
use Rattle.rip_log.specs.Entries.{Recorded}
use Rattle.rip_history.specs.Connections.{Act, put_in}
use Rattle.rip_history.specs.Course.{IsCourse}
use Rattle.rip_history.specs.Parts.{IsLawful}
use Rattle.rip_history.specs.Run.{Advance, Coming, Handling, Site, first_state}
use Rattle.rip_history.specs.Runs.{AreTurns, IsBroken, turns_acts}
use Rattle.rip_history.specs.Sessions.{IsFrontOf}
use Rattle.rip_law_history.specs.Legal.{course_turns, history_of, told_in}
use Rattle.rip_law_server.specs.Rising.{PartsRise}

-- a turn in which more requests are handled, and more sessions go on
abbrev pub with_more : List Handling → List Advance → Coming → Coming
with_more handlings advances t = record t { handlings = t.handlings ++ handlings; advances = t.advances ++ advances }

-- the history of turns is a legal course of them, with their moments and words, and these entries are a front of it
pub record BeginsCourse (site : Site) (ts : List Coming) (put : List Recorded) : Type 0 where
  pub course : IsCourse site.meaning site.service site.limit (told_in ts) (course_turns 1 ts) (history_of site ts)
  pub front : IsFrontOf put (history_of site ts)

-- turns, and one more in which more requests are handled and more sessions go on, are those of a run; these acts are a front of
-- what is done in them, and their entries one of a legal course
pub record GoesOnTo (site : Site) (ts : List Coming) (t : Coming) (acts : List Act) : Type 0 where
  pub handlings : List Handling
  pub advances : List Advance
  pub turns : AreTurns site 1 first_state (ts ++ with_more handlings advances t ∷ [])
  pub front : IsFrontOf acts (turns_acts site 1 first_state (ts ++ with_more handlings advances t ∷ []))
  pub begins : BeginsCourse site (ts ++ with_more handlings advances t ∷ []) (put_in acts)

-- what was done in a run that breaks off is a front of what is done in one whose last turn is whole: what it had still to handle is
-- handled, and the sessions that are still busy go on. It asks of a meaning that its parts rise
abbrev pub BrokenRunsGoOn : Type 0
BrokenRunsGoOn =
    (site : Site) (ts : List Coming) (t : Coming) (acts : List Act) → IsLawful site.meaning → PartsRise site.meaning → IsBroken site ts t acts
    → GoesOnTo site ts t acts
