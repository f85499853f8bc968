-- What is known of a run that breaks off.
use Rattle.std.specs.Prelude.{◌≡◌, ◌⊎◌, ℕ, ◌+◌, List, [], ◌++◌, length, Some, None}
use Rattle.std.specs.List.{AllByRecursion}
use Rattle.rip_log.specs.Entries.{Recorded}
use Rattle.rip_history.specs.Connections.{Act, put_in}
use Rattle.rip_history.specs.Course.{turn_entries, HandledDraw, IsMadeIn, AreBySession, AreReplies, IsCourse}
use Rattle.rip_history.specs.Parts.{IsLawful}
use Rattle.rip_history.specs.Run.{Site, Coming, asked_in}
use Rattle.rip_history.specs.Runs.{IsBroken}
use Rattle.rip_history.specs.Sessions.{opening_in, deeds_in, IsSessionOf}
use Rattle.rip_law_history.specs.Legal.{made_in, course_turn, course_turns, told_in, history_of}

-- a history goes on by what a turn did before it broke off: what is decided on its requests, and behind that what sessions
-- did, with its moment and by their ordinals. Each session did what the meaning says up to this turn or the one before
pub record BreaksOff (site : Site) (last : ℕ) (h : List Recorded) (t : Coming) (next : List Recorded) : Type 0 where
  pub entries : next ≡ h ++ turn_entries site.limit (last + 1) h (course_turn (last + 1) t)
  pub made : AllByRecursion (IsMadeIn (last + 1) t.moment) (made_in (last + 1) t.advances)
  pub ordered : AreBySession 0 (made_in (last + 1) t.advances)
  pub words : HandledDraw site.limit (last + 1) t.moment h (asked_in t.handlings) t.words []
  pub sessions : (n : ℕ) (opening : ℕ × ℕ) → opening_in n next ≡ Some opening
      → IsSessionOf site.meaning last next n ⊎ IsSessionOf site.meaning (last + 1) next n
  pub others : (n : ℕ) → opening_in n next ≡ None → deeds_in n next ≡ []
  pub replies : AreReplies site.service [] next

-- the history of whole turns, and of one that broke off
pub record IsFrontOfRun (site : Site) (ts : List Coming) (t : Coming) (put : List Recorded) : Type 0 where
  pub next : List Recorded
  pub whole : IsCourse site.meaning site.service site.limit (told_in ts) (course_turns 1 ts) (history_of site ts)
  pub broken : BreaksOff site (length ts) (history_of site ts) t next
  pub behind : List Recorded
  pub front : next ≡ put ++ behind

-- what a run that breaks off put is a front of such a history
abbrev pub BrokenRunsPut : Type 0
BrokenRunsPut =
    (site : Site) (ts : List Coming) (t : Coming) (acts : List Act) → IsLawful site.meaning → IsBroken site ts t acts
    → IsFrontOfRun site ts t (put_in acts)
