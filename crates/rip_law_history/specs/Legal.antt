-- Runs of the machine are legal courses.
use Rattle.std.specs.Prelude.{◌≡◌, ℕ, ◌+◌, List, [], ◌∷◌, ◌++◌, length, map, Option, Some}
use Rattle.std.specs.List.{flat_map}
use Rattle.rip_log.specs.Entries.{Recorded, ended}
use Rattle.rip_history.specs.Course.{Told, Turn, IsCourse}
use Rattle.rip_history.specs.Parts.{IsLawful}
use Rattle.rip_history.specs.Run.{Site, first_state, Advance, advance_entries, Coming, asked_in}
use Rattle.rip_history.specs.Runs.{after_turns, AreTurns, IsRun}
use Rattle.rip_history.specs.Connections.{Act, put_in}
use Rattle.rip_history.specs.Standings.{standing_of}
use Rattle.rip_history.specs.declared.standing.Standing.{Standing}

-- the entries of what the sessions do in a turn
abbrev pub made_in : ℕ → List Advance → List Recorded
made_in turn advances = flat_map (advance_entries turn) advances

-- a turn of the machine as one of the course
abbrev pub course_turn : ℕ → Coming → Turn
course_turn turn t = record { moment = t.moment; handled = asked_in t.handlings; made = made_in turn t.advances }

-- turns, the first of which has this number
abbrev pub course_turns : ℕ → List Coming → List Turn
course_turns turn [] = []
course_turns turn (t ∷ ts) = course_turn turn t ∷ course_turns (turn + 1) ts

-- what the clock and the words told in them
abbrev pub told_in : List Coming → Told
told_in ts = record { moments = map (λ (t : Coming). t.moment) ts; words = flat_map (λ (t : Coming). t.words) ts }

-- the history of turns
abbrev pub history_of : Site → List Coming → List Recorded
history_of site ts = let s = after_turns site 1 first_state ts in s.history

-- the history of each run of the machine, after any of its turns, is a course, whatever its sessions mean
abbrev pub RunsAreCourses : Type 0
RunsAreCourses =
    (site : Site) (ts : List Coming) → IsLawful site.meaning → AreTurns site 1 first_state ts
    → IsCourse site.meaning site.service site.limit (told_in ts) (course_turns 1 ts) (history_of site ts)

-- a run that stops with 0 leaves nothing undone: the last batch of each session is done, and so is each opening. One that
-- stops with 3 has made as many turns as it may
abbrev pub RunsEnd : Type 0
RunsEnd =
    (site : Site) (most : Option ℕ) (ts : List Coming) (acts : List Act) → IsLawful site.meaning
    → (IsRun site most ts 0 acts → (n : ℕ) (s : Standing) → standing_of n (history_of site ts) ≡ Some s → s.done ≡ Some s.last)
    × (IsRun site most ts 3 acts → most ≡ Some (length ts))

-- what a whole run puts is a course and its status, in order
abbrev pub RunsPut : Type 0
RunsPut =
    (site : Site) (most : Option ℕ) (ts : List Coming) (status : ℕ) (acts : List Act) → IsRun site most ts status acts
    → put_in acts ≡ history_of site ts ++ ended (length ts) status ∷ []
