-- What is known of turns that were made, and of whole runs: their history is a legal course.
use Rattle.std.specs.Prelude.{◌≡◌, ℕ, ◌<◌, ◌≤◌, ◌^◌, List, [], ◌∷◌, ◌++◌, length, Some}
use Rattle.rip_outer.specs.Outside.{Front, also}
use Rattle.rip_log.specs.Entries.{Recorded, ended}
use Rattle.rip_log.specs.Histories.{history_text, IsHistory}
use Rattle.rip_history.specs.Connections.{sent_in}
use Rattle.rip_history.specs.Course.{IsCourse}
use Rattle.rip_history.specs.Run.{Site, first_state, Coming}
use Rattle.rip_history.specs.Runs.{AreTurns, StopsWith, turns_acts}
use Rattle.rip_history.specs.Standings.{standing_of}
use Rattle.rip_history.specs.declared.standing.Standing.{Standing}
use Rattle.rip_law_history.specs.Legal.{course_turns, told_in, history_of}
use Rattle.rip_law_history.specs.Streams.{IsStream}
use Rattle.rip_law_history.specs.Ranged.{MeansInRange, RepliesInRange}
use Rattle.rip_server.specs.Turning.{Outer, Gives}
use Rattle.rip_serve.specs.Serving.{moments_of, words_of, AreKnocks}

-- what is known of turns that were made: they are turns of the server model; their history is a course of them, with their moments
-- and words; and what is handled on each connection is what is asked in the bytes that came on it
pub record AreLegal (site : Site) (ts : List Coming) : Type 0 where
  pub made : AreTurns site 1 first_state ts
  pub course : IsCourse site.meaning site.service site.limit (told_in ts) (course_turns 1 ts) (history_of site ts)
  pub streams : (c : ℕ) → IsStream site ts c

-- with 0 nothing is left undone: the last batch of each session is done
abbrev pub IsDoneWith : ℕ → List Recorded → Type 0
IsDoneWith status h = status ≡ 0 → (n : ℕ) (s : Standing) → standing_of n h ≡ Some s → s.done ≡ Some s.last

-- knocks, moments and words of turns are those that were given
pub record AreGiven (site : Site) (ts : List Coming) (old new : Outer) : Type 0 where
  pub knocks : AreKnocks site 1 first_state ts old.seen.telling.left new.seen.telling.left
  pub moments : Gives (moments_of ts) old.clock new.clock
  pub words : Gives (words_of ts) old.words new.words

-- what turns send on each connection was sent on it, behind what was sent before
abbrev pub AreSent : Site → List Coming → Outer → Outer → Type 0
AreSent site ts old new = (c : ℕ) → new.seen.sent c ≡ also (sent_in c (turns_acts site 1 first_state ts)) (old.seen.sent c)

-- each entry that is put is in range, where what sessions and service do is, and turns are counted by 64 bits
abbrev pub ArePutInRange : Site → ℕ → List Recorded → Type 0
ArePutInRange site most history =
    most < 2 ^ 64 → MeansInRange site.meaning → RepliesInRange site.service → IsHistory history

-- the sink holds the text of a legal course of at most so many turns, and its status, behind what it held
pub record IsLegalRun (site : Site) (most status : ℕ) (old new : Outer) : Type 0 where
  pub turns : List Coming
  pub few : length turns ≤ most
  pub given : AreGiven site turns old new
  pub sent : AreSent site turns old new
  pub legal : AreLegal site turns
  pub stops : StopsWith site (Some most) turns status
  pub done : IsDoneWith status (history_of site turns)
  pub in_range : ArePutInRange site most (history_of site turns ++ ended (length turns) status ∷ [])
  pub put : new.seen.held ≡ also (history_text (history_of site turns ++ ended (length turns) status ∷ [])) old.seen.held

-- or a front of the text of a legal course and its status
pub record IsCutRun (site : Site) (most : ℕ) (old new : Outer) : Type 0 where
  pub turns : List Coming
  pub status : ℕ
  pub few : length turns ≤ most
  pub given : AreGiven site turns old new
  pub sent : AreSent site turns old new
  pub legal : AreLegal site turns
  pub stops : StopsWith site (Some most) turns status
  pub done : IsDoneWith status (history_of site turns)
  pub in_range : ArePutInRange site most (history_of site turns ++ ended (length turns) status ∷ [])
  pub put : Front (history_text (history_of site turns ++ ended (length turns) status ∷ [])) old.seen.held new.seen.held
