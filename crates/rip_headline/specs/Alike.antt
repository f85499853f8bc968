-- How far a session goes that is given the same in two runs.
use Rattle.std.specs.Prelude.{◌≡◌, ℕ, true, List, ◌∷◌, ◌++◌, Option, Some}
use Rattle.rip_log.specs.Entries.{Recorded}
use Rattle.rip_history.specs.Connections.{Act}
use Rattle.rip_history.specs.Parts.{IsLawful}
use Rattle.rip_history.specs.Run.{Coming, Site, first_state}
use Rattle.rip_history.specs.Runs.{AreTurns, IsRun}
use Rattle.rip_history.specs.Sessions.{Distant, IsFrontOf, given_in, story_in}
use Rattle.rip_history.specs.Standings.{is_busy, standing_of}
use Rattle.rip_history.specs.declared.standing.Standing.{Standing}
use Rattle.rip_law_history.specs.Alone.{IsGivenAlike, said_in}
use Rattle.rip_law_history.specs.Legal.{history_of}

-- nothing is left to do for a session: its last batch is done, or its opening, where it has no batch
abbrev pub HasNothingLeft : ℕ → List Recorded → Type 0
HasNothingLeft n h = (s : Standing) → standing_of n h ≡ Some s → s.done ≡ Some s.last

-- a session that is given the same in two runs, and for which nothing is left to do in the one, does no more in the other
abbrev pub DoneGoNoFurther : Type 0
DoneGoNoFurther =
    (site other_site : Site) (ts other_ts : List Coming) (n k : ℕ)
    → IsLawful site.meaning → other_site.meaning ≡ site.meaning
    → AreTurns site 1 first_state ts → AreTurns other_site 1 first_state other_ts
    → IsGivenAlike (history_of site ts) (history_of other_site other_ts) n k → HasNothingLeft n (history_of site ts)
    → IsFrontOf (story_in k (history_of other_site other_ts)) (story_in n (history_of site ts))

-- the last batch of a session, or its opening, is not done
pub record IsStopped (n : ℕ) (h : List Recorded) : Type 0 where
  pub standing : Standing
  pub is : standing_of n h ≡ Some standing
  pub busy : is_busy standing ≡ true

-- where a session that is given the same in two runs does more in the other, the one stopped before the session's last batch was
-- done there
abbrev pub ShorterStopped : Type 0
ShorterStopped =
    (site other_site : Site) (ts other_ts : List Coming) (n k : ℕ) (d : Distant) (more : List Distant)
    → IsLawful site.meaning → other_site.meaning ≡ site.meaning
    → AreTurns site 1 first_state ts → AreTurns other_site 1 first_state other_ts
    → IsGivenAlike (history_of site ts) (history_of other_site other_ts) n k
    → story_in k (history_of other_site other_ts) ≡ story_in n (history_of site ts) ++ d ∷ more
    → IsStopped n (history_of site ts)

-- a session does the same in two histories, is given the same, and is answered the same, to the end
pub record GoesAlike (history other : List Recorded) (n k : ℕ) : Type 0 where
  pub story : story_in n history ≡ story_in k other
  pub given : given_in n history ≡ given_in k other
  pub said : said_in n history ≡ said_in k other

-- so does each session that is given the same in two runs that stop with 0
abbrev pub EndedAreAlike : Type 0
EndedAreAlike =
    (site other_site : Site) (most other_most : Option ℕ) (ts other_ts : List Coming) (acts other_acts : List Act) (n k : ℕ)
    → IsLawful site.meaning → other_site.meaning ≡ site.meaning
    → IsRun site most ts 0 acts → IsRun other_site other_most other_ts 0 other_acts
    → IsGivenAlike (history_of site ts) (history_of other_site other_ts) n k
    → GoesAlike (history_of site ts) (history_of other_site other_ts) n k
