-- When a session that goes no further in the one of two runs would have gone further.
use Rattle.std.specs.Prelude.{◌≡◌, ℕ, suc, ◌+◌, ◌<◌, ◌≤◌, List, [], ◌∷◌, ◌++◌, length, slice_get, take, Some}
use Rattle.std.specs.List.{AllByRecursion}
use Rattle.rip_app.specs.App.{Loaded}
use Rattle.rip_wire.specs.Batches.{Contents}
use Rattle.rip_log.specs.Entries.{Recorded}
use Rattle.rip_history.specs.Parts.{Given, IsLawful, Meaning, Part, served_count}
use Rattle.rip_history.specs.Run.{Coming, Site, first_state}
use Rattle.rip_history.specs.Runs.{AreTurns}
use Rattle.rip_history.specs.Sessions.{Distant, story_in, turns_in}
use Rattle.rip_law_history.specs.Alone.{IsGivenAlike}
use Rattle.rip_law_history.specs.Legal.{history_of}
use Rattle.rip_session.specs.Application.{meaning_of_app}

-- the meaning asks before it reads: behind parts in which no more calls are served than were given the next part, too, is the
-- same whatever is given behind
abbrev pub AsksBeforeItReads : Meaning → Type 0
AsksBeforeItReads m =
    (seed time : ℕ) (batches : List Contents) (given more : List Given) (n : ℕ)
    → served_count (take n (m seed time batches given)) ≤ length given
    → take (suc n) (m seed time batches given) ≡ take (suc n) (m seed time batches (given ++ more))

-- a part is of no earlier batch than another, and costs no less where it is of the same
abbrev pub IsNoEarlier : Part → Part → Type 0
IsNoEarlier p q = (p.batch ≤ q.batch) × (p.batch ≡ q.batch → p.cost ≤ q.cost)

-- each of these is no earlier than those before it
abbrev pub AreRising : List Part → Type 0
AreRising [] = Unit {0}
AreRising (p ∷ ps) = AllByRecursion (IsNoEarlier p) ps × AreRising ps

-- so are the parts of each session of the meaning
abbrev pub CostsRise : Meaning → Type 0
CostsRise m = (seed time : ℕ) (batches : List Contents) (given : List Given) → AreRising (m seed time batches given)

-- each application asks before it reads, and its costs rise
abbrev pub ApplicationsAsk : Type 0
ApplicationsAsk = (app : Loaded) → AsksBeforeItReads (meaning_of_app app) × CostsRise (meaning_of_app app)

-- in this history, which goes up to this turn, an entry is due later: so many turns after the one in which its batch was
-- admitted there
pub record IsDueLater (last : ℕ) (h : List Recorded) (n : ℕ) (d : Distant) : Type 0 where
  pub turn : ℕ
  pub admitted : slice_get (turns_in n h) d.batch ≡ Some turn
  pub later : last < turn + d.distance

-- where a session that is given the same in two runs does more in the other, the one stopped before the turn in which the next
-- that it does there is due
abbrev pub ShorterIsShort : Type 0
ShorterIsShort =
    (site other_site : Site) (ts other_ts : List Coming) (n k : ℕ) (d : Distant) (more : List Distant)
    → IsLawful site.meaning → AsksBeforeItReads site.meaning → CostsRise site.meaning → other_site.meaning ≡ site.meaning
    → AreTurns site 1 first_state ts → AreTurns other_site 1 first_state other_ts
    → IsGivenAlike (history_of site ts) (history_of other_site other_ts) n k
    → story_in k (history_of other_site other_ts) ≡ story_in n (history_of site ts) ++ d ∷ more
    → IsDueLater (length ts) (history_of site ts) n d
