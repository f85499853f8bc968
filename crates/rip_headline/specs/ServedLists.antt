-- The served calls of a session by two whole lists: the calls that its items report, and those that its script made.
use Rattle.std.specs.Prelude.{◌≡◌, ℕ, ◌+◌, true, false, List, [], ◌∷◌, ◌++◌, length, Option, None, Some, is_some}
use Rattle.rip_app.specs.App.{Loaded}
use Rattle.rip_log.specs.Entries.{Recorded}
use Rattle.rip_history.specs.Course.{IsCourse, Told, Turn}
use Rattle.rip_history.specs.Services.{Service}
use Rattle.rip_history.specs.Sessions.{Deed, batches_in, deeds_in, given_in, opening_in, turns_in}
use Rattle.rip_host.specs.declared.browser.Browser.{Browser}
use Rattle.rip_browser.specs.Visits.{browser_rules}
use Rattle.rip_replica.specs.Parts.{Doing}
use Rattle.rip_replica.specs.Rules.{HasNoRoom}
use Rattle.rip_replica.specs.Served.{IsServed, ReportedCall, reported_calls}
use Rattle.rip_law_replica.specs.Prefix.{Placed, Reached, after, closes_fine, items_of, opened, played}
use Rattle.rip_session.specs.Tasks.{Task}
use Rattle.rip_law_served.specs.Served.{call_of}
use Rattle.rip_session.specs.Application.{doing_of, meaning_of_app}
use Rattle.rip_headline.specs.PrefixHistories.{Serves, calls_in, comes, part_by, spent_by, wants_at}

-- ---- the two lists

-- where a session stands once these items were played, one after another
abbrev pub reached : Doing Task Browser → Reached Browser → List (Placed Task) → Reached Browser
reached d at [] = at
reached d at (p ∷ ps) = reached d (after d at p) ps

-- these calls, each with its number, where the first has this one
abbrev pub numbered_from : ℕ → List (List ℕ) → List (ℕ × List ℕ)
numbered_from first [] = []
numbered_from first (text ∷ texts) = (first, text) ∷ numbered_from (first + 1) texts

-- the calls that the script made on these items, numbered from 1
abbrev pub made_on : Doing Task Browser → Reached Browser → List (Placed Task) → List (ℕ × List ℕ)
made_on d start items = numbered_from 1 (browser_rules.made (let at = reached d start items in at.page))

-- the calls that these items report, each with its number, and with the items before it
abbrev pub reports_of : List (Placed Task) → List (ReportedCall (Placed Task) (ℕ × List ℕ))
reports_of items = reported_calls (λ (p : Placed Task). call_of p.item) items

-- ---- how many are served

-- of the calls that these items report all are served, so many: each is the call at its position of those that the script made
-- on the items before it
pub record AllServed (d : Doing Task Browser) (start : Reached Browser) (items : List (Placed Task)) (n : ℕ) : Type 0 where
  pub served : IsServed (made_on d start) (reports_of items) n
  pub all : n ≡ length (reports_of items)

-- once these items were played, as many replies are undelivered as may, and the call behind so many served ones has a callback
abbrev pub IsFull : Doing Task Browser → Reached Browser → List (Placed Task) → ℕ → Type 0
IsFull d start items n =
    let s : Browser = (let at = reached d start items in at.page) in
    HasNoRoom (browser_rules.calls_back s) n (browser_rules.undelivered s) (browser_rules.most_undelivered s)

-- the units that the batch has spent once these items were played
abbrev pub spent_on : Doing Task Browser → Reached Browser → ℕ → List (Placed Task) → ℕ
spent_on d at spent [] = spent
spent_on d at spent (p ∷ ps) = spent_on d (after d at p) (spent_by d at spent p) ps

-- so many calls of these items are served, where a session starts here and `did` is all that it did by the last turn: all that
-- are reported, as far as it came; where it ended, the longest prefix of those that were reported up to there, the last one
-- included, in which each is the call at its position of those that the script made, but for a call for whose reply there was
-- no room; else it stopped at a call for which memory was wanting, or at an item that comes after the last turn
pub data AreServed (d : Doing Task Browser) (last : ℕ) (turns : List ℕ) (did : List Deed) (start : Reached Browser) (items : List (Placed Task)) (n : ℕ) : Type 0 where
  all_over : AllServed d start items n → AreServed d last turns did start items n
  ended : (before : List (Placed Task)) (p : Placed Task) (rest : List (Placed Task)) → items ≡ before ++ p ∷ rest → AllServed d start before n
      → closes_fine (played d (reached d start before) p) ≡ false
      → (¬ (IsFull d start before n) → IsServed (made_on d start) (reports_of (before ++ p ∷ [])) n)
      → AreServed d last turns did start items n
  lacking : (before : List (Placed Task)) (p : Placed Task) (rest : List (Placed Task)) → items ≡ before ++ p ∷ rest → AllServed d start before n
      → is_some (call_of p.item) ≡ true → wants_at p.batch p.number did ≡ true
      → AreServed d last turns did start items n
  later : (before : List (Placed Task)) (p : Placed Task) (rest : List (Placed Task)) → items ≡ before ++ p ∷ rest → AllServed d start before n
      → comes last turns (part_by d (reached d start before) (spent_on d start 1 before) p) ≡ false
      → AreServed d last turns did start items n

-- ---- the law

-- the calls that are served item by item are so many
abbrev pub ServeByLists : Type 0
ServeByLists =
    (d : Doing Task Browser) (last : ℕ) (turns : List ℕ) (did : List Deed) (start : Reached Browser) (items : List (Placed Task)) (calls : List Deed)
    → Serves d last turns did start 1 1 items calls → AreServed d last turns did start items (length calls)

-- so it is of a session of a history that was opened with this seed and time; one that was not opened serves none
abbrev pub ServedIn : Loaded → ℕ → List Recorded → ℕ → Option (ℕ × ℕ) → Type 0
ServedIn app last h n None = calls_in n h ≡ []
ServedIn app last h n (Some (seed, time)) =
    let d = doing_of app seed time in
    AreServed d last (turns_in n h) (deeds_in n h) (opened d (given_in n h)) (items_of d (batches_in n h)) (length (calls_in n h))

-- in each legal course of an application, of each session
abbrev pub HistoriesServeByLists : Type 0
HistoriesServeByLists =
    (app : Loaded) (service : Service) (limit : ℕ) (told : Told) (turns : List Turn) (history : List Recorded)
    → IsCourse (meaning_of_app app) service limit told turns history
    → (n : ℕ) → ServedIn app (length turns) history n (opening_in n history)
