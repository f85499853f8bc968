-- Which calls a session serves, as the entries of a history tell them: the longest prefix of the reported ones that its script
-- made, up to its ending, to want of memory or to the last turn.
use Rattle.std.specs.Prelude.{◌≡◌, ℕ, ◌+◌, ◌-◌, ◌==◌, ◌&&◌, Bool, true, false, List, [], ◌∷◌, length, Option, None, Some, IfSome, is_some, slice_get, if◌then◌else◌}
use Rattle.std.specs.List.{list_any}
use Rattle.rip_app.specs.App.{Loaded}
use Rattle.rip_wire.specs.declared.ending.Ending.{Ending}
use Rattle.rip_wire.specs.declared.ending.Ending.TheVariants.{Mismatch, BadReport, Limit, Fault, Memory, Closed}
use Rattle.rip_log.specs.Entries.{Recorded}
use Rattle.rip_history.specs.Course.{IsCourse, Told, Turn}
use Rattle.rip_history.specs.Parts.{Fact, passes, serves, finishes, Part, serves_call}
use Rattle.rip_history.specs.Services.{Service}
use Rattle.rip_history.specs.Sessions.{Deed, admission, batches_in, comes_by, deed_of, deeds_in, given_in, opening_in, turns_in}
use Rattle.rip_replica.specs.Play.{Played, Closes, Holds}
use Rattle.rip_host.specs.declared.browser.Browser.{Browser}
use Rattle.rip_browser.specs.Visits.{browser_rules}
use Rattle.rip_replica.specs.Parts.{Doing, part_of}
use Rattle.rip_replica.specs.Rules.{HasNoRoom}
use Rattle.rip_law_replica.specs.Prefix.{IsMade, Placed, Reached, after, closes_fine, items_of, opened, played}
use Rattle.rip_session.specs.Tasks.{Task}
use Rattle.rip_law_served.specs.Served.{call_of}
use Rattle.rip_session.specs.Application.{doing_of, meaning_of_app}

-- ---- what the entries tell

-- the served calls among what a session did: each with its turn, its batch, its number, its name and its args
abbrev pub calls_among : List Deed → List Deed
calls_among [] = []
calls_among (d ∷ ds) = if serves_call d.fact then d ∷ calls_among ds else calls_among ds

abbrev pub calls_in : ℕ → List Recorded → List Deed
calls_in n h = calls_among (deeds_in n h)

-- the session ended for want of memory at the item of this number
abbrev pub ends_wanting : ℕ → Option Ending → Bool
ends_wanting number None = false
ends_wanting number (Some (Mismatch item reported_number reported made)) = false
ends_wanting number (Some (BadReport item kind)) = false
ends_wanting number (Some (Limit item limit)) = false
ends_wanting number (Some (Fault item fault)) = false
ends_wanting number (Some (Memory item)) = item == number
ends_wanting number (Some Closed) = false

abbrev pub is_want_of : ℕ → Fact → Bool
is_want_of number passes = false
is_want_of number (serves k name args) = false
is_want_of number (finishes how) = ends_wanting number how

-- so it did at this item of that batch
abbrev pub wants_at : ℕ → ℕ → List Deed → Bool
wants_at batch number ds = list_any (λ (d : Deed). d.batch == batch && is_want_of number d.fact) ds

-- ---- when an item comes

-- the units that its batch has spent with an item that is played so, where so many were spent before it: one, and each of
-- its fuel that it needed
abbrev pub spent_with : {A S : Type 0} → Doing A S → ℕ → Played S → ℕ
spent_with d spent (Closes close hs fuel u w s) = spent + 1 + (d.full - u)
spent_with d spent (Holds open_depth w s) = spent

-- before its first item a batch has spent one
abbrev pub spent_before : ℕ → ℕ → ℕ
spent_before number spent = if number == 1 then 1 else spent

abbrev pub spent_by : {A S : Type 0} → Doing A S → Reached S → ℕ → Placed A → ℕ
spent_by d at spent p = spent_with d (spent_before p.number spent) (played d at p)

-- what an item comes to, at that cost
abbrev pub part_by : {A S : Type 0} → Doing A S → Reached S → ℕ → Placed A → Part
part_by d at spent p = part_of p.batch p.number (spent_by d at spent p) (d.fact p.item)

-- the last turn is not before that of the cost, by the turn in which the batch was admitted
abbrev pub comes : ℕ → List ℕ → Part → Bool
comes last turns p = comes_by last p.cost (admission turns p)

-- ---- which calls are served

-- a reported call may be served at this position: it has that number, it is the call at that position of those that the script
-- made on the items before it, and its reply may wait
abbrev pub MayBeServedAt : ℕ → Browser → ℕ × List ℕ → Type 0
MayBeServedAt k s c =
    (c.0 ≡ k) × (slice_get (browser_rules.made s) (k - 1) ≡ Some c.1)
    × ¬ (HasNoRoom (browser_rules.calls_back s) (k - 1) (browser_rules.undelivered s) (browser_rules.most_undelivered s))

-- of these items, from where a session stands, these calls are served, where the first has this number; so many units were
-- spent, and `did` is all that the session did by the last turn. An item that is over and fine by then leads to the next,
-- and if it reports a call, that is the call of the next number of those that the script made, and it is served, where
-- memory was not wanting. At any other item it stops: at one that ends the session, where a call may not be served at the
-- next position; at a call for which memory was wanting; or at one that comes later
pub data Serves (d : Doing Task Browser) (last : ℕ) (turns : List ℕ) (did : List Deed)
    : Reached Browser → ℕ → ℕ → List (Placed Task) → List Deed → Type 0 where
  through : (at : Reached Browser) (spent k : ℕ) → Serves d last turns did at spent k [] []
  goes_on : (at : Reached Browser) (spent k : ℕ) (p : Placed Task) (ps : List (Placed Task)) (calls : List Deed)
      → closes_fine (played d at p) ≡ true → comes last turns (part_by d at spent p) ≡ true → call_of p.item ≡ None
      → Serves d last turns did (after d at p) (spent_by d at spent p) k ps calls
      → Serves d last turns did at spent k (p ∷ ps) calls
  is_served : (at : Reached Browser) (spent k : ℕ) (p : Placed Task) (ps : List (Placed Task)) (calls : List Deed) (c : ℕ × List ℕ)
      → closes_fine (played d at p) ≡ true → comes last turns (part_by d at spent p) ≡ true → call_of p.item ≡ Some c
      → c.0 ≡ k → IsMade (browser_rules.made at.page) c → wants_at p.batch p.number did ≡ false
      → Serves d last turns did (after d at p) (spent_by d at spent p) (k + 1) ps calls
      → Serves d last turns did at spent k (p ∷ ps) (deed_of turns (part_by d at spent p) ∷ calls)
  ends_at : (at : Reached Browser) (spent k : ℕ) (p : Placed Task) (ps : List (Placed Task))
      → closes_fine (played d at p) ≡ false → IfSome (call_of p.item) (λ c. ¬ (MayBeServedAt k at.page c))
      → Serves d last turns did at spent k (p ∷ ps) []
  lacks_at : (at : Reached Browser) (spent k : ℕ) (p : Placed Task) (ps : List (Placed Task))
      → is_some (call_of p.item) ≡ true → wants_at p.batch p.number did ≡ true
      → Serves d last turns did at spent k (p ∷ ps) []
  is_later : (at : Reached Browser) (spent k : ℕ) (p : Placed Task) (ps : List (Placed Task))
      → comes last turns (part_by d at spent p) ≡ false
      → Serves d last turns did at spent k (p ∷ ps) []

-- ---- the law

-- so it is of a session of a history that was opened with this seed and time: of the items of its opening and of its admitted
-- batches, with what the history gives it, the calls of its entries are served; one that was not opened serves none
abbrev pub ServesIn : Loaded → ℕ → List Recorded → ℕ → Option (ℕ × ℕ) → Type 0
ServesIn app last h n None = calls_in n h ≡ []
ServesIn app last h n (Some (seed, time)) =
    let d = doing_of app seed time in
    Serves d last (turns_in n h) (deeds_in n h) (opened d (given_in n h)) 1 1 (items_of d (batches_in n h)) (calls_in n h)

-- in each legal course of an application, of each session
abbrev pub HistoriesServePrefixes : Type 0
HistoriesServePrefixes =
    (app : Loaded) (service : Service) (limit : ℕ) (told : Told) (turns : List Turn) (history : List Recorded)
    → IsCourse (meaning_of_app app) service limit told turns history
    → (n : ℕ) → ServesIn app (length turns) history n (opening_in n history)

-- and these calls are one list
abbrev pub CallsAreOne : Type 0
CallsAreOne =
    (d : Doing Task Browser) (last : ℕ) (turns : List ℕ) (did : List Deed) (at : Reached Browser) (spent k : ℕ) (ps : List (Placed Task))
    → (calls others : List Deed)
    → Serves d last turns did at spent k ps calls → Serves d last turns did at spent k ps others → calls ≡ others
