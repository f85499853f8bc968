-- Which calls a session serves: all that are reported before it ends, and each is the call of its number of those that the
-- script made on the items before it.
use Rattle.std.specs.Prelude.{◌≡◌, ℕ, ◌+◌, ◌-◌, ◌≤◌, Bool, true, false, List, [], ◌∷◌, ◌++◌, map, slice_get, Option, None, Some, IfSome, if◌then◌else◌}
use Rattle.rip_heap.specs.World.{World}
use Rattle.rip_wire.specs.Batches.{Contents}
use Rattle.rip_replica.specs.Play.{Played, Closes, Holds}
use Rattle.rip_replica.specs.Items.{call_plan}
use Rattle.rip_replica.specs.Rules.{HasNoRoom, IsNextCall, Rules, TellsPositions}
use Rattle.rip_history.specs.Parts.{Fact, Given, Part, serves_call}
use Rattle.rip_replica.specs.Parts.{Doing, first_given, given_behind, is_fine, session_parts, whole_item}

-- ---- the items of a session

-- an item, with the number of its batch and its number in it
pub record Placed (A : Type 0) : Type 0 where
  pub batch : ℕ
  pub number : ℕ
  pub item : A

abbrev pub placed : {A : Type 0} → ℕ → ℕ → List A → List (Placed A)
placed batch n [] = []
placed batch n (a ∷ items) = record { batch = batch; number = n; item = a } ∷ placed batch (n + 1) items

-- those of batches from this number on
abbrev pub placed_in : {A S : Type 0} → Doing A S → ℕ → List Contents → List (Placed A)
placed_in d batch [] = []
placed_in d batch (b ∷ bs) = placed batch 1 (d.items b) ++ placed_in d (batch + 1) bs

-- those of a session: its opening is batch 0, with one item
abbrev pub items_of : {A S : Type 0} → Doing A S → List Contents → List (Placed A)
items_of d bs = placed 0 1 (d.opening ∷ []) ++ placed_in d 1 bs

-- ---- items that are played whole, one after another

-- the world, the page, and what is given from then on
pub record Reached (S : Type 0) : Type 0 where
  pub world : World
  pub page : S
  pub given : List Given

abbrev pub opened : {A S : Type 0} → Doing A S → List Given → Reached S
opened d gs = record { world = d.world; page = d.page; given = gs }

abbrev pub played : {A S : Type 0} → Doing A S → Reached S → Placed A → Played S
played d at p = whole_item d p.batch p.item p.number at.world at.page (first_given at.given)

-- what an item that was played so leaves
abbrev pub left_by : {A S : Type 0} → Doing A S → A → List Given → Played S → Reached S
left_by d a gs (Closes close hs fuel u w s) = record { world = w; page = s; given = given_behind (d.fact a) gs }
left_by d a gs (Holds open_depth w s) = record { world = w; page = s; given = gs }

abbrev pub after : {A S : Type 0} → Doing A S → Reached S → Placed A → Reached S
after d at p = left_by d p.item at.given (played d at p)

-- it is over and fine; else the session ends at it
abbrev pub closes_fine : {S : Type 0} → Played S → Bool
closes_fine (Closes close gs fuel u w s) = is_fine close
closes_fine (Holds open_depth w s) = false

-- the items before the one at which the session ends
abbrev pub handled : {A S : Type 0} → Doing A S → Reached S → List (Placed A) → List (Placed A)
handled d at [] = []
handled d at (p ∷ ps) = if closes_fine (played d at p) then p ∷ handled d (after d at p) ps else []

-- ---- calls

-- an item reports this call, by its number and its text, or none: the plan of one that does is that of a call
pub record ReportsBy {F A S : Type 0} (rules : Rules F S) (d : Doing A S) (call : A → Option (ℕ × List ℕ)) : Type 0 where
  pub none : (a : A) → call a ≡ None → serves_call (d.fact a) ≡ false
  pub some : (a : A) (c : ℕ × List ℕ) → call a ≡ Some c → serves_call (d.fact a) ≡ true
  pub plan : (a : A) (c : ℕ × List ℕ) → call a ≡ Some c → (batch n : ℕ) (w : World) (s : S) → d.plan batch a n w s ≡ call_plan n (rules.position s c.0 c.1) w s

-- of what items come to, the served calls
abbrev pub calls_among : List Fact → List Fact
calls_among [] = []
calls_among (f ∷ fs) = if serves_call f then f ∷ calls_among fs else calls_among fs

abbrev pub served_in : List Part → List Fact
served_in ps = calls_among (map (λ (p : Part). p.fact) ps)

abbrev pub reported_in : {A S : Type 0} → Doing A S → List (Placed A) → List Fact
reported_in d ps = calls_among (map (λ (p : Placed _). d.fact p.item) ps)

-- the call of this number is made
abbrev pub IsMade : List (List ℕ) → ℕ × List ℕ → Type 0
IsMade made c = (1 ≤ c.0) × (slice_get made (c.0 - 1) ≡ Some c.1)

-- each of these items that reports a call reports the call of its number of those that the script made on the items before it
abbrev pub AreMade : {F A S : Type 0} → Rules F S → Doing A S → (A → Option (ℕ × List ℕ)) → Reached S → List (Placed A) → Type 0
AreMade rules d call at [] = Unit {0}
AreMade rules d call at (p ∷ ps) = IfSome (call p.item) (IsMade (rules.made at.page)) × AreMade rules d call (after d at p) ps

-- the call is the next of those that the script made, and its reply may wait
abbrev pub MayBeServed : {F S : Type 0} → Rules F S → S → ℕ × List ℕ → Type 0
MayBeServed rules s c =
    (c.0 ≡ rules.taken s + 1) × IsNextCall (rules.made s) (rules.taken s) c.1
    × ¬ (HasNoRoom (rules.calls_back s) (rules.taken s) (rules.undelivered s) (rules.most_undelivered s))

-- where a session ends at an item that reports a call, that call may not be served
abbrev pub EndsBy : {F A S : Type 0} → Bool → Rules F S → (A → Option (ℕ × List ℕ)) → A → S → Type 0 → Type 0
EndsBy true rules call a s On = On
EndsBy false rules call a s On = IfSome (call a) (λ c. ¬ (MayBeServed rules s c))

abbrev pub AreLongest : {F A S : Type 0} → Rules F S → Doing A S → (A → Option (ℕ × List ℕ)) → Reached S → List (Placed A) → Type 0
AreLongest rules d call at [] = Unit {0}
AreLongest rules d call at (p ∷ ps) = EndsBy (closes_fine (played d at p)) rules call p.item at.page (AreLongest rules d call (after d at p) ps)

-- what a session serves: the calls that are reported by the items before the one at which it ends, all of them; each is the
-- call of its number of those that the script made; and where it ends at a call more, that one may not be served
pub record ServesPrefix {F A S : Type 0} (rules : Rules F S) (d : Doing A S) (call : A → Option (ℕ × List ℕ)) (bs : List Contents) (gs : List Given) : Type 0 where
  pub served : served_in (session_parts d bs gs) ≡ reported_in d (handled d (opened d gs) (items_of d bs))
  pub made : AreMade rules d call (opened d gs) (handled d (opened d gs) (items_of d bs))
  pub longest : AreLongest rules d call (opened d gs) (items_of d bs)

-- so it is wherever each reported call is told as it stands to the calls that the script made
abbrev pub ServedAreMade : Type 0 → Type 0 → Type 0 → Type 0
ServedAreMade F A S =
    (rules : Rules F S) (d : Doing A S) (call : A → Option (ℕ × List ℕ)) → ((s : S) → TellsPositions rules s) → ReportsBy rules d call
    → (bs : List Contents) (gs : List Given) → ServesPrefix rules d call bs gs

-- ---- their numbers

-- the page counts the served calls: none as it is opened, one more with each that is served, and no other item counts
pub record CountsServed {F A S : Type 0} (rules : Rules F S) (d : Doing A S) (call : A → Option (ℕ × List ℕ)) : Type 0 where
  pub none : rules.taken d.page ≡ 0
  pub one : (batch : ℕ) (g : Given) (s : S) → rules.taken (d.serve batch g s) ≡ rules.taken s + 1
  pub others : (at : Reached S) (p : Placed A) → call p.item ≡ None → rules.taken (let x = after d at p in x.page) ≡ rules.taken at.page

abbrev pub next_number : Option (ℕ × List ℕ) → ℕ → ℕ
next_number None k = k
next_number (Some c) k = k + 1

-- the calls that these items report are numbered from this number on
abbrev pub AreNumbered : {A : Type 0} → (A → Option (ℕ × List ℕ)) → ℕ → List (Placed A) → Type 0
AreNumbered call k [] = Unit {0}
AreNumbered call k (p ∷ ps) = IfSome (call p.item) (λ c. c.0 ≡ k) × AreNumbered call (next_number (call p.item) k) ps

-- so the served calls are numbered from 1, one after another: with ServedAreMade they are the first that the script made
abbrev pub ServedAreFirst : Type 0 → Type 0 → Type 0 → Type 0
ServedAreFirst F A S =
    (rules : Rules F S) (d : Doing A S) (call : A → Option (ℕ × List ℕ)) → ((s : S) → TellsPositions rules s) → ReportsBy rules d call → CountsServed rules d call
    → (bs : List Contents) (gs : List Given) → AreNumbered call 1 (handled d (opened d gs) (items_of d bs))

-- before each of these items, up to the one at which the session ends, the number of the next call is one more than the page has
-- counted, where it is this number before the first
abbrev pub AreCounted : {F A S : Type 0} → Rules F S → Doing A S → (A → Option (ℕ × List ℕ)) → Reached S → ℕ → List (Placed A) → Type 0
AreCounted rules d call at k [] = Unit {0}
AreCounted rules d call at k (p ∷ ps) =
    (k ≡ rules.taken at.page + 1)
    × (closes_fine (played d at p) ≡ true → AreCounted rules d call (after d at p) (next_number (call p.item) k) ps)

-- so it is of the items of a session: the position of the next call is told by the page's count
abbrev pub ServedAreCounted : Type 0 → Type 0 → Type 0 → Type 0
ServedAreCounted F A S =
    (rules : Rules F S) (d : Doing A S) (call : A → Option (ℕ × List ℕ)) → ((s : S) → TellsPositions rules s) → ReportsBy rules d call → CountsServed rules d call
    → (bs : List Contents) (gs : List Given) → AreCounted rules d call (opened d gs) 1 (items_of d bs)
