-- Which reported calls are served: the longest prefix of them that the script made.
use Rattle.std.specs.Prelude.{◌≡◌, ℕ, ◌+◌, ◌<◌, ◌≤◌, List, [], ◌∷◌, ◌++◌, length, slice_get, Option, None, Some, IfSome}

-- a reported call, where A is the type of items and C that of calls: the items that were reported before it, and the call
pub record ReportedCall (A C : Type 0) : Type 0 where
  pub before : List A
  pub call : C

-- where the item reports a call, with the items before it
abbrev pub with_report : {A C : Type 0} → Option C → List A → List (ReportedCall A C) → List (ReportedCall A C)
with_report None before rest = rest
with_report (Some call) before rest = record { before = before; call = call } ∷ rest

-- the reported calls of these items in order, where an item reports this call or none, behind those before
abbrev pub reported_behind : {A C : Type 0} → (A → Option C) → List A → List A → List (ReportedCall A C)
reported_behind call before [] = []
reported_behind call before (a ∷ items) = with_report (call a) before (reported_behind call (before ++ a ∷ []) items)

abbrev pub reported_calls : {A C : Type 0} → (A → Option C) → List A → List (ReportedCall A C)
reported_calls call items = reported_behind call [] items

-- the reported call at this position is the call at the same position of those that the script made on the items before
abbrev pub MatchesAt : {A C : Type 0} → (List A → List C) → List (ReportedCall A C) → ℕ → Type 0
MatchesAt made reported k = IfSome (slice_get reported k) (λ r. slice_get (made r.before) k ≡ Some r.call)

-- so many reported calls are served: they match, and the one behind them, if there is one, does not
pub record IsServed {A C : Type 0} (made : List A → List C) (reported : List (ReportedCall A C)) (n : ℕ) : Type 0 where
  pub within : n ≤ length reported
  pub match : (k : ℕ) → k < n → MatchesAt made reported k
  pub longest : n < length reported → ¬ (MatchesAt made reported n)

-- there are never two numbers of served calls
abbrev pub ServedIsOne : (A C : Type 0) → Type 0
ServedIsOne A C = (made : List A → List C) (reported : List (ReportedCall A C)) (n m : ℕ) → IsServed made reported n → IsServed made reported m → n ≡ m

-- an item that reports no call leaves the reported calls as they are; where all were served so far, a call more is served
-- exactly where it is the call at its position of those that the script made on the items before it
abbrev pub ServedStepwise : (A C : Type 0) → Type 0
ServedStepwise A C =
    (made : List A → List C) (call : A → Option C) (items : List A) (a : A) →
    (call a ≡ None → reported_calls call (items ++ a ∷ []) ≡ reported_calls call items)
    × ((c : C) → call a ≡ Some c → IsServed made (reported_calls call items) (length (reported_calls call items)) →
    (slice_get (made items) (length (reported_calls call items)) ≡ Some c → IsServed made (reported_calls call (items ++ a ∷ [])) (length (reported_calls call items) + 1))
    × (¬ (slice_get (made items) (length (reported_calls call items)) ≡ Some c) → IsServed made (reported_calls call (items ++ a ∷ [])) (length (reported_calls call items))))
