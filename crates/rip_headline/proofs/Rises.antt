-- The parts of a session rise.
use Rattle.std.proofs.Common.{Some, None, ◌≡◌, ◌⊎◌, inl, inr, ℕ, ◌+◌, ◌-◌, ◌<◌, ◌≤◌, Bool, true, false, cond, List, [], ◌∷◌, refl, arith}
use Rattle.std.proofs.lemmas.Bool.{false≢true}
use Rattle.rip_heap.specs.World.{World}
use Rattle.rip_wire.specs.Batches.{Contents}
use Rattle.rip_replica.specs.Play.{Played, Closes, Holds}
use Rattle.rip_history.specs.Parts.{Fact, finishes, Given, Part}
use Rattle.rip_replica.specs.Parts.{Doing, after_item, first_given, given_behind, is_fine, items_parts, later_parts, meaning_of, part_of, whole_item}
use Rattle.rip_law_server.specs.Rising.{Follows, PartsRise, Rise}
use Rattle.rip_session.specs.Application.{doing_of}
use Rattle.rip_headline.specs.Prefixed.{ApplicationsRise}

-- an item of this number comes behind that, where so much was spent
abbrev Before : ℕ → ℕ → ℕ → ℕ → ℕ → ℕ → Type 0
Before b k c batch n cost = ((b < batch) × (1 ≤ cost)) ⊎ ((batch ≡ b) × (k < n) × (c ≤ cost))

follows : (b k c batch n cost more : ℕ) (f : Fact) → Before b k c batch n cost → Follows b k c (part_of batch n (cost + 1 + more) f)
follows b k c batch n cost more f (inl (low, one)) = inl (low, omega (arith, one), λ e. omega (arith, one))
follows b k c batch n cost more f (inr (same, item, le)) = inr (same, item, omega (arith, le), λ e. omega (arith, le))

closes : (b k c batch n cost : ℕ) → Before b k c batch n cost → Follows b k c (part_of batch n cost (finishes None))
closes b k c batch n cost (inl (low, one)) = inl (low, one, λ e. absurd (false≢true e))
closes b k c batch n cost (inr (same, item, le)) = inr (same, item, le, λ e. absurd (false≢true e))

after-rises : {A S : Type 0} (d : Doing A S) (batch : ℕ) (all : List A) (n cost : ℕ) (a : A) (p : Played S) (go : ℕ → World → S → List Part) (b k c : ℕ)
    → Before b k c batch n cost → ((more : ℕ) (x : World) (r : S) → Rise batch n (cost + 1 + more) (go (cost + 1 + more) x r))
    → Rise b k c (after_item d batch all n cost a p go)
after-rises d batch all n cost a (Closes close gs fuel u w s) go b k c before rest = by (is_fine close)
  where
    by : (t : Bool) → Rise b k c (cond t (part_of batch n (cost + 1 + (d.full - u)) (d.fact a) ∷ go (cost + 1 + (d.full - u)) w s)
        (part_of batch n (cost + 1 + (d.full - u)) (finishes (Some (d.ending all close s))) ∷ []))
    by true = (follows b k c batch n cost (d.full - u) (d.fact a) before, rest (d.full - u) w s)
    by false = (follows b k c batch n cost (d.full - u) (finishes (Some (d.ending all close s))) before, tt)
after-rises d batch all n cost a (Holds open_depth w s) go b k c before rest = tt

items-rise : {A S : Type 0} (d : Doing A S) (batch : ℕ) (all : List A) (n cost : ℕ) (items : List A) (gs : List Given) (w : World) (s : S)
    → (next : List Given → World → S → List Part) (b k c : ℕ) → Before b k c batch n cost
    → ((hs : List Given) (x : World) (r : S) (i spent : ℕ) → Rise batch i spent (next hs x r))
    → Rise b k c (items_parts d batch all n cost items gs w s next)
items-rise d batch all n cost [] gs w s next b k c before rest = (closes b k c batch n cost before, rest gs w s n cost)
items-rise d batch all n cost (a ∷ items) gs w s next b k c before rest =
    after-rises d batch all n cost a (whole_item d batch a n w s (first_given gs))
    (λ spent x r. items_parts d batch all (n + 1) spent items (given_behind (d.fact a) gs) x r next) b k c before
    (λ more x r. items-rise d batch all (n + 1) (cost + 1 + more) items (given_behind (d.fact a) gs) x r next batch n (cost + 1 + more)
    (inr (refl, omega arith, omega arith)) rest)

later-rise : {A S : Type 0} (d : Doing A S) (batch : ℕ) (batches : List Contents) (gs : List Given) (w : World) (s : S) (b k c : ℕ) → b < batch
    → Rise b k c (later_parts d batch batches gs w s)
later-rise d batch [] gs w s b k c lt = tt
later-rise d batch (x ∷ batches) gs w s b k c lt =
    items-rise d batch (d.items x) 1 1 (d.items x) gs w s (λ hs y r. later_parts d (batch + 1) batches hs y r) b k c (inl (lt, omega arith))
    (λ hs y r i spent. later-rise d (batch + 1) batches hs y r batch i spent (omega arith))

meanings-rise : {A S : Type 0} (doing : ℕ → ℕ → Doing A S) → PartsRise (meaning_of doing)
meanings-rise doing seed time batches given =
    let d = doing seed time in
    items-rise d 0 (d.opening ∷ []) 1 1 (d.opening ∷ []) given d.world d.page (λ hs y r. later_parts d 1 batches hs y r) 0 0 1
    (inr (refl, omega arith, omega arith)) (λ hs y r i spent. later-rise d 1 batches hs y r 0 i spent (omega arith))

pub applications_rise : ApplicationsRise
applications_rise app = meanings-rise (doing_of app)
