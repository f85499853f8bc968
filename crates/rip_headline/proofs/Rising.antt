-- The parts of what sessions do are of no earlier batch than those before them, and cost no less in the same.
use Rattle.std.proofs.Common.{◌≡◌, ℕ, ◌+◌, ◌-◌, ◌≤◌, ◌<◌, Bool, true, false, List, [], ◌∷◌, None, Some, if◌then◌else◌, arith}
use Rattle.std.specs.List.{AllByRecursion}
use Rattle.rip_heap.specs.World.{World}
use Rattle.rip_wire.specs.Batches.{Contents}
use Rattle.rip_replica.specs.Play.{Played, Closes, Holds}
use Rattle.rip_history.specs.Parts.{Fact, finishes, Given, Part}
use Rattle.rip_replica.specs.Parts.{Doing, after_item, first_given, given_behind, is_fine, items_parts, later_parts, part_of, session_parts, whole_item}
use Rattle.rip_law_history.proofs.WholeMadeLemmas.{all-maps}
use Rattle.rip_headline.specs.LeftToDo.{AreRising}

-- of this batch, and of this cost at least, or of a later batch
abbrev IsFrom : ℕ → ℕ → Part → Type 0
IsFrom batch cost p = (batch ≤ p.batch) × (batch ≡ p.batch → cost ≤ p.cost)

abbrev RiseFrom : ℕ → ℕ → List Part → Type 0
RiseFrom batch cost ps = AllByRecursion (IsFrom batch cost) ps × AreRising ps

rise-behind : (batch cost more n : ℕ) (f : Fact) (ps : List Part) → cost ≤ more → RiseFrom batch more ps → RiseFrom batch cost (part_of batch n more f ∷ ps)
rise-behind batch cost more n f ps le h = (
  ((omega arith, λ e. le), all-maps (IsFrom batch more) (IsFrom batch cost) (λ p g. (g.0, λ e. omega (arith, le, g.1 e))) ps h.0),
  (h.0, h.1),
)

rise-either : (batch cost more n : ℕ) (b : Bool) (f g : Fact) (ps : List Part) → cost ≤ more → RiseFrom batch more ps
    → RiseFrom batch cost (if b then part_of batch n more f ∷ ps else part_of batch n more g ∷ [])
rise-either batch cost more n true f g ps le h = rise-behind batch cost more n f ps le h
rise-either batch cost more n false f g ps le h = rise-behind batch cost more n g [] le (tt, tt)

after-rise : {A S : Type 0} (d : Doing A S) (batch : ℕ) (all : List A) (n cost : ℕ) (a : A) (p : Played S) (go : ℕ → World → S → List Part)
    → ((c : ℕ) (w : World) (s : S) → RiseFrom batch c (go c w s)) → RiseFrom batch cost (after_item d batch all n cost a p go)
after-rise d batch all n cost a (Closes close gs fuel u w s) go h =
    let c : ℕ = cost + 1 + (d.full - u) in
    rise-either batch cost c n (is_fine close) (d.fact a) (finishes (Some (d.ending all close s))) (go c w s) (omega arith) (h c w s)
after-rise d batch all n cost a (Holds depth w s) go h = (tt, tt)

-- those of later batches
abbrev RiseBehind : ℕ → List Part → Type 0
RiseBehind batch ps = AllByRecursion (λ (p : Part). batch < p.batch) ps × AreRising ps

items-rise : {A S : Type 0} (d : Doing A S) (batch : ℕ) (all : List A) (n cost : ℕ) (items : List A) (gs : List Given) (w : World) (s : S)
    (next : List Given → World → S → List Part) → ((hs : List Given) (x : World) (r : S) → RiseBehind batch (next hs x r))
    → RiseFrom batch cost (items_parts d batch all n cost items gs w s next)
items-rise d batch all n cost [] gs w s next h =
    let rest = h gs w s in
    rise-behind batch cost cost n (finishes None) (next gs w s) (omega arith) (
      all-maps (λ (p : Part). batch < p.batch) (IsFrom batch cost) (λ p lt. (omega (arith, lt), λ e. absurd (omega (arith, lt, e)))) (next gs w s) rest.0,
      rest.1,
    )
items-rise d batch all n cost (a ∷ items) gs w s next h =
    after-rise d batch all n cost a (whole_item d batch a n w s (first_given gs))
    (λ c x r. items_parts d batch all (n + 1) c items (given_behind (d.fact a) gs) x r next)
    (λ c x r. items-rise d batch all (n + 1) c items (given_behind (d.fact a) gs) x r next h)

later-rise : {A S : Type 0} (d : Doing A S) (batch : ℕ) (bs : List Contents) (gs : List Given) (w : World) (s : S) → RiseBehind batch (later_parts d (batch + 1) bs gs w s)
later-rise d batch [] gs w s = (tt, tt)
later-rise d batch (b ∷ bs) gs w s =
    let next : List Given → World → _ → List Part = λ hs x r. later_parts d (batch + 1 + 1) bs hs x r in
    let own = items-rise d (batch + 1) (d.items b) 1 1 (d.items b) gs w s next (λ hs x r. later-rise d (batch + 1) bs hs x r) in (
      all-maps (IsFrom (batch + 1) 1) (λ (p : Part). batch < p.batch) (λ p h. omega (arith, h.0))
          (items_parts d (batch + 1) (d.items b) 1 1 (d.items b) gs w s next) own.0,
      own.1,
    )

pub session_rises : {A S : Type 0} (d : Doing A S) (bs : List Contents) (gs : List Given) → AreRising (session_parts d bs gs)
session_rises d bs gs =
    let own = items-rise d 0 (d.opening ∷ []) 1 1 (d.opening ∷ []) gs d.world d.page (λ hs x r. later_parts d 1 bs hs x r)
    (λ hs x r. later-rise d 0 bs hs x r) in
    own.1
