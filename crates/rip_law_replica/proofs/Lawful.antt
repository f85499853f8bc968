-- What sessions do is made in the order of their batches and of what they are given.
use Rattle.std.proofs.Common.{◌≡◌, ℕ, ◌+◌, ◌-◌, ◌≤◌, Bool, true, false, List, [], ◌∷◌, ◌++◌, length, None, Some, if◌then◌else◌, refl, ap, sym, subst, arith, append-nil}
use Rattle.std.specs.List.{AllByRecursion}
use Rattle.rip_heap.specs.World.{World}
use Rattle.rip_wire.specs.Batches.{Contents}
use Rattle.rip_eval_rows.specs.Plan.{Plan}
use Rattle.rip_replica.specs.Play.{Played, Closes, Holds}
use Rattle.rip_history.specs.Parts.{Fact, passes, serves, finishes, Given, IsLawful, Part, ends_batch}
use Rattle.rip_replica.specs.Parts.{Doing, after_item, first_given, given_behind, is_fine, items_parts, later_parts, meaning_of, part_of, session_parts, whole_item}
use Rattle.rip_replica.specs.Plays.{IsItemPlan}
use Rattle.rip_law_replica.specs.Sound.{HaveShapes}
use Rattle.rip_law_replica.proofs.InTurn.{session_reads}

-- EACH PART

-- what holds of each part of the batch that costs a unit at least, and of those behind it, holds of all

either_all : (P : Part → Type 0) (b : Bool) (p q : Part) (ps : List Part) → P p → P q → AllByRecursion P ps → AllByRecursion P (if b then p ∷ ps else q ∷ [])
either_all P true p q ps h g rest = (h, rest)
either_all P false p q ps h g rest = (g, tt)

after_all : {A S : Type 0} (P : Part → Type 0) (d : Doing A S) (batch : ℕ) (all : List A) (n cost : ℕ) (a : A) (p : Played S) (go : ℕ → World → S → List Part)
    → ((k c : ℕ) (f : Fact) → 1 ≤ c → P (part_of batch k c f)) → ((c : ℕ) (w : World) (s : S) → 1 ≤ c → AllByRecursion P (go c w s)) → AllByRecursion P (after_item d batch all n cost a p go)
after_all P d batch all n cost a (Closes close gs fuel u w s) go each rest =
    let c : ℕ = cost + 1 + (d.full - u) in
    let some : 1 ≤ c = omega arith in
    either_all P (is_fine close) (part_of batch n c (d.fact a)) (part_of batch n c (finishes (Some (d.ending all close s)))) (go c w s)
    (each n c (d.fact a) some) (each n c (finishes (Some (d.ending all close s))) some) (rest c w s some)
after_all P d batch all n cost a (Holds depth w s) go each rest = tt

items_all : {A S : Type 0} (P : Part → Type 0) (d : Doing A S) (batch : ℕ) (all : List A) (n cost : ℕ) (items : List A) (gs : List Given) (w : World) (s : S) (next : List Given → World → S → List Part)
    → 1 ≤ cost → ((k c : ℕ) (f : Fact) → 1 ≤ c → P (part_of batch k c f)) → ((hs : List Given) (x : World) (r : S) → AllByRecursion P (next hs x r))
    → AllByRecursion P (items_parts d batch all n cost items gs w s next)
items_all P d batch all n cost [] gs w s next some each rest = (each n cost (finishes None) some, rest gs w s)
items_all P d batch all n cost (a ∷ items) gs w s next some each rest =
    after_all P d batch all n cost a (whole_item d batch a n w s (first_given gs)) (λ c x r. items_parts d batch all (n + 1) c items (given_behind (d.fact a) gs) x r next) each
    (λ c x r more. items_all P d batch all (n + 1) c items (given_behind (d.fact a) gs) x r next more each rest)

-- each part costs a unit at least

abbrev Costs : Part → Type 0
Costs p = 1 ≤ p.cost

later_cost : {A S : Type 0} (d : Doing A S) (batch : ℕ) (bs : List Contents) (gs : List Given) (w : World) (s : S) → AllByRecursion Costs (later_parts d batch bs gs w s)
later_cost d batch [] gs w s = tt
later_cost d batch (b ∷ bs) gs w s =
    items_all Costs d batch (d.items b) 1 1 (d.items b) gs w s (λ hs x r. later_parts d (batch + 1) bs hs x r) (omega arith) (λ k c f some. some) (λ hs x r. later_cost d (batch + 1) bs hs x r)

session_costs : {A S : Type 0} (d : Doing A S) (bs : List Contents) (gs : List Given) → AllByRecursion Costs (session_parts d bs gs)
session_costs d bs gs =
    items_all Costs d 0 (d.opening ∷ []) 1 1 (d.opening ∷ []) gs d.world d.page (λ hs x r. later_parts d 1 bs hs x r) (omega arith) (λ k c f some. some) (λ hs x r. later_cost d 1 bs hs x r)

-- A BATCH MORE

-- the others are these, and some of a batch of this number
abbrev Adds : ℕ → List Part → List Part → Type 0
Adds last ps qs = (more : List Part) × (qs ≡ ps ++ more) × AllByRecursion (λ (p : Part). p.batch ≡ last) more

adds_none : (last : ℕ) (ps : List Part) → Adds last ps ps
adds_none last ps = ([], sym (append-nil ps), tt)

adds_behind : (last : ℕ) (p : Part) (ps qs : List Part) → Adds last ps qs → Adds last (p ∷ ps) (p ∷ qs)
adds_behind last p ps qs h = (h.0, ap (λ xs. p ∷ xs) h.1, h.2)

either_adds : (last : ℕ) (b : Bool) (p q : Part) (ps qs : List Part) → Adds last ps qs → Adds last (if b then p ∷ ps else q ∷ []) (if b then p ∷ qs else q ∷ [])
either_adds last true p q ps qs h = adds_behind last p ps qs h
either_adds last false p q ps qs h = adds_none last (q ∷ [])

after_adds : {A S : Type 0} (last : ℕ) (d : Doing A S) (batch : ℕ) (all : List A) (n cost : ℕ) (a : A) (p : Played S) (go on : ℕ → World → S → List Part)
    → ((c : ℕ) (w : World) (s : S) → Adds last (go c w s) (on c w s)) → Adds last (after_item d batch all n cost a p go) (after_item d batch all n cost a p on)
after_adds last d batch all n cost a (Closes close gs fuel u w s) go on h =
    let c : ℕ = cost + 1 + (d.full - u) in
    either_adds last (is_fine close) (part_of batch n c (d.fact a)) (part_of batch n c (finishes (Some (d.ending all close s)))) (go c w s) (on c w s) (h c w s)
after_adds last d batch all n cost a (Holds depth w s) go on h = adds_none last []

items_add : {A S : Type 0} (last : ℕ) (d : Doing A S) (batch : ℕ) (all : List A) (n cost : ℕ) (items : List A) (gs : List Given) (w : World) (s : S) (next later : List Given → World → S → List Part)
    → ((hs : List Given) (x : World) (r : S) → Adds last (next hs x r) (later hs x r)) → Adds last (items_parts d batch all n cost items gs w s next) (items_parts d batch all n cost items gs w s later)
items_add last d batch all n cost [] gs w s next later h = adds_behind last (part_of batch n cost (finishes None)) (next gs w s) (later gs w s) (h gs w s)
items_add last d batch all n cost (a ∷ items) gs w s next later h =
    after_adds last d batch all n cost a (whole_item d batch a n w s (first_given gs))
    (λ c x r. items_parts d batch all (n + 1) c items (given_behind (d.fact a) gs) x r next) (λ c x r. items_parts d batch all (n + 1) c items (given_behind (d.fact a) gs) x r later)
    (λ c x r. items_add last d batch all (n + 1) c items (given_behind (d.fact a) gs) x r next later h)

later_add : {A S : Type 0} (last : ℕ) (d : Doing A S) (batch : ℕ) (bs : List Contents) (b : Contents) (gs : List Given) (w : World) (s : S) → batch + length bs ≡ last
    → Adds last (later_parts d batch bs gs w s) (later_parts d batch (bs ++ b ∷ []) gs w s)
later_add last d batch [] b gs w s is =
    let number : batch ≡ last = omega (arith, is) in (
      later_parts d batch (b ∷ []) gs w s,
      refl,
      items_all (λ (p : Part). p.batch ≡ last) d batch (d.items b) 1 1 (d.items b) gs w s (λ hs x r. later_parts d (batch + 1) [] hs x r) (omega arith) (λ k c f some. number) (λ hs x r. tt),
    )
later_add last d batch (c ∷ bs) b gs w s is =
    items_add last d batch (d.items c) 1 1 (d.items c) gs w s (λ hs x r. later_parts d (batch + 1) bs hs x r) (λ hs x r. later_parts d (batch + 1) (bs ++ b ∷ []) hs x r)
    (λ hs x r. later_add last d (batch + 1) bs b hs x r (omega (arith, is)))

session_adds : {A S : Type 0} (d : Doing A S) (bs : List Contents) (b : Contents) (gs : List Given) → Adds (length bs + 1) (session_parts d bs gs) (session_parts d (bs ++ b ∷ []) gs)
session_adds d bs b gs =
    items_add (length bs + 1) d 0 (d.opening ∷ []) 1 1 (d.opening ∷ []) gs d.world d.page (λ hs x r. later_parts d 1 bs hs x r) (λ hs x r. later_parts d 1 (bs ++ b ∷ []) hs x r)
    (λ hs x r. later_add (length bs + 1) d 1 bs b hs x r (omega arith))

-- THE LAST PART

-- nothing is behind a part in which the batch of this number is done
abbrev EndsLast : ℕ → List Part → Type 0
EndsLast last [] = Unit {0}
EndsLast last (p ∷ ps) = (p.batch ≡ last → ends_batch p.fact ≡ true → ps ≡ []) × EndsLast last ps

none_behind : (last : ℕ) (ps : List Part) (p : Part) (qs : List Part) → EndsLast last (ps ++ p ∷ qs) → p.batch ≡ last → ends_batch p.fact ≡ true → qs ≡ []
none_behind last [] p qs h is ends = h.0 is ends
none_behind last (x ∷ ps) p qs h is ends = none_behind last ps p qs h.1 is ends

goes_on : {S : Type 0} (may : S → Bool) (fact : Fact) (plan : Plan S) → IsItemPlan may fact plan → ends_batch fact ≡ true → ⊥
goes_on may passes plan shape ends = (let e : true ≡ false = sym ends in cc)
goes_on may (serves number name args) plan shape ends = (let e : true ≡ false = sym ends in cc)
goes_on may (finishes how) plan shape ends = shape

either_last : (last : ℕ) (b : Bool) (p q : Part) (ps : List Part) → (ends_batch p.fact ≡ true → ⊥) → EndsLast last ps → EndsLast last (if b then p ∷ ps else q ∷ [])
either_last last true p q ps on h = (λ is ends. absurd (on ends), h)
either_last last false p q ps on h = (λ is ends. refl, tt)

after_last : {A S : Type 0} (last : ℕ) (d : Doing A S) (batch : ℕ) (all : List A) (n cost : ℕ) (a : A) (p : Played S) (go : ℕ → World → S → List Part)
    → (ends_batch (d.fact a) ≡ true → ⊥) → ((c : ℕ) (w : World) (s : S) → EndsLast last (go c w s)) → EndsLast last (after_item d batch all n cost a p go)
after_last last d batch all n cost a (Closes close gs fuel u w s) go on h =
    let c : ℕ = cost + 1 + (d.full - u) in
    either_last last (is_fine close) (part_of batch n c (d.fact a)) (part_of batch n c (finishes (Some (d.ending all close s)))) (go c w s) on (h c w s)
after_last last d batch all n cost a (Holds depth w s) go on h = tt

items_last : {A S : Type 0} (last : ℕ) (d : Doing A S) (may : S → Bool) (batch : ℕ) → ((a : A) (n : ℕ) (w : World) (s : S) → IsItemPlan may (d.fact a) (d.plan batch a n w s))
    → (all : List A) (n cost : ℕ) (items : List A) (gs : List Given) (w : World) (s : S) (next : List Given → World → S → List Part)
    → (batch ≡ last → (hs : List Given) (x : World) (r : S) → next hs x r ≡ []) → ((hs : List Given) (x : World) (r : S) → EndsLast last (next hs x r))
    → EndsLast last (items_parts d batch all n cost items gs w s next)
items_last last d may batch shapes all n cost [] gs w s next none h = (λ is ends. none is gs w s, h gs w s)
items_last last d may batch shapes all n cost (a ∷ items) gs w s next none h =
    after_last last d batch all n cost a (whole_item d batch a n w s (first_given gs)) (λ c x r. items_parts d batch all (n + 1) c items (given_behind (d.fact a) gs) x r next)
    (goes_on may (d.fact a) (d.plan batch a n w s) (shapes a n w s))
    (λ c x r. items_last last d may batch shapes all (n + 1) c items (given_behind (d.fact a) gs) x r next none h)

no_batches : {A S : Type 0} (d : Doing A S) (batch : ℕ) (bs : List Contents) (gs : List Given) (w : World) (s : S) → length bs ≡ 0 → later_parts d batch bs gs w s ≡ []
no_batches d batch [] gs w s none = refl
no_batches d batch (b ∷ bs) gs w s none = absurd (omega (arith, none))

later_last : {A S : Type 0} (last : ℕ) (d : Doing A S) (may : S → Bool) → ((batch : ℕ) (a : A) (n : ℕ) (w : World) (s : S) → IsItemPlan may (d.fact a) (d.plan batch a n w s))
    → (batch : ℕ) (bs : List Contents) (gs : List Given) (w : World) (s : S) → batch + length bs ≡ last + 1 → EndsLast last (later_parts d batch bs gs w s)
later_last last d may shapes batch [] gs w s is = tt
later_last last d may shapes batch (b ∷ bs) gs w s is =
    items_last last d may batch (shapes batch) (d.items b) 1 1 (d.items b) gs w s (λ hs x r. later_parts d (batch + 1) bs hs x r)
    (λ same hs x r. no_batches d (batch + 1) bs hs x r (omega (arith, is, same)))
    (λ hs x r. later_last last d may shapes (batch + 1) bs hs x r (omega (arith, is)))

session_last : {A S : Type 0} (d : Doing A S) (may : S → Bool) → ((batch : ℕ) (a : A) (n : ℕ) (w : World) (s : S) → IsItemPlan may (d.fact a) (d.plan batch a n w s))
    → (bs : List Contents) (gs : List Given) → EndsLast (length bs) (session_parts d bs gs)
session_last d may shapes bs gs =
    items_last (length bs) d may 0 (shapes 0) (d.opening ∷ []) 1 1 (d.opening ∷ []) gs d.world d.page (λ hs x r. later_parts d 1 bs hs x r)
    (λ same hs x r. no_batches d 1 bs hs x r (sym same))
    (λ hs x r. later_last (length bs) d may shapes 1 bs hs x r (omega arith))

-- THE LAWS

pub lawful : {A S : Type 0} (doing : ℕ → ℕ → Doing A S) (may : S → Bool) → HaveShapes doing may → IsLawful (meaning_of doing)
lawful doing may shapes = record {
  reads = λ seed time batches given more n few. session_reads (doing seed time) may (shapes seed time) batches given more n few;
  adds = λ seed time batches b given. session_adds (doing seed time) batches b given;
  last = λ seed time batches given ps p qs is own ends.
      (let E : List Part → Type 0 = λ xs. EndsLast (length batches) xs in
      none_behind (length batches) ps p qs (subst E is (session_last (doing seed time) may (shapes seed time) batches given)) own ends);
  costs = λ seed time batches given. session_costs (doing seed time) batches given;
}
