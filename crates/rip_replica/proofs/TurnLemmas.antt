-- The turns of a session, by the place where it stands.
use Rattle.std.proofs.Common.{◌≡◌, ℕ, zero, suc, ◌+◌, ◌-◌, ◌<◌, ◌≤◌, Bool, true, false, List, [], ◌∷◌, drop, length, slice_get, Some, if◌then◌else◌, refl, ap, sym, subst, ◌∙◌, arith}
use Rattle.rip_heap.specs.World.{World}
use Rattle.rip_eval_rows.specs.declared.close.Close.{Close}
use Rattle.rip_eval_rows.specs.declared.close.Close.TheVariants.{Fine}
use Rattle.rip_eval_rows.specs.Evaluation.{Evaluation}
use Rattle.rip_replica.specs.Laws.{IsClosed}
use Rattle.rip_replica.specs.Play.{Played, Closes, Holds}
use Rattle.rip_history.specs.Parts.{finishes, Part, Given}
use Rattle.rip_replica.specs.declared.replica.Place.{Place}
use Rattle.rip_replica.specs.declared.replica.Place.TheVariants.{First, Between, Idle}
use Rattle.rip_replica.specs.declared.replica.Turn.TheVariants.{On, Busy, Done}
use Rattle.rip_replica.specs.Parts.{Doing, after_item, first_given, is_fine, items_parts, part_of, stand_at, whole_item}
use Rattle.rip_replica.specs.Standing.{Ahead, Behind, CostsMore, IsCut, Left, Spot, Stands, StartsItem, Turns}

-- LISTS

pub drop_more : {A : Type 0} (xs : List A) (k : ℕ) → k < length xs → (a : A) × (slice_get xs k ≡ Some a) × (drop k xs ≡ a ∷ drop (k + 1) xs)
drop_more [] k less = absurd (omega arith)
drop_more (x ∷ xs) zero less = (x, refl, refl)
drop_more (x ∷ xs) (suc k) less =
    let r : (a : _) × (slice_get xs k ≡ Some a) × (drop k xs ≡ a ∷ drop (k + 1) xs) = drop_more xs k (omega arith) in
    let e : suc (k + 1) ≡ suc k + 1 = omega arith in
    (r.0, r.1, r.2 ∙ ap (λ j. r.0 ∷ drop j (x ∷ xs)) e)

drop_all : {A : Type 0} (xs : List A) (k : ℕ) → length xs ≤ k → drop k xs ≡ []
drop_all [] zero le = refl
drop_all [] (suc k) le = refl
drop_all (x ∷ xs) zero le = absurd (omega arith)
drop_all (x ∷ xs) (suc k) le = drop_all xs k (omega arith)

-- WHAT ITEMS COST

either_costs : (b : Bool) (from : ℕ) (p q : Part) (ps qs : List Part) → from < p.cost → from < q.cost → CostsMore from (if b then p ∷ ps else q ∷ qs)
either_costs true from p q ps qs h g = h
either_costs false from p q ps qs h g = g

either_starts : (b : Bool) (batch n base : ℕ) (p q : Part) (ps qs : List Part) → StartsItem batch n base (p ∷ ps) → StartsItem batch n base (q ∷ qs) → StartsItem batch n base (if b then p ∷ ps else q ∷ qs)
either_starts true batch n base p q ps qs h g = h
either_starts false batch n base p q ps qs h g = g

after_costs : {A S : Type 0} (d : Doing A S) (batch : ℕ) (all : List A) (n cost : ℕ) (a : A) (p : Played S) (go : ℕ → World → S → List Part) (from : ℕ) → from ≤ cost
    → CostsMore from (after_item d batch all n cost a p go)
after_costs d batch all n cost a (Closes close gs fuel u w s) go from le =
    either_costs (is_fine close) from (part_of batch n (cost + 1 + (d.full - u)) (d.fact a)) (part_of batch n (cost + 1 + (d.full - u)) (finishes (Some (d.ending all close s)))) _ _ (omega (arith, le)) (omega (arith, le))
after_costs d batch all n cost a (Holds depth w s) go from le = tt

pub after_starts : {A S : Type 0} (d : Doing A S) (batch : ℕ) (all : List A) (n cost : ℕ) (a : A) (p : Played S) (go : ℕ → World → S → List Part) → IsClosed p
    → StartsItem batch n cost (after_item d batch all n cost a p go)
after_starts d batch all n cost a (Closes close gs fuel u w s) go closed =
    either_starts (is_fine close) batch n cost (part_of batch n (cost + 1 + (d.full - u)) (d.fact a)) (part_of batch n (cost + 1 + (d.full - u)) (finishes (Some (d.ending all close s)))) _ _
    (refl, refl, omega arith) (refl, refl, omega arith)
after_starts d batch all n cost a (Holds depth w s) go closed = absurd closed

-- one that costs more than m units
pub cut_costs : {A S : Type 0} (d : Doing A S) (batch : ℕ) (all : List A) (n cost : ℕ) (a : A) (p : Played S) (go : ℕ → World → S → List Part) (m : ℕ)
    → ((close : Close) (gs : List (S → S)) (fuel v : ℕ) (w : World) (s : S) → p ≡ Closes close gs fuel v w s → m < d.full - v) → CostsMore (cost + 1 + m) (after_item d batch all n cost a p go)
cut_costs d batch all n cost a (Closes close gs fuel u w s) go m h =
    let less : m < d.full - u = h close gs fuel u w s refl in
    either_costs (is_fine close) (cost + 1 + m) (part_of batch n (cost + 1 + (d.full - u)) (d.fact a)) (part_of batch n (cost + 1 + (d.full - u)) (finishes (Some (d.ending all close s)))) _ _ (omega (arith, less)) (omega (arith, less))
cut_costs d batch all n cost a (Holds depth w s) go m h = tt

pub items_cost : {A S : Type 0} (d : Doing A S) (batch : ℕ) (all : List A) (n cost : ℕ) (items : List A) (gs : List Given) (w : World) (s : S) (next : List Given → World → S → List Part) (from : ℕ)
    → from < cost → CostsMore from (items_parts d batch all n cost items gs w s next)
items_cost d batch all n cost [] gs w s next from less = less
items_cost d batch all n cost (a ∷ items) gs w s next from less = after_costs d batch all n cost a (whole_item d batch a n w s (first_given gs)) _ from (omega (arith, less))

more_cost : {A S : Type 0} (d : Doing A S) (batch : ℕ) (all : List A) (n cost : ℕ) (a : A) (items : List A) (gs : List Given) (w : World) (s : S) (next : List Given → World → S → List Part)
    → CostsMore cost (items_parts d batch all n cost (a ∷ items) gs w s next)
more_cost d batch all n cost a items gs w s next = after_costs d batch all n cost a (whole_item d batch a n w s (first_given gs)) _ cost (omega arith)

-- an item that closes so
pub after_fine : {A S : Type 0} (d : Doing A S) (batch : ℕ) (all : List A) (n cost : ℕ) (a : A) (p : Played S) (go : ℕ → World → S → List Part) (gs : List (S → S)) (fuel v c : ℕ) (w : World) (s : S)
    → p ≡ Closes Fine gs fuel v w s → cost + 1 + (d.full - v) ≡ c → after_item d batch all n cost a p go ≡ part_of batch n c (d.fact a) ∷ go c w s
after_fine d batch all n cost a p go gs fuel v c w s is counted =
    ap (λ q. after_item d batch all n cost a q go) is ∙ ap (λ k. part_of batch n k (d.fact a) ∷ go k w s) counted

pub after_ended : {A S : Type 0} (d : Doing A S) (batch : ℕ) (all : List A) (n cost : ℕ) (a : A) (p : Played S) (go : ℕ → World → S → List Part) (close : Close) (gs : List (S → S)) (fuel v c : ℕ) (w : World) (s : S)
    → p ≡ Closes close gs fuel v w s → is_fine close ≡ false → cost + 1 + (d.full - v) ≡ c
    → after_item d batch all n cost a p go ≡ part_of batch n c (finishes (Some (d.ending all close s))) ∷ []
after_ended d batch all n cost a p go close gs fuel v c w s is ends counted =
    ap (λ q. after_item d batch all n cost a q go) is
    ∙ ap (λ b. if b then part_of batch n (cost + 1 + (d.full - v)) (d.fact a) ∷ go (cost + 1 + (d.full - v)) w s
    else part_of batch n (cost + 1 + (d.full - v)) (finishes (Some (d.ending all close s))) ∷ []) ends
    ∙ ap (λ k. part_of batch n k (finishes (Some (d.ending all close s))) ∷ []) counted

-- PLACES

-- a session that stands at another place, or whose runner is another
abbrev pub placed : {M A S : Type 0} → Spot M A S → Place → Spot M A S
placed at place = record at { place = place }

pub stands_from : (from m : ℕ) (ps : List Part) → m ≡ from → CostsMore from ps → CostsMore m ps
stands_from from m ps e h = (let C : ℕ → Type 0 = λ k. CostsMore k ps in subst C (sym e) h)

-- before the first unit
pub first_busy : {M A S : Type 0} (e : Evaluation M S) (d : Doing A S) (may : S → Bool) (batch : ℕ) (next : Behind S) (at : Spot M A S) (n from base spent : ℕ) (ahead : Ahead S)
    → at.place ≡ First → n ≡ 0 → Stands e d may batch next at from base spent ahead → Turns e d may batch next at from base spent n ahead Busy
first_busy e d may batch next at n from base spent ahead is none stands =
    let L : Place → Type 0 = λ p. Left e d batch next at p base spent ahead in
    let left : Left e d batch next at First base spent ahead = subst L is stands.left in
    let same : spent ≡ spent + n = omega (arith, none) in
    let zero_spent : spent ≡ 0 = left.0 in
    let K : ℕ → Type 0 = λ k. Left e d batch next at at.place base k ahead in
    let U : Place → Type 0 = λ p. IsCut e d batch next at p base (spent + n) ahead in (
      record {
        keeps = stands.keeps;
        left = subst K same stands.left;
        more = λ bs gs. (let C : List Part → Type 0 = λ ps. CostsMore (spent + n) ps in
            subst C (sym (left.3 bs gs)) (items_cost d batch at.all 1 1 at.all gs at.world at.page (next bs) (spent + n) (omega (arith, none, zero_spent))));
        follows = stands.follows;
      },
      subst U (sym is) tt,
    )

pub first_on : {M A S : Type 0} (e : Evaluation M S) (d : Doing A S) (may : S → Bool) (batch : ℕ) (next : Behind S) (at : Spot M A S) (n from base spent : ℕ) (ahead : Ahead S)
    → at.place ≡ First → 1 ≤ n → Stands e d may batch next at from base spent ahead → Turns e d may batch next (placed at Between) from base spent n ahead (On (n - 1))
first_on e d may batch next at n from base spent ahead is some stands =
    let L : Place → Type 0 = λ p. Left e d batch next at p base spent ahead in
    let left : Left e d batch next at First base spent ahead = subst L is stands.left in
    let one : 1 ≡ base = sym left.1 in
    let none : 0 ≡ at.begun = sym left.2 in
    let count : base + (n - 1) ≡ spent + n = omega (arith, left.0, left.1, some) in
    let few : at.begun ≤ length at.all = omega (arith, left.2) in
    record {
      passed = [];
      later = ahead;
      new_base = base;
      units = base;
      comes = λ bs gs. refl;
      same = λ gs k. refl;
      each = tt;
      quiet = tt;
      based = refl;
      count = count;
      stands = record {
        keeps = record { run = stands.keeps.run; full = stands.keeps.full; plan = stands.keeps.plan; counts = stands.keeps.counts; shapes = stands.keeps.shapes; still = stands.keeps.still };
        left = (
          refl,
          omega (arith, left.1),
          few,
          λ bs gs. left.3 bs gs ∙ ap (λ b. items_parts d batch at.all 1 b at.all gs at.world at.page (next bs)) one
              ∙ ap (λ k. items_parts d batch at.all (k + 1) base (drop k at.all) gs at.world at.page (next bs)) none,
          λ gs. (let B : ℕ → Type 0 = λ k. ahead.behind gs k ≡ Some (stand_at base gs at.world at.page) in subst B none (left.4 gs)),
        );
        more = stands.more;
        follows = stands.follows;
      };
    }

-- between two items
pub between_done : {M A S : Type 0} (e : Evaluation M S) (d : Doing A S) (may : S → Bool) (batch : ℕ) (next : Behind S) (at : Spot M A S) (n from base spent : ℕ) (ahead : Ahead S)
    → at.place ≡ Between → length at.all ≤ at.begun → Stands e d may batch next at from base spent ahead → Turns e d may batch next (placed at Idle) from base spent n ahead Done
between_done e d may batch next at n from base spent ahead is all stands =
    let L : Place → Type 0 = λ p. Left e d batch next at p base spent ahead in
    let left : Left e d batch next at Between base spent ahead = subst L is stands.left in (
      at.begun + 1,
      omega (arith, left.0),
      record { run = stands.keeps.run; full = stands.keeps.full; plan = stands.keeps.plan; counts = stands.keeps.counts; shapes = stands.keeps.shapes; still = stands.keeps.still },
      λ bs gs. left.3 bs gs ∙ ap (λ xs. items_parts d batch at.all (at.begun + 1) base xs gs at.world at.page (next bs)) (drop_all at.all at.begun all),
      λ gs.
          (let B : ℕ → Type 0 = λ k. ahead.behind gs k ≡ Some (stand_at base gs at.world at.page) in
          let same : at.begun ≡ length at.all = omega (arith, all, left.2) in
          subst B same (left.4 gs)),
    )

pub between_busy : {M A S : Type 0} (e : Evaluation M S) (d : Doing A S) (may : S → Bool) (batch : ℕ) (next : Behind S) (at : Spot M A S) (n from base spent : ℕ) (ahead : Ahead S)
    → at.place ≡ Between → at.begun < length at.all → n ≡ 0 → Stands e d may batch next at from base spent ahead → Turns e d may batch next at from base spent n ahead Busy
between_busy e d may batch next at n from base spent ahead is less none stands =
    let L : Place → Type 0 = λ p. Left e d batch next at p base spent ahead in
    let left : Left e d batch next at Between base spent ahead = subst L is stands.left in
    let same : spent ≡ spent + n = omega (arith, none) in
    let based : spent + n ≡ base = omega (arith, none, left.0) in
    let item : (a : _) × (slice_get at.all at.begun ≡ Some a) × (drop at.begun at.all ≡ a ∷ drop (at.begun + 1) at.all) = drop_more at.all at.begun less in
    let K : ℕ → Type 0 = λ k. Left e d batch next at at.place base k ahead in
    let U : Place → Type 0 = λ p. IsCut e d batch next at p base (spent + n) ahead in (
      record {
        keeps = stands.keeps;
        left = subst K same stands.left;
        more = λ bs gs. stands_from base (spent + n) (ahead.parts bs gs) based
            (let C : List Part → Type 0 = λ ps. CostsMore base ps in
            subst C (sym (left.3 bs gs ∙ ap (λ xs. items_parts d batch at.all (at.begun + 1) base xs gs at.world at.page (next bs)) item.2))
            (more_cost d batch at.all (at.begun + 1) base item.0 (drop (at.begun + 1) at.all) gs at.world at.page (next bs)));
        follows = stands.follows;
      },
      subst U (sym is) tt,
    )
