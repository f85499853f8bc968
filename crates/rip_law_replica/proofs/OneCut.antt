-- After so many units a batch is cut at one place.
use Rattle.std.proofs.Common.{◌≡◌, ℕ, zero, suc, ◌+◌, ◌-◌, ◌<◌, ◌≤◌, nat_le, Bool, true, false, List, [], ◌∷◌, ◌++◌, length, slice_get, Option, None, Some, refl, ap, sym, subst, ◌∙◌, arith}
use Rattle.std.proofs.lemmas.Bool.{leb-true, leb-false}
use Rattle.std.proofs.lemmas.Option.{same_Some}
use Rattle.rip_heap.specs.World.{World}
use Rattle.rip_wire.specs.Batches.{Contents}
use Rattle.rip_eval_rows.specs.declared.close.Close.TheVariants.{Fine, Refused, Mismatch, Stopped}
use Rattle.rip_replica.specs.Play.{Played, Closes, Holds, play}
use Rattle.rip_history.specs.Parts.{Given}
use Rattle.rip_replica.specs.Cuts.{CutAfter, at_first, between, within}
use Rattle.rip_replica.specs.Parts.{Doing, Stand, behind_item, behind_next, behind_played, first_given, in_batch, in_last, items_last, last_items, session_behind, stand_at, whole_item}
use Rattle.rip_replica.specs.Plays.{CountsUnits}
use Rattle.rip_replica.proofs.ItemLemmas.{cut}

pub by-order : {P : Type 0} (k m : ℕ) (a b : Bool) → nat_le m k ≡ a → nat_le k m ≡ b → (k < m → P) → (m < k → P) → (k ≡ m → P) → P
by-order k m false b x y less more same = less (leb-false m k x)
by-order k m true false x y less more same = more (leb-false k m y)
by-order k m true true x y less more same = same (omega (arith, leb-true m k x, leb-true k m y))

abbrev held-depth : {S : Type 0} → Played S → ℕ
held-depth (Closes close gs fuel u w s) = 0
held-depth (Holds depth w s) = depth

abbrev pub held-world : {S : Type 0} → Played S → World
held-world (Closes close gs fuel u w s) = w
held-world (Holds depth w s) = w

abbrev pub held-page : {S : Type 0} → Played S → S
held-page (Closes close gs fuel u w s) = s
held-page (Holds depth w s) = s

-- ITEMS ONE AFTER ANOTHER

no-next : {A S : Type 0} (d : Doing A S) (n i : ℕ) (o : Option A) → None ≡ behind_next d n i o None
no-next d n i None = refl
no-next d n i (Some a) = refl

pub in_step : {A S : Type 0} (d : Doing A S) (batch n : ℕ) (all : List A) (bs : List Contents) (k : ℕ) (o : Option (Stand S)) → n ≡ batch + length bs
    → in_last d batch all bs (suc k) o ≡ behind_next d n (suc k) (slice_get (items_last d all bs) k) (in_last d batch all bs k o)
in_step d batch n all [] k None is = no-next d n (suc k) (slice_get all k)
in_step d batch n all [] k (Some l) is =
    let same : batch ≡ n = omega (arith, is) in
    ap (λ b. behind_next d b (suc k) (slice_get all k) (in_batch d batch all k (Some l))) same
in_step d batch n all (b ∷ bs) k o is = in_step d (batch + 1) n (d.items b) bs k (in_batch d batch all (length all) o) (omega (arith, is))

one-first : {A S : Type 0} (d : Doing A S) (batch : ℕ) (all : List A) (bs : List Contents) (o : Option (Stand S)) (l : Stand S) → in_last d batch all bs 0 o ≡ Some l → l.cost ≡ 1
one-first d batch all [] None l is = cc
one-first d batch all [] (Some q) l is = sym (ap (λ (x : Stand _). x.cost) (same_Some (stand_at 1 q.given q.world q.page) l is))
one-first d batch all (b ∷ bs) o l is = one-first d (batch + 1) (d.items b) bs (in_batch d batch all (length all) o) l is

-- an item that is over, and what it costs
pub record Passed {A S : Type 0} (d : Doing A S) (n : ℕ) (all : List A) (f : ℕ → Option (Stand S)) (k cost : ℕ) : Type 0 where
  pub before : Stand S
  pub item : A
  pub changes : List (S → S)
  pub fuel : ℕ
  pub left : ℕ
  pub world : World
  pub page : S
  pub there : f k ≡ Some before
  pub is : slice_get all k ≡ Some item
  pub closes : whole_item d n item (suc k) before.world before.page (first_given before.given) ≡ Closes Fine changes fuel left world page
  pub within : before.cost + 1 + (d.full - left) ≤ cost

passed-by : {A S : Type 0} (d : Doing A S) (n : ℕ) (all : List A) (f : ℕ → Option (Stand S)) (k : ℕ) (item : A) (before behind : Stand S) (p : Played S)
    → f k ≡ Some before → slice_get all k ≡ Some item → whole_item d n item (suc k) before.world before.page (first_given before.given) ≡ p
    → behind_played d before.cost item before.given p ≡ Some behind → Passed d n all f k behind.cost
passed-by d n all f k item before behind (Closes Fine gs fuel u w s) there is closes leads = record {
  before = before;
  item = item;
  changes = gs;
  fuel = fuel;
  left = u;
  world = w;
  page = s;
  there = there;
  is = is;
  closes = closes;
  within = (let cost : before.cost + 1 + (d.full - u) ≡ behind.cost = ap (λ (x : Stand _). x.cost) (same_Some (stand_at (before.cost + 1 + (d.full - u)) _ w s) behind leads) in omega (arith, cost));
}
passed-by d n all f k item before behind (Closes (Refused i kind) gs fuel u w s) there is closes leads = cc
passed-by d n all f k item before behind (Closes (Mismatch i) gs fuel u w s) there is closes leads = cc
passed-by d n all f k item before behind (Closes (Stopped i stop) gs fuel u w s) there is closes leads = cc
passed-by d n all f k item before behind (Holds depth w s) there is closes leads = cc

passed-next : {A S : Type 0} (d : Doing A S) (n : ℕ) (all : List A) (f : ℕ → Option (Stand S)) (k : ℕ) (x : Option A) (y : Option (Stand S)) (behind : Stand S)
    → slice_get all k ≡ x → f k ≡ y → behind_next d n (suc k) x y ≡ Some behind → Passed d n all f k behind.cost
passed-next d n all f k None y behind is there leads = cc
passed-next d n all f k (Some a) None behind is there leads = cc
passed-next d n all f k (Some a) (Some l) behind is there leads =
    passed-by d n all f k a l behind (whole_item d n a (suc k) l.world l.page (first_given l.given)) there is refl leads

-- of items that are over each cost something
passed : {A S : Type 0} (d : Doing A S) (n : ℕ) (all : List A) (f : ℕ → Option (Stand S)) → ((k : ℕ) → f (suc k) ≡ behind_next d n (suc k) (slice_get all k) (f k))
    → (k j m : ℕ) (behind : Stand S) → m ≡ k + j → f (suc m) ≡ Some behind → Passed d n all f k behind.cost
passed d n all f steps k zero m behind is there =
    let same : m ≡ k = omega (arith, is) in
    passed-next d n all f k (slice_get all k) (f k) behind refl refl (sym (steps k) ∙ ap (λ i. f (suc i)) (sym same) ∙ there)
passed d n all f steps k (suc j) zero behind is there = absurd (omega (arith, is))
passed d n all f steps k (suc j) (suc m) behind is there =
    let last : Passed d n all f (suc m) behind.cost = passed-next d n all f (suc m) (slice_get all (suc m)) (f (suc m)) behind refl refl (sym (steps (suc m)) ∙ there) in
    let first : Passed d n all f k last.before.cost = passed d n all f steps k j m last.before (omega (arith, is)) last.there in
    let up : first.before.cost + 1 + (d.full - first.left) ≤ behind.cost = omega (arith, first.within, last.within) in
    record {
      before = first.before;
      item = first.item;
      changes = first.changes;
      fuel = first.fuel;
      left = first.left;
      world = first.world;
      page = first.page;
      there = first.there;
      is = first.is;
      closes = first.closes;
      within = up;
    }

pub passed_to : {A S : Type 0} (d : Doing A S) (n : ℕ) (all : List A) (f : ℕ → Option (Stand S)) → ((k : ℕ) → f (suc k) ≡ behind_next d n (suc k) (slice_get all k) (f k))
    → (k m : ℕ) (behind : Stand S) → k < m → f m ≡ Some behind → Passed d n all f k behind.cost
passed_to d n all f steps k zero behind less there = absurd (omega (arith, less))
passed_to d n all f steps k (suc m) behind less there = passed d n all f steps k (m - k) m behind (omega (arith, less)) there

-- TWO CUTS

abbrev pub AreOne : {S : Type 0} → ℕ → ℕ → World → World → S → S → Type 0
AreOne n m w x s r = (n ≡ m) × (w ≡ x) × (s ≡ r)

turned : {S : Type 0} (n m : ℕ) (w x : World) (s r : S) → AreOne n m w x s r → AreOne m n x w r s
turned n m w x s r h = (sym h.0, sym h.1, sym h.2)

same-stands : {S : Type 0} (n m a b : ℕ) (gs hs : List Given) (w x : World) (s r : S) → n ≡ 0 → m ≡ 0 → stand_at a gs w s ≡ stand_at b hs x r → AreOne n m w x s r
same-stands n m a b gs hs w x s r none other e = (none ∙ sym other, ap (λ (l : Stand _). l.world) e, ap (λ (l : Stand _). l.page) e)

module _ {A S : Type 0} (d : Doing A S) (counts : CountsUnits d.run) (n : ℕ) (all : List A) (f : ℕ → Option (Stand S)) (steps : (k : ℕ) → f (suc k) ≡ behind_next d n (suc k) (slice_get all k) (f k)) where
  not-none : (first : (l : Stand S) → f 0 ≡ Some l → l.cost ≡ 1) (units k : ℕ) (w : World) (s : S) → units ≡ 0 → f k ≡ Some (stand_at units [] w s) → ⊥
  not-none first units zero w s none there = (let one : units ≡ 1 = first (stand_at units [] w s) there in omega (arith, one, none))
  not-none first units (suc k) w s none there =
      (let p : Passed d n all f k units = passed_to d n all f steps k (suc k) (stand_at units [] w s) (omega arith) there in omega (arith, p.within, none))

  two-between : (units a b k m : ℕ) (w x : World) (s r : S) → a ≡ 0 → b ≡ 0 → f k ≡ Some (stand_at units [] w s) → f m ≡ Some (stand_at units [] x r) → AreOne a b w x s r
  two-between units a b k m w x s r none other first second =
      by-order k m (nat_le m k) (nat_le k m) refl refl
      (λ less.
      (let p : Passed d n all f k units = passed_to d n all f steps k m (stand_at units [] x r) less second in
      let cost : p.before.cost ≡ units = ap (λ (l : Stand _). l.cost) (same_Some p.before (stand_at units [] w s) (sym p.there ∙ first)) in
      absurd (omega (arith, p.within, cost))))
      (λ less.
      (let p : Passed d n all f m units = passed_to d n all f steps m k (stand_at units [] w s) less first in
      let cost : p.before.cost ≡ units = ap (λ (l : Stand _). l.cost) (same_Some p.before (stand_at units [] x r) (sym p.there ∙ second)) in
      absurd (omega (arith, p.within, cost))))
      (λ same. same-stands a b units units [] [] w x s r none other (same_Some (stand_at units [] w s) (stand_at units [] x r) (sym first ∙ ap f same ∙ second)))

  -- an item that is held is not over, at any cost that was spent
  not-passed : (k base fuel cost depth : ℕ) (item : A) (x w : World) (r s : S) → slice_get all k ≡ Some item → f k ≡ Some (stand_at base [] x r)
      → ((changes : List (S → S)) → play d.run d.full (d.plan n item (suc k) x r) changes d.full fuel ≡ Holds depth w s) → cost ≤ base + 1 + fuel → Passed d n all f k cost → ⊥
  not-passed k base fuel cost depth item x w r s is there held most p =
      let at_it : p.before ≡ stand_at base [] x r = same_Some p.before (stand_at base [] x r) (sym p.there ∙ there) in
      let it : p.item ≡ item = same_Some p.item item (sym p.is ∙ is) in
      let cost_is : p.before.cost ≡ base = ap (λ (l : Stand _). l.cost) at_it in
      let whole : whole_item d n item (suc k) x r (first_given []) ≡ Closes Fine p.changes p.fuel p.left p.world p.page =
      sym (ap (λ (l : Stand _). whole_item d n item (suc k) l.world l.page (first_given l.given)) at_it)
      ∙ ap (λ a. whole_item d n a (suc k) p.before.world p.before.page (first_given p.before.given)) (sym it) ∙ p.closes in
      let more : fuel < d.full - p.left = cut d.run d.full counts (d.plan n item (suc k) x r) (d.serve n (first_given []) ∷ []) p.changes Fine p.fuel fuel p.left depth w p.world s p.page
      (held (d.serve n (first_given []) ∷ [])) whole in
      omega (arith, more, p.within, cost_is, most)

  between-within : (units a b k m base fuel : ℕ) (item : A) (w x y : World) (s r t : S) → f k ≡ Some (stand_at units [] w s)
      → slice_get all m ≡ Some item → f m ≡ Some (stand_at base [] y t) → units ≡ base + 1 + fuel
      → ((changes : List (S → S)) → play d.run d.full (d.plan n item (suc m) y t) changes d.full fuel ≡ Holds b x r) → AreOne a b w x s r
  between-within units a b k m base fuel item w x y s r t first is second count held =
      by-order k m (nat_le m k) (nat_le k m) refl refl
      (λ less.
      (let p : Passed d n all f k base = passed_to d n all f steps k m (stand_at base [] y t) less second in
      let cost : p.before.cost ≡ units = ap (λ (l : Stand _). l.cost) (same_Some p.before (stand_at units [] w s) (sym p.there ∙ first)) in
      absurd (omega (arith, p.within, cost, count))))
      (λ less. absurd (not-passed m base fuel units b item y x t r is second held (omega (arith, count)) (passed_to d n all f steps m k (stand_at units [] w s) less first)))
      (λ same.
      (let cost : units ≡ base = ap (λ (l : Stand _). l.cost) (same_Some (stand_at units [] w s) (stand_at base [] y t) (sym first ∙ ap f same ∙ second)) in
      absurd (omega (arith, cost, count))))

  two-within : (units a b k m base rest fuel more : ℕ) (item other : A) (w x y z : World) (s r t q : S)
      → slice_get all k ≡ Some item → f k ≡ Some (stand_at base [] y t) → units ≡ base + 1 + fuel
      → ((changes : List (S → S)) → play d.run d.full (d.plan n item (suc k) y t) changes d.full fuel ≡ Holds a w s)
      → slice_get all m ≡ Some other → f m ≡ Some (stand_at rest [] z q) → units ≡ rest + 1 + more
      → ((changes : List (S → S)) → play d.run d.full (d.plan n other (suc m) z q) changes d.full more ≡ Holds b x r) → AreOne a b w x s r
  two-within units a b k m base rest fuel more item other w x y z s r t q is first count held is' second count' held' =
      by-order k m (nat_le m k) (nat_le k m) refl refl
      (λ less. absurd (not-passed k base fuel rest a item y w t s is first held (omega (arith, count, count')) (passed_to d n all f steps k m (stand_at rest [] z q) less second)))
      (λ less. absurd (not-passed m rest more base b other z x q r is' second held' (omega (arith, count, count')) (passed_to d n all f steps m k (stand_at base [] y t) less first)))
      (λ same.
      (let at_it : stand_at base [] y t ≡ stand_at rest [] z q = same_Some (stand_at base [] y t) (stand_at rest [] z q) (sym first ∙ ap f same ∙ second) in
      let it : item ≡ other = same_Some item other (sym is ∙ ap (λ i. slice_get all i) same ∙ is') in
      let cost : base ≡ rest = ap (λ (l : Stand _). l.cost) at_it in
      let units_are : fuel ≡ more = omega (arith, cost, count, count') in
      let e : Holds a w s ≡ Holds b x r =
      sym (held [])
      ∙ ap (λ i. play d.run d.full (d.plan n i (suc k) y t) [] d.full fuel) it
      ∙ ap (λ i. play d.run d.full (d.plan n other (suc i) y t) [] d.full fuel) same
      ∙ ap (λ (l : Stand _). play d.run d.full (d.plan n other (suc m) l.world l.page) [] d.full fuel) at_it
      ∙ ap (λ u. play d.run d.full (d.plan n other (suc m) z q) [] d.full u) units_are
      ∙ held' [] in
      (ap held-depth e, ap held-world e, ap held-page e)))

pub cuts_one : {A S : Type 0} (d : Doing A S) (batches : List Contents) (given : List Given) (units a b : ℕ) (w x : World) (s r : S) → CountsUnits d.run
    → CutAfter d batches given units a w s → CutAfter d batches given units b x r → AreOne a b w x s r
cuts_one d batches given units a b w x s r counts first second = by first second
  where
    steps : (k : ℕ) → session_behind d batches (given ++ []) (suc k) ≡ behind_next d (length batches) (suc k) (slice_get (last_items d batches) k) (session_behind d batches (given ++ []) k)
    steps k = in_step d 0 (length batches) (d.opening ∷ []) batches k (Some (stand_at 1 (given ++ []) d.world d.page)) (omega arith)

    nothing : (k : ℕ) (y : World) (t : _) → units ≡ 0 → session_behind d batches (given ++ []) k ≡ Some (stand_at units [] y t) → ⊥
    nothing k y t none there =
        not-none d counts (length batches) (last_items d batches) (λ i. session_behind d batches (given ++ []) i) steps
        (λ l e. one-first d 0 (d.opening ∷ []) batches (Some (stand_at 1 (given ++ []) d.world d.page)) l e) units k y t none there

    by : CutAfter d batches given units a w s → CutAfter d batches given units b x r → AreOne a b w x s r
    by (at_first none depth there) (at_first none' depth' there') =
        same-stands a b 1 1 [] [] w x s r depth depth' (same_Some (stand_at 1 [] w s) (stand_at 1 [] x r) (sym (there []) ∙ there' []))
    by (at_first none depth there) (between k depth' there') = absurd (nothing k x r none (there' []))
    by (at_first none depth there) (within k base fuel item y t is there' count held) = absurd (omega (arith, none, count))
    by (between k depth there) (at_first none depth' there') = absurd (nothing k w s none (there []))
    by (between k depth there) (between m depth' there') =
        two-between d counts (length batches) (last_items d batches) (λ i. session_behind d batches (given ++ []) i) steps units a b k m w x s r depth depth' (there []) (there' [])
    by (between k depth there) (within m base fuel item y t is there' count held) =
        between-within d counts (length batches) (last_items d batches) (λ i. session_behind d batches (given ++ []) i) steps units a b k m base fuel item w x y s r t (there []) is (there' []) count held
    by (within m base fuel item y t is there' count held) (at_first none depth there) = absurd (omega (arith, none, count))
    by (within m base fuel item y t is there' count held) (between k depth there) =
        turned b a x w r s (between-within d counts (length batches) (last_items d batches) (λ i. session_behind d batches (given ++ []) i) steps units b a k m base fuel item x w y r s t (there []) is (there' []) count held)
    by (within k base fuel item y t is there count held) (within m rest more other z q is' there' count' held') =
        two-within d counts (length batches) (last_items d batches) (λ i. session_behind d batches (given ++ []) i) steps units a b k m base rest fuel more item other w x y z s r t q
        is (there []) count held is' (there' []) count' held'
