-- Where the name of a property belongs among names in order.
use Rattle.std.proofs.Common.{◌≡◌, ◌≢◌, ℕ, zero, suc, ◌+◌, ◌-◌, ◌<◌, ◌≤◌, Ordering, Less, Equal, Greater, List, [], ◌∷◌, length, drop, get_or, get_or-drop, length-drop, refl, sym, ap, subst, ◌∙◌, arith, inl, inr}
use Rattle.std.specs.Ordering.{nat_cmp, ordering_reverse}
use Rattle.std.specs.Cmp.Lexicographic.{slice_cmp}
use Rattle.std.proofs.lemmas.Bool.{cases_lt}
use Rattle.std.proofs.lemmas.Cmp.{nat_list_cmp_total}
use Rattle.rip_values.specs.Pool.{Texts}
use Rattle.rip_heap_region.specs.declared.pages.property.Property.{Property}
use Rattle.rip_data.specs.Datum.{IsBeforeAll}
use Rattle.serde_json.specs.Data.{null}
use Rattle.rip_convert.specs.Written.{name_at, members_at, order, IsBetween, IsOrdered}
use Rattle.rip_convert.proofs.Placing.{IsSearched, begins, goes-on}

before-at : (pool : Texts) (ps : List Property) (k : List ℕ) (xs : List ℕ) → IsBeforeAll k (members_at pool (λ v. null) ps xs) → (j : ℕ) → j < length xs → slice_cmp nat_cmp k (name_at pool ps (get_or xs j 0)) ≡ Less
before-at pool ps k [] h j below = absurd (omega (arith, below))
before-at pool ps k (x ∷ xs) h zero below = h.0
before-at pool ps k (x ∷ xs) h (suc j) below = before-at pool ps k xs h.1 j (omega (arith, below))

ascending : (pool : Texts) (ps : List Property) (xs : List ℕ) → IsOrdered pool ps xs → (i j : ℕ) → i < j → j < length xs → order pool ps (get_or xs i 0) (get_or xs j 0) ≡ Less
ascending pool ps [] h i j less below = absurd (omega (arith, below))
ascending pool ps (x ∷ xs) h i zero less below = absurd (omega (arith, less))
ascending pool ps (x ∷ xs) h zero (suc j) less below = before-at pool ps (name_at pool ps x) xs h.0 j (omega (arith, below))
ascending pool ps (x ∷ xs) h (suc i) (suc j) less below = ascending pool ps xs h.1 i j (omega (arith, less)) (omega (arith, below))

-- the same of those from `base` on
pub ascending-from : (pool : Texts) (ps : List Property) (xs : List ℕ) (base i j : ℕ) → IsOrdered pool ps (drop base xs) → base ≤ i → i < j → j < length xs → order pool ps (get_or xs i 0) (get_or xs j 0) ≡ Less
ascending-from pool ps xs base i j h from less below =
    let a = i - base in
    let b = j - base in
    let ea : base + a ≡ i = omega (arith, from) in
    let eb : base + b ≡ j = omega (arith, from, less) in
    let first : get_or (drop base xs) a 0 ≡ get_or xs i 0 = get_or-drop base xs a 0 ∙ ap (λ k. get_or xs k 0) ea in
    let second : get_or (drop base xs) b 0 ≡ get_or xs j 0 = get_or-drop base xs b 0 ∙ ap (λ k. get_or xs k 0) eb in
    let less' : a < b = omega (arith, from, less) in
    let below' : b < length (drop base xs) = omega (arith, below, from, less, length-drop base xs) in
    subst (λ p. order pool ps p (get_or xs j 0) ≡ Less) first (subst (λ p. order pool ps (get_or (drop base xs) a 0) p ≡ Less) second (ascending pool ps (drop base xs) h a b less' below'))

flip : (a b : List ℕ) → slice_cmp nat_cmp a b ≡ Less → slice_cmp nat_cmp b a ≡ Greater
flip a b h = nat_list_cmp_total.antisymm b a ∙ ap ordering_reverse h

flop : (a b : List ℕ) → slice_cmp nat_cmp a b ≡ Greater → slice_cmp nat_cmp b a ≡ Less
flop a b h = nat_list_cmp_total.antisymm b a ∙ ap ordering_reverse h

pub between-all : (pool : Texts) (ps : List Property) (xs : List ℕ) (base place : ℕ) → base ≤ length xs → IsBetween pool ps xs base place base (length xs)
between-all pool ps xs base place h = record {
  from = omega arith;
  ordered = h;
  within = omega arith;
  before = λ j a b. absurd (omega (arith, a, b));
  after = λ j a b. absurd (omega (arith, a, b));
}

pub between-right : (pool : Texts) (ps : List Property) (xs : List ℕ) (base place low high middle : ℕ) → IsOrdered pool ps (drop base xs) → IsBetween pool ps xs base place low high → low ≤ middle → middle < high → Greater ≡ order pool ps place (get_or xs middle 0) → IsBetween pool ps xs base place (middle + 1) high
between-right pool ps xs base place low high middle sorted b lm mh e = record {
  from = omega (arith, b.from, lm);
  ordered = omega (arith, mh);
  within = b.within;
  before = λ j from below. elim (cases_lt j middle) [
    | inl less ↦
        let up = ascending-from pool ps xs base j middle sorted from less (omega (arith, mh, b.within)) in
        let down = flop (name_at pool ps place) (name_at pool ps (get_or xs middle 0)) (sym e) in
        flip (name_at pool ps (get_or xs j 0)) (name_at pool ps place) (nat_list_cmp_total.trans (name_at pool ps (get_or xs j 0)) (name_at pool ps (get_or xs middle 0)) (name_at pool ps place) up down)
    | inr here ↦ (let same : middle ≡ j = omega (arith, here, below) in subst (λ k. order pool ps place (get_or xs k 0) ≡ Greater) same (sym e))
  ];
  after = b.after;
}

pub between-left : (pool : Texts) (ps : List Property) (xs : List ℕ) (base place low high middle : ℕ) → IsOrdered pool ps (drop base xs) → IsBetween pool ps xs base place low high → low ≤ middle → middle < high → order pool ps place (get_or xs middle 0) ≢ Greater → IsBetween pool ps xs base place low middle
between-left pool ps xs base place low high middle sorted b lm mh e = record {
  from = b.from;
  ordered = lm;
  within = omega (arith, mh, b.within);
  before = b.before;
  after = λ j from below. elim (cases_lt middle j) [
    | inl more ↦ λ greater.
        let up = ascending-from pool ps xs base middle j sorted (omega (arith, b.from, lm)) more below in
        let down = flop (name_at pool ps place) (name_at pool ps (get_or xs j 0)) greater in
        e (flip (name_at pool ps (get_or xs middle 0)) (name_at pool ps place) (nat_list_cmp_total.trans (name_at pool ps (get_or xs middle 0)) (name_at pool ps (get_or xs j 0)) (name_at pool ps place) up down))
    | inr here ↦ (let same : middle ≡ j = omega (arith, here, from) in subst (λ k. order pool ps place (get_or xs k 0) ≢ Greater) same e)
  ];
}

-- what a search gives
searched-by : (pool : Texts) (ps : List Property) (xs : List ℕ) (base place i k : ℕ) → base + k ≤ i → i ≤ length xs → ((j : ℕ) → base ≤ j → j < i → order pool ps place (get_or xs j 0) ≡ Greater) → IsSearched pool ps xs base place (base + k)
searched-by pool ps xs base place i zero h within before = let e : base ≡ base + 0 = omega arith in subst (IsSearched pool ps xs base place) e (begins pool ps xs base place)
searched-by pool ps xs base place i (suc k) h within before =
    let e : base + k + 1 ≡ base + suc k = omega arith in
    subst (IsSearched pool ps xs base place) e (goes-on pool ps xs base place (base + k) (omega (arith, h, within)) (searched-by pool ps xs base place i k (omega (arith, h)) within before) (sym (before (base + k) (omega arith) (omega (arith, h)))))

pub searched : (pool : Texts) (ps : List Property) (xs : List ℕ) (base place i : ℕ) → base ≤ i → i ≤ length xs → ((j : ℕ) → base ≤ j → j < i → order pool ps place (get_or xs j 0) ≡ Greater) → IsSearched pool ps xs base place i
searched pool ps xs base place i from within before =
    let e : base + (i - base) ≡ i = omega (arith, from) in
    subst (IsSearched pool ps xs base place) e (searched-by pool ps xs base place i (i - base) (omega (arith, e)) within before)

pub less_left : (o : Ordering) → o ≢ Equal → o ≢ Greater → Less ≡ o
less_left Less e g = refl
less_left Equal e g = absurd (e refl)
less_left Greater e g = absurd (g refl)
