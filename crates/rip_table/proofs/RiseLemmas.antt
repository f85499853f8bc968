-- Rising numbers, and whether one is among them.
use Rattle.std.proofs.Common.{◌≡◌, ◌⊎◌, inl, inr, ℕ, zero, suc, ◌<◌, ◌≤◌, Bool, true, false, not, ◌&&◌, ◌||◌, eqb, List, [], ◌∷◌, ◌++◌, length, take, drop, get_or, refl, sym, ap, ◌∙◌, subst, arith}
use Rattle.std.specs.List.{insert}
use Rattle.std.proofs.lemmas.Bool.{true≢false, false≢true, eqb-true, eq-eqb, ne_eqb, cases_order, or_left, or_from}
use Rattle.std.proofs.lemmas.List.Folds.{list_any-append, list_any_at}
use Rattle.rip_table.specs.Walks.{Rises, among, IsAdded}

pub rises_not : (low k : ℕ) (ns : List ℕ) → Rises low ns → k ≤ low → among k ns ≡ false
rises_not low k [] r le = refl
rises_not low k (n ∷ ns) r le =
    or_from (eqb n k) (among k ns) (ne_eqb n k (λ e. omega (arith, e, r.0, le))) (rises_not n k ns r.1 (omega (arith, r.0, le)))

first-is : (n : ℕ) (ns : List ℕ) → among n (n ∷ ns) ≡ true
first-is n ns = or_left (eqb n n) (among n ns) (eq-eqb n n refl)

-- the same numbers rise in one order alone
pub rises_one : (low : ℕ) (xs ys : List ℕ) → Rises low xs → Rises low ys → ((k : ℕ) → among k xs ≡ among k ys) → xs ≡ ys
rises_one low [] [] r s same = refl
rises_one low [] (y ∷ ys) r s same = absurd (false≢true (same y ∙ first-is y ys))
rises_one low (x ∷ xs) [] r s same = absurd (false≢true (sym (same x) ∙ first-is x xs))
rises_one low (x ∷ xs) (y ∷ ys) r s same = by (cases_order x y) (λ (e : x ≡ y) (t : (k : ℕ) → among k xs ≡ among k ys). rises_one y xs ys (subst (λ (z : ℕ). Rises z xs) e r.1) s.1 t)
  where
    rest : x ≡ y → (k : ℕ) (b : Bool) → eqb x k ≡ b → among k xs ≡ among k ys
    rest e k true is =
        let at : x ≡ k = eqb-true x k is in
        rises_not x k xs r.1 (omega (arith, at)) ∙ sym (rises_not y k ys s.1 (omega (arith, at, e)))
    rest e k false is =
        let other : eqb y k ≡ false = ap (λ (z : ℕ). eqb z k) (sym e) ∙ is in
        ap (λ (b : Bool). b || among k xs) (sym is) ∙ same k ∙ ap (λ (b : Bool). b || among k ys) other

    by : ((x ≡ y) ⊎ ((x < y) ⊎ (y < x))) → ((x ≡ y) → ((k : ℕ) → among k xs ≡ among k ys) → xs ≡ ys) → x ∷ xs ≡ y ∷ ys
    by (inl e) more = (λ i. e i ∷ more e (λ k. rest e k (eqb x k) refl) i)
    by (inr (inl lt)) more =
        absurd (true≢false (sym (first-is x xs) ∙ same x ∙ or_from (eqb y x) (among x ys) (ne_eqb y x (λ e. omega (arith, e, lt))) (rises_not y x ys s.1 (omega (arith, lt)))))
    by (inr (inr lt)) more =
        absurd (true≢false (sym (first-is y ys) ∙ sym (same y) ∙ or_from (eqb x y) (among y xs) (ne_eqb x y (λ e. omega (arith, e, lt))) (rises_not x y xs r.1 (omega (arith, lt)))))

-- ---- one more

rises-insert : (low n : ℕ) (xs : List ℕ) (i : ℕ) → Rises low xs → low < n → i ≤ length xs
    → ((k : ℕ) → k < i → get_or xs k 0 < n) → ((k : ℕ) → i ≤ k → k < length xs → n < get_or xs k 0)
    → Rises low (take i xs ++ n ∷ drop i xs)
rises-insert low n [] zero r lt le below above = (lt, tt)
rises-insert low n [] (suc i) r lt le below above = absurd (omega (arith, le))
rises-insert low n (x ∷ xs) zero r lt le below above = (lt, (above 0 (omega arith) (omega arith), r.1))
rises-insert low n (x ∷ xs) (suc i) r lt le below above =
    (r.0, rises-insert x n xs i r.1 (below 0 (omega arith)) (omega (arith, le)) (λ k l. below (suc k) (omega (arith, l))) (λ k l m. above (suc k) (omega (arith, l)) (omega (arith, m))))

or-middle : (a b c : Bool) → (a || (b || c)) ≡ (b || (a || c))
or-middle true true c = refl
or-middle true false c = refl
or-middle false b c = refl

take-drop : (i : ℕ) (xs : List ℕ) → take i xs ++ drop i xs ≡ xs
take-drop zero xs = refl
take-drop (suc i) [] = refl
take-drop (suc i) (x ∷ xs) = ap (λ t. x ∷ t) (take-drop i xs)

pub inserted : (n : ℕ) (xs : List ℕ) (i : ℕ) → Rises 0 xs → 0 < n → i ≤ length xs
    → ((k : ℕ) → k < i → get_or xs k 0 < n) → ((k : ℕ) → i ≤ k → k < length xs → n < get_or xs k 0)
    → IsAdded n xs (insert xs i n)
inserted n xs i r lt le below above = record {
  rises = rises-insert 0 n xs i r lt le below above;
  among = λ k.
      list_any-append (λ (m : ℕ). eqb m k) (take i xs) (n ∷ drop i xs)
      ∙ or-middle (among k (take i xs)) (eqb n k) (among k (drop i xs))
      ∙ ap (λ (b : Bool). eqb n k || b) (sym (list_any-append (λ (m : ℕ). eqb m k) (take i xs) (drop i xs)) ∙ ap (among k) (take-drop i xs));
}

-- ---- one less

rises-lower : (low high : ℕ) (xs : List ℕ) → low ≤ high → Rises high xs → Rises low xs
rises-lower low high [] le r = tt
rises-lower low high (x ∷ xs) le r = (omega (arith, le, r.0), r.1)

rises-without : (low n : ℕ) (xs ys : List ℕ) → Rises low (xs ++ n ∷ ys) → Rises low (xs ++ ys)
rises-without low n [] ys r = rises-lower low n ys (omega (arith, r.0)) r.1
rises-without low n (x ∷ xs) ys r = (r.0, rises-without x n xs ys r.1)

-- a number is taken from others
pub record IsRemoved (n : ℕ) (xs ys : List ℕ) : Type 0 where
  pub rises : Rises 0 ys
  pub among : (k : ℕ) → among k ys ≡ (not (eqb n k) && among k xs)

rises-apart : (low n : ℕ) (xs ys : List ℕ) → Rises low (xs ++ n ∷ ys) → (low < n) × (among n xs ≡ false) × (among n ys ≡ false)
rises-apart low n [] ys r = (r.0, refl, rises_not n n ys r.1 (omega arith))
rises-apart low n (x ∷ xs) ys r =
    let rest = rises-apart x n xs ys r.1 in
    (omega (arith, r.0, rest.0), or_from (eqb x n) (among n xs) (ne_eqb x n (λ e. omega (arith, e, rest.0))) rest.1, rest.2)

pub removed : (n : ℕ) (xs ys : List ℕ) → Rises 0 (xs ++ n ∷ ys) → IsRemoved n (xs ++ n ∷ ys) (xs ++ ys)
removed n xs ys r = record {
  rises = rises-without 0 n xs ys r;
  among = λ k. by k (eqb n k) refl;
}
  where
    apart : (0 < n) × (among n xs ≡ false) × (among n ys ≡ false)
    apart = rises-apart 0 n xs ys r

    by : (k : ℕ) (b : Bool) → eqb n k ≡ b → among k (xs ++ ys) ≡ (not b && among k (xs ++ n ∷ ys))
    by k true is =
        list_any-append (λ (m : ℕ). eqb m k) xs ys
        ∙ subst (λ (j : ℕ). (among j xs || among j ys) ≡ false) (eqb-true n k is) (or_from (among n xs) (among n ys) apart.1 apart.2)
    by k false is =
        list_any-append (λ (m : ℕ). eqb m k) xs ys
        ∙ ap (λ (b : Bool). among k xs || (b || among k ys)) (sym is)
        ∙ sym (list_any-append (λ (m : ℕ). eqb m k) xs (n ∷ ys))

-- ---- rising numbers are sorted

rises-above : (low : ℕ) (xs : List ℕ) → Rises low xs → (j : ℕ) → j < length xs → low < get_or xs j 0
rises-above low [] r j lt = absurd (omega (arith, lt))
rises-above low (x ∷ xs) r zero lt = r.0
rises-above low (x ∷ xs) r (suc j) lt = let more = rises-above x xs r.1 j (omega (arith, lt)) in omega (arith, r.0, more)

pub rises_sorted : (low : ℕ) (xs : List ℕ) → Rises low xs → (i j : ℕ) → i ≤ j → j < length xs → get_or xs i 0 ≤ get_or xs j 0
rises_sorted low [] r i j le lt = absurd (omega (arith, lt))
rises_sorted low (x ∷ xs) r zero zero le lt = omega arith
rises_sorted low (x ∷ xs) r zero (suc j) le lt = let more = rises-above x xs r.1 j (omega (arith, lt)) in omega (arith, more)
rises_sorted low (x ∷ xs) r (suc i) zero le lt = absurd (omega (arith, le))
rises_sorted low (x ∷ xs) r (suc i) (suc j) le lt = rises_sorted x xs r.1 i j (omega (arith, le)) (omega (arith, lt))

-- one that is found is among them
pub found_among : (n i : ℕ) (xs : List ℕ) → i < length xs → get_or xs i 0 ≡ n → among n xs ≡ true
found_among n i xs lt e = list_any_at (λ (m : ℕ). eqb m n) xs i 0 lt (eq-eqb (get_or xs i 0) n e)
