-- A walk over the busy sessions.
use Rattle.std.proofs.Common.{◌≡◌, ℕ, zero, suc, ◌+◌, ◌<◌, ◌≤◌, true, false, cond, eqb, List, [], ◌∷◌, ◌++◌, length, take, drop, Option, Some, None, Result, Ok, Err, refl, sym, ap, ◌∙◌, subst, arith, append_assoc}
use Rattle.std.specs.Prelude.{slice_get, slice_set, IfSome, IfNone, OnErr, is_ok}
use Rattle.std.specs.List.{insert}
use Rattle.std.proofs.lemmas.Bool.{eq-eqb, or_left, or_right}
use Rattle.std.proofs.lemmas.List.{drop-set-lt}
use Rattle.std.proofs.lemmas.List.Folds.{list_any-append}
use Rattle.rip_history.specs.declared.sessions.Progress.{Progress}
use Rattle.rip_history.specs.declared.sessions.Progress.TheVariants.{Busy, Finished}
use Rattle.rip_table.specs.Seats.{is_unfinished}
use Rattle.rip_table.specs.Walks.{Rises, among, IsAdded, IsPlaceFor}
use Rattle.rip_table.proofs.RiseLemmas.{inserted, removed, IsRemoved}

-- the busy ones after a slice
abbrev pub AreLeftBusy : Progress → ℕ → List ℕ → List ℕ → Type 0
AreLeftBusy Busy n xs ys = ys ≡ xs
AreLeftBusy (Finished how) n xs ys = IsRemoved n xs ys

-- what is kept of a result
pub ok_items : {A E X : Type 0} (r : Result A E) (cap len : ℕ) (new a b : X) → OnErr r (cap ≤ len) → len < cap → new ≡ cond (is_ok r) a b → new ≡ a
ok_items (Ok v) cap len new a b full lt e = e
ok_items (Err x) cap len new a b full lt e = absurd (omega (arith, full, lt))

pub resting_all : (kept next : ℕ) (xs : List ℕ) → kept ≡ 0 → next ≡ 0 → take kept xs ++ drop next xs ≡ xs
resting_all kept next xs e f = (λ i. take (e i) xs ++ drop (f i) xs)

pub added_all : (n kept next place : ℕ) (old new slice : List ℕ) → kept ≡ 0 → next ≡ 0 → slice ≡ old
    → (Rises 0 slice → among n slice ≡ false → IsPlaceFor n slice place) → place ≤ length slice → new ≡ insert old place n
    → Rises 0 (take kept old ++ drop next old) → among n (take kept old ++ drop next old) ≡ false → 0 < n
    → IsAdded n (take kept old ++ drop next old) (take kept new ++ drop next new)
added_all n kept next place old new slice e f same found le is rises absent positive =
    let whole = resting_all kept next old e f in
    let r : Rises 0 old = subst (λ (xs : List ℕ). Rises 0 xs) whole rises in
    let a : among n old ≡ false = subst (λ (xs : List ℕ). among n xs ≡ false) whole absent in
    let p : IsPlaceFor n old place =
    subst (λ (xs : List ℕ). Rises 0 xs → among n xs ≡ false → IsPlaceFor n xs place) same found r a in
    let within : place ≤ length old = subst (λ (xs : List ℕ). place ≤ length xs) same le in
    let added : IsAdded n old (insert old place n) = inserted n old place r positive within p.below p.above in
    subst (λ (xs : List ℕ). IsAdded n xs (take kept new ++ drop next new)) (sym whole)
    (subst (λ (ys : List ℕ). IsAdded n old ys) (sym (resting_all kept next new e f ∙ is)) added)

next-at : (xs : List ℕ) (i n : ℕ) → slice_get xs i ≡ Some n → (rest : List ℕ) × (drop i xs ≡ n ∷ rest)
next-at [] i n e = absurd (cc)
next-at (x ∷ xs) zero n e = let same : x ≡ n = cc in (xs, ap (λ (y : ℕ). y ∷ xs) same)
next-at (x ∷ xs) (suc i) n e = next-at xs i n e

pub next_some : (xs : List ℕ) (i : ℕ) (o : Option ℕ) → o ≡ slice_get xs i → IfSome o (λ n. (rest : List ℕ) × (drop i xs ≡ n ∷ rest))
next_some xs i None e = tt
next_some xs i (Some n) e = next-at xs i n (sym e)

next-past : (xs : List ℕ) (i : ℕ) → slice_get xs i ≡ None → drop i xs ≡ []
next-past [] zero e = refl
next-past [] (suc i) e = refl
next-past (x ∷ xs) zero e = absurd (cc)
next-past (x ∷ xs) (suc i) e = next-past xs i e

pub next_none : (xs : List ℕ) (i : ℕ) (o : Option ℕ) → o ≡ slice_get xs i → IfNone o (drop i xs ≡ [])
next_none xs i None e = next-past xs i (sym e)
next_none xs i (Some n) e = tt

rest-at : (xs : List ℕ) (i n : ℕ) (rest : List ℕ) → drop i xs ≡ n ∷ rest → drop (suc i) xs ≡ rest
rest-at [] zero n rest e = absurd (cc)
rest-at [] (suc i) n rest e = absurd (cc)
rest-at (x ∷ xs) zero n rest e = cc
rest-at (x ∷ xs) (suc i) n rest e = rest-at xs i n rest e

pub rest_next : (xs : List ℕ) (i n : ℕ) (rest : List ℕ) → drop i xs ≡ n ∷ rest → drop (i + 1) xs ≡ rest
rest_next xs i n rest e = let more : i + 1 ≡ suc i = omega arith in ap (λ (k : ℕ). drop k xs) more ∙ rest-at xs i n rest e

pub rest_kept : (xs : List ℕ) (i k v n : ℕ) (rest : List ℕ) → k ≤ i → drop i xs ≡ n ∷ rest → drop (i + 1) (slice_set xs k v) ≡ rest
rest_kept xs i k v n rest le e = drop-set-lt (i + 1) xs k v (omega (arith, le)) ∙ rest_next xs i n rest e

-- the busy ones after one was passed
pub passed_busy : (p : Progress) (n : ℕ) (before after rest : List ℕ) → Rises 0 (before ++ n ∷ rest)
    → after ≡ cond (is_unfinished p) (before ++ n ∷ []) before → AreLeftBusy p n (before ++ n ∷ rest) (after ++ rest)
passed_busy Busy n before after rest r e = ap (λ (t : List ℕ). t ++ rest) e ∙ append_assoc before (n ∷ []) rest
passed_busy (Finished how) n before after rest r e =
    subst (λ (t : List ℕ). IsRemoved n (before ++ n ∷ rest) (t ++ rest)) (sym e) (removed n before rest r)

pub next_among : (n : ℕ) (before rest : List ℕ) → among n (before ++ n ∷ rest) ≡ true
next_among n before rest =
    list_any-append (λ (m : ℕ). eqb m n) before (n ∷ rest)
    ∙ or_right (among n before) (among n (n ∷ rest)) (or_left (eqb n n) (among n rest) (eq-eqb n n refl))
