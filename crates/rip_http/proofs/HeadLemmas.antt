-- The search for a head's end.
use Rattle.std.proofs.Common.{◌≡◌, ◌≢◌, ◌==◌, ℕ, zero, suc, ◌+◌, ◌≤◌, ◌<◌, List, [], ◌∷◌, ◌++◌, length, take, drop, get_or, Option, Some, None, option_map, refl, sym, ap, ◌∙◌, subst, arith}
use Rattle.std.proofs.lemmas.List.{take_more, take_all, length-take-le, length-drop, get_or-drop, take-append-drop, drop_more}
use Rattle.std.proofs.lemmas.Bool.{cond-false, ne_eqb}
use Rattle.rip_http.specs.Heads.{step, after, end_from, ended_or}
use Rattle.rip_http.specs.declared.head.Scan.{Scan}
use Rattle.rip_http.specs.declared.head.Scan.TheVariants.{Before, Inside, AfterFeed}

pub mapped : (r : Option ℕ) (n : ℕ) → option_map (λ k. suc k) r ≡ Some n → (m : ℕ) × (r ≡ Some m) × (n ≡ suc m)
mapped None n e = cc
mapped (Some m) n e = (m, refl, cc)

-- a head that has ended stays ended
pub end-append : (s : Scan) (xs ys : List ℕ) (n : ℕ) → end_from s xs ≡ Some n → end_from s (xs ++ ys) ≡ Some n
end-append s [] ys n e = cc
end-append s (b ∷ xs) ys n e = by_step (λ t m h. end-append t xs ys m h) (step s b) e
  where
    by_step : ((t : Scan) (m : ℕ) → end_from t xs ≡ Some m → end_from t (xs ++ ys) ≡ Some m) → (o : Option Scan)
        → ended_or (Some 1) o (λ t. option_map (λ k. suc k) (end_from t xs)) ≡ Some n
        → ended_or (Some 1) o (λ t. option_map (λ k. suc k) (end_from t (xs ++ ys))) ≡ Some n
    by_step later None h = h
    by_step later (Some t) h =
        let p = mapped (end_from t xs) n h in
        ap (option_map (λ k. suc k)) (later t p.0 p.1) ∙ ap Some (sym p.2)

-- and within the bytes
pub end-le : (s : Scan) (xs : List ℕ) (n : ℕ) → end_from s xs ≡ Some n → n ≤ length xs
end-le s [] n e = cc
end-le s (b ∷ xs) n e = by_step (λ t m h. end-le t xs m h) (step s b) e
  where
    by_step : ((t : Scan) (m : ℕ) → end_from t xs ≡ Some m → m ≤ length xs) → (o : Option Scan)
        → ended_or (Some 1) o (λ t. option_map (λ k. suc k) (end_from t xs)) ≡ Some n → n ≤ suc (length xs)
    by_step later None h = let one : 1 ≡ n = cc in omega arith
    by_step later (Some t) h =
        let p = mapped (end_from t xs) n h in
        omega (arith, later t p.0 p.1, p.2)

-- a head that ends within the first bytes ends in them
pub end-back : (s : Scan) (xs ys : List ℕ) (n : ℕ) → end_from s (xs ++ ys) ≡ Some n → n ≤ length xs → end_from s xs ≡ Some n
end-back s [] [] n e h = cc
end-back s [] (b ∷ ys) n e h = by_step (step s b) e
  where
    by_step : (o : Option Scan) → ended_or (Some 1) o (λ t. option_map (λ k. suc k) (end_from t ys)) ≡ Some n → None ≡ Some n
    by_step None g = let one : 1 ≡ n = cc in absurd (omega (arith, one, h))
    by_step (Some t) g = let p = mapped (end_from t ys) n g in absurd (omega (arith, p.2, h))
end-back s (b ∷ xs) ys n e h = by_step (λ t m g k. end-back t xs ys m g k) (step s b) e
  where
    by_step : ((t : Scan) (m : ℕ) → end_from t (xs ++ ys) ≡ Some m → m ≤ length xs → end_from t xs ≡ Some m) → (o : Option Scan)
        → ended_or (Some 1) o (λ t. option_map (λ k. suc k) (end_from t (xs ++ ys))) ≡ Some n
        → ended_or (Some 1) o (λ t. option_map (λ k. suc k) (end_from t xs)) ≡ Some n
    by_step back None g = g
    by_step back (Some t) g =
        let p = mapped (end_from t (xs ++ ys)) n g in
        let fits : p.0 ≤ length xs = omega (arith, p.2, h) in
        ap (option_map (λ k. suc k)) (back t p.0 p.1 fits) ∙ ap Some (sym p.2)

-- no head ends in bytes that leave a state
pub after-none : (s t : Scan) (xs : List ℕ) → after s xs ≡ Some t → end_from s xs ≡ None
after-none s t [] e = refl
after-none s t (b ∷ xs) e = by_step (λ u h. after-none u t xs h) (step s b) e
  where
    by_step : ((u : Scan) → after u xs ≡ Some t → end_from u xs ≡ None) → (o : Option Scan)
        → ended_or None o (λ u. after u xs) ≡ Some t → ended_or (Some 1) o (λ u. option_map (λ k. suc k) (end_from u xs)) ≡ None
    by_step later None h = cc
    by_step later (Some u) h = ap (option_map (λ k. suc k)) (later u h)

-- one more byte goes on
pub after-more : (s t u : Scan) (xs : List ℕ) (b : ℕ) → after s xs ≡ Some t → step t b ≡ Some u → after s (xs ++ b ∷ []) ≡ Some u
after-more s t u [] b e f =
    let same : s ≡ t = cc in
    subst (λ (x : Scan). ended_or None (step x b) (λ v. after v []) ≡ Some u) (sym same) (ap (λ o. ended_or None o (λ v. after v [])) f)
after-more s t u (c ∷ xs) b e f = by_step (λ v h. after-more v t u xs b h f) (step s c) e
  where
    by_step : ((v : Scan) → after v xs ≡ Some t → after v (xs ++ b ∷ []) ≡ Some u) → (o : Option Scan)
        → ended_or None o (λ v. after v xs) ≡ Some t → ended_or None o (λ v. after v (xs ++ b ∷ [])) ≡ Some u
    by_step later None h = cc
    by_step later (Some v) h = later v h

-- one more byte ends the head
pub end-more : (s t : Scan) (xs ys : List ℕ) (b : ℕ) → after s xs ≡ Some t → step t b ≡ None → end_from s (xs ++ b ∷ ys) ≡ Some (length xs + 1)
end-more s t [] ys b e f =
    let same : s ≡ t = cc in
    subst (λ (x : Scan). ended_or (Some 1) (step x b) (λ v. option_map (λ k. suc k) (end_from v ys)) ≡ Some 1) (sym same)
    (ap (λ o. ended_or (Some 1) o (λ v. option_map (λ k. suc k) (end_from v ys))) f)
end-more s t (c ∷ xs) ys b e f = by_step (λ v h. end-more v t xs ys b h f) (step s c) e
  where
    by_step : ((v : Scan) → after v xs ≡ Some t → end_from v (xs ++ b ∷ ys) ≡ Some (length xs + 1)) → (o : Option Scan)
        → ended_or None o (λ v. after v xs) ≡ Some t
        → ended_or (Some 1) o (λ v. option_map (λ k. suc k) (end_from v (xs ++ b ∷ ys))) ≡ Some (suc (length xs) + 1)
    by_step later None h = cc
    by_step later (Some v) h = ap (option_map (λ k. suc k)) (later v h) ∙ ap Some (omega arith)

-- the same two, at a place in the bytes
pub after_at : (s t u : Scan) (xs : List ℕ) (i : ℕ) → i < length xs → after s (take i xs) ≡ Some t → step t (get_or xs i 0) ≡ Some u
    → after s (take (i + 1) xs) ≡ Some u
after_at s t u xs i inside e f =
    ap (after s) (take_more xs i 0 inside) ∙ after-more s t u (take i xs) (get_or xs i 0) e f

pub end_at : (s t : Scan) (xs : List ℕ) (i : ℕ) → i < length xs → after s (take i xs) ≡ Some t → step t (get_or xs i 0) ≡ None
    → end_from s xs ≡ Some (i + 1)
end_at s t xs i inside e f =
    ap (end_from s) (sym (take-append-drop i xs) ∙ ap (λ ys. take i xs ++ ys) (drop_more xs i 0 inside))
    ∙ end-more s t (take i xs) (drop (i + 1) xs) (get_or xs i 0) e f
    ∙ ap (λ n. Some (n + 1)) (length-take-le i xs (omega arith))

-- bytes within a line that are no LF leave the search within it
pub after_line : (xs : List ℕ) (i n : ℕ) → i + n ≤ length xs → ((k : ℕ) → k < n → get_or xs (i + k) 0 ≢ 10) → after Before (take i xs) ≡ Some Inside → after Before (take (i + n) xs) ≡ Some Inside
after_line xs i zero within f e = let same : i ≡ i + 0 = omega arith in subst (λ k. after Before (take k xs) ≡ Some Inside) same e
after_line xs i (suc n) within f e =
    let first : i ≡ i + 0 = omega arith in
    let off : get_or xs i 0 ≢ 10 = subst (λ k. get_or xs k 0 ≢ 10) (sym first) (f 0 (omega arith)) in
    let here : step Inside (get_or xs i 0) ≡ Some Inside = cond-false (get_or xs i 0 == 10) (Some AfterFeed) (Some Inside) (ne_eqb (get_or xs i 0) 10 off) in
    let next = after_at Before Inside Inside xs i (omega (arith, within)) e here in
    let later : (k : ℕ) → k < n → get_or xs (i + 1 + k) 0 ≢ 10 = (λ k h. let same : i + suc k ≡ i + 1 + k = omega arith in subst (λ j. get_or xs j 0 ≢ 10) same (f (suc k) (omega (arith, h)))) in
    let all = after_line xs (i + 1) n (omega (arith, within)) later next in
    let same : i + 1 + n ≡ i + suc n = omega arith in
    subst (λ k. after Before (take k xs) ≡ Some Inside) same all

-- the same of the bytes behind the first ones
pub after_rest : (xs ys : List ℕ) (i n : ℕ) → ys ≡ drop i xs → i ≤ length xs → n ≤ length ys → ((k : ℕ) → k < n → get_or ys k 0 ≢ 10) → after Before (take i xs) ≡ Some Inside → after Before (take (i + n) xs) ≡ Some Inside
after_rest xs ys i n same low within f e =
    after_line xs i n (omega (arith, within, low, ap length same, length-drop i xs))
    (λ k h. subst (λ b. b ≢ 10) (ap (λ zs. get_or zs k 0) same ∙ get_or-drop i xs k 0) (f k h)) e

-- at the end of the bytes
pub after_all : (xs : List ℕ) (i : ℕ) (s : Scan) → length xs ≤ i → after Before (take i xs) ≡ Some s → after Before xs ≡ Some s
after_all xs i s h e = ap (after Before) (sym (take_all i xs h)) ∙ e
