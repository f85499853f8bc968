-- How many sessions live, and which are busy, by what is kept of each.
use Rattle.std.proofs.Common.{◌≡◌, ◌⊎◌, inl, inr, ℕ, zero, suc, ◌+◌, ◌<◌, ◌≤◌, Bool, true, false, cond, not, ◌||◌, eqb, List, [], ◌∷◌, ◌++◌, length, take, count_by, Some, refl, sym, ap, ◌∙◌, subst, arith, append-nil}
use Rattle.std.specs.Prelude.{slice_get}
use Rattle.std.proofs.lemmas.Bool.{true≢false, eqb-true, eqb-false, eq-eqb, ne_eqb, or_left, or_from, or_parts, cases_lt}
use Rattle.std.proofs.lemmas.List.{take_all}
use Rattle.std.proofs.lemmas.List.Folds.{list_any-append}
use Rattle.std.proofs.lemmas.List.Sums.{sum_by-cons}
use Rattle.rip_log.specs.Entries.{Recorded}
use Rattle.rip_history.specs.Requests.{identifiers_in, lives, live_up_to, live_count}
use Rattle.rip_history.specs.Run.{is_busy_in, busy_up_to, busy_in}
use Rattle.rip_history.specs.Standings.{standing_of}
use Rattle.rip_table.specs.Walks.{Rises, among}
use Rattle.rip_table.proofs.RiseLemmas.{rises_not, rises_one}

-- ---- the live ones

-- one that ended counts nothing
abbrev counts : Bool → ℕ
counts ended = cond (not ended) 1 0

count-push : (xs : List Bool) (b : Bool) → count_by not (xs ++ b ∷ []) ≡ count_by not xs + counts b
count-push [] b = omega (arith, sum_by-cons counts b [])
count-push (x ∷ xs) b =
    let rest = count-push xs b in
    omega (arith, sum_by-cons counts x (xs ++ b ∷ []), sum_by-cons counts x xs, rest)

take-push : (xs : List Bool) (i : ℕ) (b : Bool) → slice_get xs i ≡ Some b → take (suc i) xs ≡ take i xs ++ b ∷ []
take-push [] i b e = absurd (cc)
take-push (x ∷ xs) zero b e = let same : x ≡ b = cc in ap (λ (y : Bool). y ∷ []) same
take-push (x ∷ xs) (suc i) b e = ap (λ t. x ∷ t) (take-push xs i b e)

live-step : (n m : ℕ) (b : Bool) → n ≡ m → cond b (suc n) n ≡ m + counts (not b)
live-step n m true e = omega (arith, e)
live-step n m false e = omega (arith, e)

-- the flags say of each session whether it has ended
abbrev pub AreFlags : List Recorded → List Bool → Type 0
AreFlags h flags = (i : ℕ) → i < length flags → slice_get flags i ≡ Some (not (lives (standing_of (suc i) h)))

live-up : (h : List Recorded) (flags : List Bool) (c : ℕ) → AreFlags h flags → c ≤ length flags → live_up_to c h ≡ count_by not (take c flags)
live-up h flags zero f le = refl
live-up h flags (suc c) f le =
    live-step (live_up_to c h) (count_by not (take c flags)) (lives (standing_of (suc c) h)) (live-up h flags c f (omega (arith, le)))
    ∙ sym (ap (count_by not) (take-push flags c (not (lives (standing_of (suc c) h))) (f c (omega (arith, le)))) ∙ count-push (take c flags) (not (lives (standing_of (suc c) h))))

pub live_is : (h : List Recorded) (flags : List Bool) → AreFlags h flags → length flags ≡ length (identifiers_in h) → live_count h ≡ count_by not flags
live_is h flags f size =
    ap (λ (c : ℕ). live_up_to c h) (sym size) ∙ live-up h flags (length flags) f (omega arith)
    ∙ ap (count_by not) (take_all (length flags) flags (omega arith))

-- ---- the busy ones

all-below : (c : ℕ) (h : List Recorded) (k : ℕ) → c < k → among k (busy_up_to c h) ≡ false
all-below zero h k lt = refl
all-below (suc c) h k lt =
    list_any-append (λ (m : ℕ). eqb m k) (busy_up_to c h) (cond (is_busy_in (standing_of (suc c) h)) (suc c ∷ []) [])
    ∙ or_from (among k (busy_up_to c h)) (among k (cond (is_busy_in (standing_of (suc c) h)) (suc c ∷ []) []))
    (all-below c h k (omega (arith, lt))) (by (is_busy_in (standing_of (suc c) h)))
  where
    by : (b : Bool) → among k (cond b (suc c ∷ []) []) ≡ false
    by true = or_from (eqb (suc c) k) false (ne_eqb (suc c) k (λ e. omega (arith, e, lt))) refl
    by false = refl

rises-push : (low n : ℕ) (xs : List ℕ) → Rises low xs → low < n → ((k : ℕ) → n ≤ k → among k xs ≡ false) → Rises low (xs ++ n ∷ [])
rises-push low n [] r lt f = (lt, tt)
rises-push low n (x ∷ xs) r lt f = (r.0, rises-push x n xs r.1 below (λ k le. (or_parts (eqb x k) (among k xs) (f k le)).1))
  where
    apart : (k : ℕ) → n ≤ k → x ≡ k → ⊥
    apart k le e = true≢false (sym (eq-eqb x k e) ∙ (or_parts (eqb x k) (among k xs) (f k le)).0)

    below : x < n
    below = by (cases_lt x n)
      where
        by : (x < n) ⊎ (n ≤ x) → x < n
        by (inl lt) = lt
        by (inr le) = absurd (apart x le refl)

pub busy_rise : (c : ℕ) (h : List Recorded) → Rises 0 (busy_up_to c h)
busy_rise zero h = tt
busy_rise (suc c) h = by (is_busy_in (standing_of (suc c) h)) (busy_rise c h)
  where
    by : (b : Bool) → Rises 0 (busy_up_to c h) → Rises 0 (busy_up_to c h ++ cond b (suc c ∷ []) [])
    by true r = rises-push 0 (suc c) (busy_up_to c h) r (omega arith) (λ k le. all-below c h k (omega (arith, le)))
    by false r = subst (λ (xs : List ℕ). Rises 0 xs) (sym (append-nil (busy_up_to c h))) r

busy-at : (c i : ℕ) (h : List Recorded) → i < c → among (suc i) (busy_up_to c h) ≡ is_busy_in (standing_of (suc i) h)
busy-at zero i h lt = absurd (omega (arith, lt))
busy-at (suc c) i h lt =
    list_any-append (λ (m : ℕ). eqb m (suc i)) (busy_up_to c h) (cond (is_busy_in (standing_of (suc c) h)) (suc c ∷ []) [])
    ∙ by (eqb i c) refl (λ l. busy-at c i h l)
  where
    last-other : (b : Bool) → (i ≡ c → ⊥) → among (suc i) (cond b (suc c ∷ []) []) ≡ false
    last-other true ne = or_from (eqb (suc c) (suc i)) false (ne_eqb (suc c) (suc i) (λ e. ne (omega (arith, e)))) refl
    last-other false ne = refl

    last-same : (b : Bool) → among (suc c) (cond b (suc c ∷ []) []) ≡ b
    last-same true = or_left (eqb (suc c) (suc c)) false (eq-eqb (suc c) (suc c) refl)
    last-same false = refl

    or-none : (x y z : Bool) → x ≡ z → y ≡ false → (x || y) ≡ z
    or-none true y z e f = e
    or-none false y z e f = f ∙ e

    or-only : (x y z : Bool) → x ≡ false → y ≡ z → (x || y) ≡ z
    or-only true y z e f = absurd (true≢false e)
    or-only false y z e f = f

    by : (t : Bool) → eqb i c ≡ t → (i < c → among (suc i) (busy_up_to c h) ≡ is_busy_in (standing_of (suc i) h))
        → (among (suc i) (busy_up_to c h) || among (suc i) (cond (is_busy_in (standing_of (suc c) h)) (suc c ∷ []) [])) ≡ is_busy_in (standing_of (suc i) h)
    by true same rest =
        subst (λ (j : ℕ). (among (suc j) (busy_up_to c h) || among (suc j) (cond (is_busy_in (standing_of (suc c) h)) (suc c ∷ []) [])) ≡ is_busy_in (standing_of (suc j) h))
        (sym (eqb-true i c same))
        (or-only (among (suc c) (busy_up_to c h)) (among (suc c) (cond (is_busy_in (standing_of (suc c) h)) (suc c ∷ []) [])) (is_busy_in (standing_of (suc c) h))
        (all-below c h (suc c) (omega arith)) (last-same (is_busy_in (standing_of (suc c) h))))
    by false other rest =
        let ne = eqb-false i c other in
        or-none (among (suc i) (busy_up_to c h)) (among (suc i) (cond (is_busy_in (standing_of (suc c) h)) (suc c ∷ []) [])) (is_busy_in (standing_of (suc i) h))
        (rest (omega (arith, lt, ne))) (last-other (is_busy_in (standing_of (suc c) h)) ne)

-- a session that was not opened is not busy
abbrev pub AreWithin : List Recorded → Type 0
AreWithin h = (k : ℕ) → ((i : ℕ) × (k ≡ suc i) × (i < length (identifiers_in h))) ⊎ (is_busy_in (standing_of k h) ≡ false)

-- each is among the busy ones exactly where it is busy
pub record AreBusy (h : List Recorded) (ns : List ℕ) : Type 0 where
  pub rises : Rises 0 ns
  pub among : (k : ℕ) → among k ns ≡ is_busy_in (standing_of k h)

pub busy_exact : (h : List Recorded) → AreWithin h → AreBusy h (busy_in h)
busy_exact h within = record {
  rises = busy_rise (length (identifiers_in h)) h;
  among = λ k. by k (within k) (past k);
}
  where
    c : ℕ
    c = length (identifiers_in h)

    past : (k : ℕ) → (among k (busy_up_to c h) ≡ true → is_busy_in (standing_of k h) ≡ true)
    past zero p = absurd (true≢false (sym p ∙ rises_not 0 0 (busy_up_to c h) (busy_rise c h) (omega arith)))
    past (suc i) p = inside (cases_lt i c)
      where
        inside : (i < c) ⊎ (c ≤ i) → is_busy_in (standing_of (suc i) h) ≡ true
        inside (inl l) = sym (busy-at c i h l) ∙ p
        inside (inr l) = absurd (true≢false (sym p ∙ all-below c h (suc i) (omega (arith, l))))

    idle : (a b : Bool) → (a ≡ true → b ≡ true) → b ≡ false → a ≡ b
    idle true b f e = absurd (true≢false (sym (f refl) ∙ e))
    idle false b f e = sym e

    by : (k : ℕ) → ((i : ℕ) × (k ≡ suc i) × (i < c)) ⊎ (is_busy_in (standing_of k h) ≡ false)
        → (among k (busy_up_to c h) ≡ true → is_busy_in (standing_of k h) ≡ true)
        → among k (busy_up_to c h) ≡ is_busy_in (standing_of k h)
    by k (inl (i, is, lt)) f = subst (λ (j : ℕ). among j (busy_up_to c h) ≡ is_busy_in (standing_of j h)) (sym is) (busy-at c i h lt)
    by k (inr none) f = idle (among k (busy_up_to c h)) (is_busy_in (standing_of k h)) f none

pub busy_same : (h : List Recorded) (ns : List ℕ) → AreWithin h → AreBusy h ns → ns ≡ busy_in h
busy_same h ns within b =
    let exact = busy_exact h within in
    rises_one 0 ns (busy_in h) b.rises exact.rises (λ k. b.among k ∙ sym (exact.among k))
