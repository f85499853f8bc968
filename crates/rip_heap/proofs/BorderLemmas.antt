-- The longest beginning of a pattern at the end of a text, unit by unit.
use Rattle.std.proofs.Common.{◌≡◌, ℕ, zero, suc, ◌+◌, ◌-◌, ◌<◌, ◌≤◌, ◌⊎◌, inl, inr, List, [], ◌∷◌, ◌++◌, length, take, drop, get_or, Some, refl, sym, ap, ◌∙◌, subst, arith, append_assoc, append-nil, length-append, length-take, length-drop}
use Rattle.std.proofs.lemmas.List.{take_more, get_or_append_left, take-append-drop}
use Rattle.std.proofs.lemmas.Bool.{cases_lt}
use Rattle.rip_heap.specs.Search.{first_place}
use Rattle.rip_heap.proofs.SearchLemmas.{first_place-found}
use Rattle.rip_heap.specs.Borders.{EndsIn, IsLongest, IsLongestBefore, IsTable, StandsAt}
use Rattle.std.proofs.Math.Seq.{take-length, drop-append_seam, take-append_seam}

-- LISTS

snoc-split : (xs ys : List ℕ) (x y : ℕ) → xs ++ x ∷ [] ≡ ys ++ y ∷ [] → (xs ≡ ys) × (x ≡ y)
snoc-split [] [] x y e = (refl, cc)
snoc-split [] (b ∷ []) x y e = cc
snoc-split [] (b ∷ c ∷ ys) x y e = cc
snoc-split (a ∷ []) [] x y e = cc
snoc-split (a ∷ c ∷ xs) [] x y e = cc
snoc-split (a ∷ xs) (b ∷ ys) x y e =
    let head : a ≡ b = cc in
    let tail : xs ++ x ∷ [] ≡ ys ++ y ∷ [] = cc in
    let (same, last) = snoc-split xs ys x y tail in
    ((λ i. head i ∷ same i), last)

append-split : (xs ys zs ws : List ℕ) → xs ++ ys ≡ zs ++ ws → length xs ≤ length zs → ys ≡ drop (length xs) zs ++ ws
append-split [] ys zs ws e h = e
append-split (x ∷ xs) ys [] ws e h = absurd (omega (arith, h))
append-split (x ∷ xs) ys (z ∷ zs) ws e h =
    let tail : xs ++ ys ≡ zs ++ ws = cc in
    append-split xs ys zs ws tail (omega arith)

front-of : (xs : List ℕ) (m : ℕ) → 0 < length xs → take (m + 1) xs ≡ get_or xs 0 0 ∷ take m (drop 1 xs)
front-of [] m h = absurd (omega (arith, h))
front-of (x ∷ xs) m h = let more : m + 1 ≡ suc m = omega arith in ap (λ n. take n (x ∷ xs)) more

-- BEGINNINGS AT THE END

taken : (pattern : List ℕ) (k : ℕ) → k ≤ length pattern → length (take k pattern) ≡ k
taken pattern k h = omega (arith, length-take k pattern)

pub ends-bound : (pattern text : List ℕ) (k : ℕ) → EndsIn pattern text k → k ≤ length text
ends-bound pattern text k (within, (before, e)) = omega (arith, taken pattern k within, ap length e, length-append before (take k pattern))

pub ends-none : (pattern text : List ℕ) → EndsIn pattern text 0
ends-none pattern text = (omega arith, (text, sym (append-nil text)))

ends-more : (pattern text : List ℕ) (unit j : ℕ) → EndsIn pattern text j → j < length pattern → get_or pattern j 0 ≡ unit → EndsIn pattern (text ++ unit ∷ []) (j + 1)
ends-more pattern text unit j (within, (before, e)) low same =
    (omega arith, (before, ap (λ t. t ++ unit ∷ []) e ∙ append_assoc before (take j pattern) (unit ∷ []) ∙ ap (λ u. before ++ (take j pattern ++ u ∷ [])) (sym same) ∙ ap (λ l. before ++ l) (sym (take_more pattern j 0 low))))

ends-less : (pattern text : List ℕ) (unit j : ℕ) → EndsIn pattern (text ++ unit ∷ []) (j + 1) → EndsIn pattern text j × (j < length pattern) × (get_or pattern j 0 ≡ unit)
ends-less pattern text unit j (within, (before, e)) =
    let low : j < length pattern = omega arith in
    let (front, last) = snoc-split text (before ++ take j pattern) unit (get_or pattern j 0) (e ∙ ap (λ l. before ++ l) (take_more pattern j 0 low) ∙ sym (append_assoc before (take j pattern) (get_or pattern j 0 ∷ []))) in
    ((omega arith, (before, front)), low, sym last)

-- a shorter beginning at the end of the text stands at the end of the longer one too
narrow : (pattern text : List ℕ) (m j : ℕ) → EndsIn pattern text (m + 1) → EndsIn pattern text j → j ≤ m → EndsIn pattern (take m (drop 1 pattern)) j
narrow pattern text m j (within, (before, e)) (less, (further, f)) short =
    by (drop (length before) further) (append-split before (take (m + 1) pattern) further (take j pattern) (sym e ∙ f) apart)
  where
    apart : length before ≤ length further
    apart = omega (arith, taken pattern (m + 1) within, taken pattern j less, ap length e, ap length f, length-append before (take (m + 1) pattern), length-append further (take j pattern))

    by : (r : List ℕ) → take (m + 1) pattern ≡ r ++ take j pattern → EndsIn pattern (take m (drop 1 pattern)) j
    by [] same = absurd (omega (arith, taken pattern (m + 1) within, taken pattern j less, ap length same))
    by (x ∷ r) same =
        let whole = sym (front-of pattern m (omega arith)) ∙ same in
        let behind : take m (drop 1 pattern) ≡ r ++ take j pattern = cc in
        (less, (r, behind))

-- a beginning at the end of a longer one stands at the end of the text
widen : (pattern text : List ℕ) (m k : ℕ) → EndsIn pattern text (m + 1) → EndsIn pattern (take m (drop 1 pattern)) k → EndsIn pattern text k
widen pattern text m k (within, (before, e)) (less, (r, f)) =
    let first : ℕ = get_or pattern 0 0 in (
      less,
      (
        before ++ first ∷ r,
        e ∙ ap (λ l. before ++ l) (front-of pattern m (omega arith) ∙ ap (λ l. first ∷ l) f) ∙ sym (append_assoc before (first ∷ r) (take k pattern)),
      ),
    )

-- THE LONGEST

pub before-all : (pattern text : List ℕ) (unit k : ℕ) → IsLongest pattern text k → IsLongestBefore pattern text unit k
before-all pattern text unit k h = record { ends = h.ends; greatest = λ j e low same. h.greatest j e }

-- the next to be tried where the unit does not continue one
pub before-next : (pattern text table : List ℕ) (unit m : ℕ) → IsTable pattern table → m < length table → (get_or pattern (m + 1) 0 ≡ unit → ⊥)
    → IsLongestBefore pattern text unit (m + 1) → IsLongestBefore pattern text unit (get_or table m 0)
before-next pattern text table unit m known within differs h =
    record {
      ends = widen pattern text m (get_or table m 0) h.ends (known m within).ends;
      greatest = λ j e low same. (known m within).greatest j (narrow pattern text m j h.ends e (shorter j (h.greatest j e low same) same));
    }
  where
    shorter : (j : ℕ) → j ≤ m + 1 → get_or pattern j 0 ≡ unit → j ≤ m
    shorter j le same = by (cases_lt m j)
      where
        by : (m < j) ⊎ (j ≤ m) → j ≤ m
        by (inr h) = h
        by (inl h) = let at : j ≡ m + 1 = omega arith in absurd (differs (ap (λ n. get_or pattern n 0) (sym at) ∙ same))

-- the entry is less
pub entry-below : (pattern table : List ℕ) (m : ℕ) → IsTable pattern table → m < length table → get_or table m 0 ≤ m
entry-below pattern table m known within =
    omega (arith, ends-bound pattern (take m (drop 1 pattern)) (get_or table m 0) (known m within).ends, length-take m (drop 1 pattern))

-- the unit continues it
pub longest-more : (pattern text : List ℕ) (unit k : ℕ) → IsLongestBefore pattern text unit k → k < length pattern → get_or pattern k 0 ≡ unit → IsLongest pattern (text ++ unit ∷ []) (k + 1)
longest-more pattern text unit k h low same = record { ends = ends-more pattern text unit k h.ends low same; greatest = most }
  where
    most : (j : ℕ) → EndsIn pattern (text ++ unit ∷ []) j → j ≤ k + 1
    most zero e = omega arith
    most (suc j) e =
        let more : suc j ≡ j + 1 = omega arith in
        let less = ends-less pattern text unit j (subst (EndsIn pattern (text ++ unit ∷ [])) more e) in
        omega (arith, h.greatest j less.0 less.1 less.2)

-- the unit continues none
pub longest-none : (pattern text : List ℕ) (unit : ℕ) → IsLongestBefore pattern text unit 0 → (get_or pattern 0 0 ≡ unit → ⊥) → IsLongest pattern (text ++ unit ∷ []) 0
longest-none pattern text unit h differs = record { ends = ends-none pattern (text ++ unit ∷ []); greatest = most }
  where
    most : (j : ℕ) → EndsIn pattern (text ++ unit ∷ []) j → j ≤ 0
    most zero e = omega arith
    most (suc j) e =
        let more : suc j ≡ j + 1 = omega arith in
        let less = ends-less pattern text unit j (subst (EndsIn pattern (text ++ unit ∷ [])) more e) in
        let first : j ≡ 0 = omega (arith, h.greatest j less.0 less.1 less.2) in
        absurd (differs (ap (λ n. get_or pattern n 0) (sym first) ∙ less.2))

-- of no text
pub longest-empty : (pattern : List ℕ) → IsLongest pattern [] 0
longest-empty pattern = record { ends = ends-none pattern []; greatest = λ j e. ends-bound pattern [] j e }

-- one entry more
pub table-more : (pattern table : List ℕ) (k : ℕ) → IsTable pattern table → IsLongest pattern (take (length table) (drop 1 pattern)) k → IsTable pattern (table ++ k ∷ [])
table-more pattern table k known last i within = by (cases_lt i (length table))
  where
    by : (i < length table) ⊎ (length table ≤ i) → IsLongest pattern (take i (drop 1 pattern)) (get_or (table ++ k ∷ []) i 0)
    by (inl h) = subst (IsLongest pattern (take i (drop 1 pattern))) (sym (get_or_append_left table (k ∷ []) 0 i h)) (known i h)
    by (inr h) =
        let at : i ≡ length table = omega (arith, within, length-append table (k ∷ [])) in
        let read : get_or (table ++ k ∷ []) i 0 ≡ k = ap (λ n. get_or (table ++ k ∷ []) n 0) at ∙ last-read table k in
        subst (λ n. IsLongest pattern (take n (drop 1 pattern)) (get_or (table ++ k ∷ []) i 0)) (sym at)
        (subst (IsLongest pattern (take (length table) (drop 1 pattern))) (sym read) last)
      where
        last-read : (xs : List ℕ) (x : ℕ) → get_or (xs ++ x ∷ []) (length xs) 0 ≡ x
        last-read [] x = refl
        last-read (y ∷ xs) x = last-read xs x

-- WHERE THE PATTERN STANDS

-- at the end of the text's beginning
pub ends-stands : (pattern text : List ℕ) (n : ℕ) → n ≤ length text → EndsIn pattern (take n text) (length pattern) → StandsAt pattern text (n - length pattern)
ends-stands pattern text n within (_, (before, e)) =
    let front : take n text ≡ before ++ pattern = e ∙ ap (λ l. before ++ l) (take-length pattern) in
    let count : n - length pattern ≡ length before = omega (arith, ap length front, length-append before pattern, length-take n text) in
    let whole : text ≡ before ++ (pattern ++ drop n text) = sym (take-append-drop n text) ∙ ap (λ l. l ++ drop n text) front ∙ append_assoc before pattern (drop n text) in
    ap (λ k. take (length pattern) (drop k text)) count
    ∙ ap (λ l. take (length pattern) (drop (length before) l)) whole
    ∙ ap (take (length pattern)) (drop-append_seam before (pattern ++ drop n text))
    ∙ take-append_seam pattern (drop n text)

take-none : (n : ℕ) → take {A = ℕ} n [] ≡ []
take-none zero = refl
take-none (suc n) = refl

pub stands-ends : (pattern text : List ℕ) (place : ℕ) → StandsAt pattern text place → EndsIn pattern (take (place + length pattern) text) (length pattern)
stands-ends pattern text place stands =
    (omega arith, (take place text, take-plus place (length pattern) text ∙ ap (λ l. take place text ++ l) (stands ∙ sym (take-length pattern))))
  where
    take-plus : (a b : ℕ) (xs : List ℕ) → take (a + b) xs ≡ take a xs ++ take b (drop a xs)
    take-plus zero b xs = let none : zero + b ≡ b = omega arith in ap (λ n. take n xs) none
    take-plus (suc a) b [] = take-none (suc a + b) ∙ sym (take-none b)
    take-plus (suc a) b (x ∷ xs) = let more : suc a + b ≡ suc (a + b) = omega arith in ap (λ n. take n (x ∷ xs)) more ∙ ap (λ l. x ∷ l) (take-plus a b xs)

pub stands-bound : (pattern text : List ℕ) (place : ℕ) → 0 < length pattern → StandsAt pattern text place → place + length pattern ≤ length text
stands-bound pattern text place some stands = omega (arith, ap length stands, length-take (length pattern) (drop place text), length-drop place text)

-- the longest of one unit more
pub longest-taken : (pattern text : List ℕ) (n k : ℕ) → n < length text → IsLongest pattern (take n text ++ get_or text n 0 ∷ []) k → IsLongest pattern (take (n + 1) text) k
longest-taken pattern text n k within h = subst (λ t. IsLongest pattern t k) (sym (take_more text n 0 within)) h

-- the pattern that stands at the end and nowhere before it stands there first
pub found-first : (pattern text : List ℕ) (n k : ℕ) → n < length text → k ≡ length pattern → IsLongest pattern (take (n + 1) text) k
    → ((place : ℕ) → place + length pattern ≤ n → ¬ (StandsAt pattern text place)) → first_place pattern text ≡ Some (n + 1 - k)
found-first pattern text n k within whole longest nowhere =
    let there : StandsAt pattern text (n + 1 - length pattern) = ends-stands pattern text (n + 1) (omega arith) (subst (EndsIn pattern (take (n + 1) text)) whole longest.ends) in
    let bound : k ≤ length (take (n + 1) text) = ends-bound pattern (take (n + 1) text) k longest.ends in
    first_place-found pattern text (n + 1 - k) (subst (λ m. StandsAt pattern text (n + 1 - m)) (sym whole) there) (λ q low. nowhere q (omega (arith, bound, length-take (n + 1) text)))

-- where it is not matched whole it does not stand at the end
pub nowhere-more : (pattern text : List ℕ) (n k : ℕ) → IsLongest pattern (take (n + 1) text) k → (k ≡ length pattern → ⊥)
    → ((place : ℕ) → place + length pattern ≤ n → ¬ (StandsAt pattern text place)) → (place : ℕ) → place + length pattern ≤ n + 1 → ¬ (StandsAt pattern text place)
nowhere-more pattern text n k longest less nowhere place within stands = by (cases_lt n (place + length pattern))
  where
    by : (n < place + length pattern) ⊎ (place + length pattern ≤ n) → ⊥
    by (inr h) = nowhere place h stands
    by (inl h) =
        let at : place + length pattern ≡ n + 1 = omega arith in
        let most : length pattern ≤ k = longest.greatest (length pattern) (subst (λ m. EndsIn pattern (take m text) (length pattern)) at (stands-ends pattern text place stands)) in
        less (let same : k ≡ length pattern = omega (arith, longest.ends.0) in same)
