-- What an index of names keeps when names are added and taken away, and what a walk along one of its buckets finds.
use Rattle.std.proofs.Common.{◌≡◌, ◌≢◌, ℕ, ◌+◌, ◌-◌, ◌<◌, ◌≤◌, Bool, true, false, cond, if◌then◌else◌, ◌⊎◌, inl, inr, List, [], ◌∷◌, ◌++◌, length, None, Some, refl, sym, ap, ◌∙◌, subst, arith, nat_lt, replicate}
use Rattle.std.specs.Prelude.{remove, slice_index, slice_set}
use Rattle.std.specs.List.{position_or_len}
use lib.Pointwise.{bytes_decides}
use Rattle.std.proofs.lemmas.Bool.{cases_Bool, cases_eq, cases_lt, cases_order}
use Rattle.std.proofs.lemmas.Bool.Decides.{nat_tests}
use Rattle.std.proofs.lemmas.List.Sums.{position_or_len_is}
use Rattle.std.proofs.lemmas.List.Edits.{get_or-remove_above, get_or-remove_below, length-remove}
use Rattle.std.proofs.lemmas.List.{get_or-replicate, get_or-set_other, get_or-set_same, get_or_append_left, get_or_at, length-append, length-replicate, length-set}
use Rattle.rip_base.specs.declared.value.Span.{Span}
use Rattle.rip_base.specs.declared.value.Value.TheVariants.{Undefined}
use Rattle.rip_values.specs.Pool.{Texts, IsSpan, KeepsTexts, text_at}
use Rattle.rip_heap_region.specs.declared.pages.property.Property.{Property}
use Rattle.rip_heap_region.specs.Names.{same_text, place_of}
use Rattle.rip_heap_region.specs.NameIndex.{bucket_of, bucket_at, name_at, IsIndex, IsLast}

-- WHAT STAYS

IsLast-like : (f g : ℕ → ℕ) (b c to v w : ℕ) → c ≡ b → w ≡ v → ((k : ℕ) → k < to → g k ≡ f k) → IsLast f b to v → IsLast g c to w
IsLast-like f g b c to v w same-bucket same-place same h = record {
  within = omega (arith, h.within, same-place);
  apart = λ k low high is. h.apart k (omega (arith, low, same-place)) high (sym (same k high) ∙ is ∙ same-bucket);
  last = λ some.
      let place : w - 1 ≡ v - 1 = omega (arith, same-place) in
      let below : v - 1 < to = omega (arith, some, same-place, h.within) in
      ap g place ∙ same (v - 1) below ∙ h.last (omega (arith, some, same-place)) ∙ sym same-bucket;
}

-- other properties with the same names, as texts, have the same index
pub index_like : (p q : Texts) (ps qs : List Property) (buckets before : List ℕ) → length qs ≡ length ps
    → ((k : ℕ) → k < length ps → text_at q (name_at qs k) ≡ text_at p (name_at ps k))
    → ((k : ℕ) → k < length ps → IsSpan q (name_at qs k))
    → IsIndex p ps buckets before → IsIndex q qs buckets before
index_like p q ps qs buckets before size same spans h =
    let f = bucket_at p (length buckets) ps in
    let g = bucket_at q (length buckets) qs in
    let alike : (k : ℕ) → k < length ps → g k ≡ f k = λ k lt. ap (bucket_of (length buckets)) (same k lt) in
    record {
      some = h.some;
      spans = λ k lt. spans k (omega (arith, lt, size));
      all = h.all ∙ sym size;
      heads = λ b lt. subst (λ n. IsLast g b n (slice_index buckets b)) (sym size)
          (IsLast-like f g b b (length ps) (slice_index buckets b) (slice_index buckets b) refl refl alike (h.heads b lt));
      links = λ i lt.
          let below : i < length ps = omega (arith, lt, size) in
          IsLast-like f g (f i) (g i) i (slice_index before i) (slice_index before i) (alike i below) refl
          (λ k low. alike k (omega (arith, low, below))) (h.links i below);
    }

-- texts are only added
pub index_grows : (p q : Texts) (ps : List Property) (buckets before : List ℕ) → KeepsTexts p q → length p.units ≤ length q.units
    → IsIndex p ps buckets before → IsIndex q ps buckets before
index_grows p q ps buckets before keeps longer h =
    index_like p q ps ps buckets before refl
    (λ k lt. keeps (name_at ps k) (h.spans k lt))
    (λ k lt. let lies : (name_at ps k).start + (name_at ps k).count ≤ length p.units = h.spans k lt in omega (arith, lies, longer)) h

-- WHAT IS MADE

-- buckets with nothing in them
pub empty_index : (p : Texts) (buckets before : List ℕ) (n : ℕ) → 0 < n → buckets ≡ replicate n 0 → before ≡ [] → IsIndex p [] buckets before
empty_index p buckets before n some is none =
    let size : length buckets ≡ n = ap length is ∙ length-replicate n 0 in
    record {
      some = omega (arith, size, some);
      spans = λ k lt. absurd (omega (arith, lt));
      all = ap length none;
      heads = λ b lt.
          let zero-there : slice_index buckets b ≡ 0 = ap (λ xs. slice_index xs b) is ∙ get_or-replicate n b 0 0 (omega (arith, lt, size)) in
          record {
            within = omega (arith, zero-there);
            apart = λ k low high. absurd (omega (arith, high));
            last = λ more. absurd (omega (arith, more, zero-there));
          };
      links = λ i lt. absurd (omega (arith, lt));
    }

-- one name more is the last of its bucket, and has the one that was the last before it
pub index_added : (p : Texts) (ps : List Property) (x : Property) (buckets before buckets' before' : List ℕ) (b : ℕ) → IsIndex p ps buckets before → IsSpan p x.name
    → b ≡ bucket_of (length buckets) (text_at p x.name) → b < length buckets
    → buckets' ≡ slice_set buckets b (length ps + 1) → before' ≡ before ++ slice_index buckets b ∷ []
    → IsIndex p (ps ++ x ∷ []) buckets' before'
index_added p ps x buckets before buckets' before' b h lies is-bucket within is-buckets is-before =
    subst (λ r. IsIndex p (ps ++ x ∷ []) r before') (sym is-buckets) (subst (λ r. IsIndex p (ps ++ x ∷ []) (slice_set buckets b (length ps + 1)) r) (sym is-before) made)
  where
    none : Property
    none = record { name = record { start = 0; count = 0 }; value = Undefined }

    m : ℕ
    m = length ps

    f : ℕ → ℕ
    f = bucket_at p (length buckets) ps

    g : ℕ → ℕ
    g = bucket_at p (length buckets) (ps ++ x ∷ [])

    size : length (ps ++ x ∷ []) ≡ length ps + 1
    size = length-append ps (x ∷ [])

    older : (k : ℕ) → k < length ps → g k ≡ f k
    older k lt = ap (λ y. bucket_of (length buckets) (text_at p y.name)) (get_or_append_left ps (x ∷ []) none k lt)

    newest : g (length ps) ≡ b
    newest = ap (λ y. bucket_of (length buckets) (text_at p y.name)) (get_or_at ps x [] none (length ps) refl) ∙ sym is-bucket

    by-place : (k : ℕ) → k < length ps + 1 → (k < length ps) ⊎ (k ≡ length ps)
    by-place k lt = search arith

    span-at : (k : ℕ) → (k < length ps) ⊎ (k ≡ length ps) → IsSpan p (name_at (ps ++ x ∷ []) k)
    span-at k (inl lt) = subst (λ y. IsSpan p y.name) (sym (get_or_append_left ps (x ∷ []) none k lt)) (h.spans k lt)
    span-at k (inr is) = subst (λ y. IsSpan p y.name) (sym (get_or_at ps x [] none k (sym is))) lies

    spans : (k : ℕ) → k < length ps + 1 → IsSpan p (name_at (ps ++ x ∷ []) k)
    spans k lt = span-at k (by-place k lt)

    apart : (c : ℕ) → c ≢ b → (v : ℕ) → IsLast f c (length ps) v → (k : ℕ) → v ≤ k → (k < length ps) ⊎ (k ≡ length ps) → g k ≢ c
    apart c other v last k low (inl lt) = λ is. last.apart k low lt (sym (older k lt) ∙ is)
    apart c other v last k low (inr here) = λ is. other (sym is ∙ ap g here ∙ newest)

    head : (c : ℕ) → c < length buckets → (c ≡ b) ⊎ (c ≢ b) → IsLast g c (length ps + 1) (slice_index (slice_set buckets b (length ps + 1)) c)
    head c lt (inl is) =
        let there : slice_index (slice_set buckets b (length ps + 1)) c ≡ length ps + 1 = ap (slice_index (slice_set buckets b (length ps + 1))) is ∙ get_or-set_same buckets b (length ps + 1) 0 within in
        subst (IsLast g c (length ps + 1)) (sym there) (record {
          within = omega arith;
          apart = λ k low high. absurd (omega (arith, low, high));
          last = λ some. let place : length ps + 1 - 1 ≡ length ps = omega arith in ap g place ∙ newest ∙ sym is;
        })
    head c lt (inr other) =
        let last = h.heads c lt in
        subst (IsLast g c (length ps + 1)) (sym (get_or-set_other buckets b c (length ps + 1) 0 other)) (record {
          within = omega (arith, last.within);
          apart = λ k low high. apart c other (slice_index buckets c) last k low (by-place k high);
          last = λ some.
              let below : slice_index buckets c - 1 < length ps = omega (arith, some, last.within) in
              older (slice_index buckets c - 1) below ∙ last.last some;
        })

    link : (i : ℕ) → (i < length ps) ⊎ (i ≡ length ps) → IsLast g (g i) i (slice_index (before ++ slice_index buckets b ∷ []) i)
    link i (inl lt) =
        let there : i < length before = omega (arith, lt, h.all) in
        IsLast-like f g (f i) (g i) i (slice_index before i) _ (older i lt) (get_or_append_left before (slice_index buckets b ∷ []) 0 i there)
        (λ k low. older k (omega (arith, low, lt))) (h.links i lt)
    link i (inr is) =
        subst (λ n. IsLast g (g n) n (slice_index (before ++ slice_index buckets b ∷ []) n)) (sym is)
        (IsLast-like f g b (g (length ps)) (length ps) (slice_index buckets b) _ newest (get_or_at before (slice_index buckets b) [] 0 (length ps) h.all) older (h.heads b within))

    made : IsIndex p (ps ++ x ∷ []) (slice_set buckets b (length ps + 1)) (before ++ slice_index buckets b ∷ [])
    made = record {
      some = omega (arith, h.some, length-set buckets b (m + 1));
      spans = λ k lt. spans k (omega (arith, lt, length-append ps (x ∷ [])));
      all = omega (arith, h.all, length-append before (slice_index buckets b ∷ []), length-append ps (x ∷ []));
      heads = λ c lt. subst (λ n. IsLast (bucket_at p n (ps ++ x ∷ [])) c (length (ps ++ x ∷ [])) (slice_index (slice_set buckets b (m + 1)) c)) (sym (length-set buckets b (m + 1)))
          (subst (λ n. IsLast g c n (slice_index (slice_set buckets b (m + 1)) c)) (sym size) (head c (omega (arith, lt, length-set buckets b (m + 1))) (cases_eq c b)));
      links = λ i lt. subst (λ n. IsLast (bucket_at p n (ps ++ x ∷ [])) (bucket_at p n (ps ++ x ∷ []) i) i (slice_index (before ++ slice_index buckets b ∷ []) i)) (sym (length-set buckets b (m + 1)))
          (link i (by-place i (omega (arith, lt, size))));
    }

-- WHAT IS TAKEN AWAY

-- where a number is left: those behind the one that is gone are one less, and the one before it in its bucket stands for
-- it; `gone` and `link` are how many there are up to and with each
abbrev pub shifted : ℕ → ℕ → ℕ → ℕ
shifted gone link v = if nat_lt v gone then v else if nat_lt gone v then v - 1 else link

pub shifted-low : (gone link v : ℕ) → v < gone → shifted gone link v ≡ v
shifted-low gone link v lt =
    let test : nat_lt v gone ≡ true = grind (arith, nat_tests) in
    ap (λ b. cond b v (cond (nat_lt gone v) (v - 1) link)) test

pub shifted-here : (gone link v : ℕ) → v ≡ gone → shifted gone link v ≡ link
shifted-here gone link v is =
    let low : nat_lt v gone ≡ false = grind (arith, nat_tests) in
    let high : nat_lt gone v ≡ false = grind (arith, nat_tests) in
    ap (λ b. cond b v (cond (nat_lt gone v) (v - 1) link)) low ∙ ap (λ b. cond b (v - 1) link) high

pub shifted-high : (gone link v : ℕ) → gone < v → shifted gone link v ≡ v - 1
shifted-high gone link v lt =
    let low : nat_lt v gone ≡ false = grind (arith, nat_tests) in
    let high : nat_lt gone v ≡ true = grind (arith, nat_tests) in
    ap (λ b. cond b v (cond (nat_lt gone v) (v - 1) link)) low ∙ ap (λ b. cond b (v - 1) link) high

-- of the places before the one that is gone
IsLast-below : (f g : ℕ → ℕ) (place b to v link : ℕ) → ((k : ℕ) → k < place → g k ≡ f k) → to ≤ place → IsLast f b to v → IsLast g b to (shifted (place + 1) link v)
IsLast-below f g place b to v link below le h =
    IsLast-like f g b b to v (shifted (place + 1) link v) refl (shifted-low (place + 1) link v (omega (arith, h.within, le))) (λ k lt. below k (omega (arith, lt, le))) h

-- of places behind it too
IsLast-above : (f g : ℕ → ℕ) (place b to v link : ℕ) → ((k : ℕ) → k < place → g k ≡ f k) → ((k : ℕ) → place ≤ k → g k ≡ f (k + 1)) → place < to
    → IsLast f (f place) place link → IsLast f b to v → IsLast g b (to - 1) (shifted (place + 1) link v)
IsLast-above f g place b to v link below above lt l h = by (cases_order v (place + 1))
  where
    behind : (k : ℕ) → place ≤ k → v ≤ k + 1 → k < to - 1 → g k ≢ b
    behind k le low high = λ is. h.apart (k + 1) low (omega (arith, high)) (sym (above k le) ∙ is)

    by : (v ≡ place + 1) ⊎ ((v < place + 1) ⊎ (place + 1 < v)) → IsLast g b (to - 1) (shifted (place + 1) link v)
    by (inl is) =
        let place-is : v - 1 ≡ place = omega (arith, is) in
        let bucket : f place ≡ b = ap f (sym place-is) ∙ h.last (omega (arith, is)) in
        subst (IsLast g b (to - 1)) (sym (shifted-here (place + 1) link v is)) (record {
          within = omega (arith, l.within, lt);
          apart = λ k low high. apart bucket k low high (cases_lt k place);
          last = λ some. below (link - 1) (omega (arith, l.within, some)) ∙ l.last some ∙ bucket;
        })
      where
        apart : f place ≡ b → (k : ℕ) → link ≤ k → k < to - 1 → (k < place) ⊎ (place ≤ k) → g k ≢ b
        apart bucket k low high (inl less) = λ same. l.apart k low less (sym (below k less) ∙ same ∙ sym bucket)
        apart bucket k low high (inr le) = behind k le (omega (arith, is, le)) high
    by (inr (inl less)) =
        subst (IsLast g b (to - 1)) (sym (shifted-low (place + 1) link v less)) (record {
          within = omega (arith, less, lt);
          apart = λ k low high. apart k low high (cases_lt k place);
          last = λ some. below (v - 1) (omega (arith, less, some)) ∙ h.last some;
        })
      where
        apart : (k : ℕ) → v ≤ k → k < to - 1 → (k < place) ⊎ (place ≤ k) → g k ≢ b
        apart k low high (inl lower) = λ same. h.apart k low (omega (arith, high)) (sym (below k lower) ∙ same)
        apart k low high (inr le) = behind k le (omega (arith, low)) high
    by (inr (inr more)) =
        let one : v - 1 - 1 + 1 ≡ v - 1 = omega (arith, more) in
        subst (IsLast g b (to - 1)) (sym (shifted-high (place + 1) link v more)) (record {
          within = omega (arith, h.within);
          apart = λ k low high. behind k (omega (arith, more, low)) (omega (arith, low)) high;
          last = λ some. above (v - 1 - 1) (omega (arith, more)) ∙ ap f one ∙ h.last (omega (arith, more));
        })

-- one property less, behind which each place is one less
pub index_removed : (p : Texts) (ps : List Property) (buckets before buckets' before' : List ℕ) (place : ℕ) → IsIndex p ps buckets before → place < length ps
    → length buckets' ≡ length buckets → ((k : ℕ) → k < length buckets → slice_index buckets' k ≡ shifted (place + 1) (slice_index before place) (slice_index buckets k))
    → length before' ≡ length (remove before place)
    → ((k : ℕ) → k < length (remove before place) → slice_index before' k ≡ shifted (place + 1) (slice_index before place) (slice_index (remove before place) k))
    → IsIndex p (remove ps place) buckets' before'
index_removed p ps buckets before buckets' before' place h within size each size' each' = record {
  some = omega (arith, h.some, size);
  spans = λ k lt. span k (omega (arith, lt, less)) (cases_lt k place);
  all = omega (arith, size', less', less, h.all);
  heads = λ b lt.
      let low : b < length buckets = omega (arith, lt, size) in
      subst (λ n. IsLast (bucket_at p n (remove ps place)) b (length (remove ps place)) (slice_index buckets' b)) (sym size)
      (subst (IsLast g b (length (remove ps place))) (sym (each b low)) (subst (λ n. IsLast g b n (shifted (place + 1) link (slice_index buckets b))) end
      (IsLast-above f g place b (length ps) (slice_index buckets b) link below above within last (h.heads b low))));
  links = λ i lt.
      subst (λ n. IsLast (bucket_at p n (remove ps place)) (bucket_at p n (remove ps place) i) i (slice_index before' i)) (sym size)
      (subst (IsLast g (g i) i) (sym (each' i (omega (arith, lt, less, less', h.all)))) (linked i (omega (arith, lt, less)) (cases_lt i place)));
}
  where
    none : Property
    none = record { name = record { start = 0; count = 0 }; value = Undefined }

    link : ℕ
    link = slice_index before place

    f : ℕ → ℕ
    f = bucket_at p (length buckets) ps

    g : ℕ → ℕ
    g = bucket_at p (length buckets) (remove ps place)

    less : length (remove ps place) + 1 ≡ length ps
    less = length-remove ps place within

    less' : length (remove before place) + 1 ≡ length before
    less' = length-remove before place (omega (arith, within, h.all))

    end : length ps - 1 ≡ length (remove ps place)
    end = omega (arith, less)

    below : (k : ℕ) → k < place → g k ≡ f k
    below k lt = ap (λ y. bucket_of (length buckets) (text_at p y.name)) (get_or-remove_below ps place none k lt within)

    above : (k : ℕ) → place ≤ k → g k ≡ f (k + 1)
    above k le = ap (λ y. bucket_of (length buckets) (text_at p y.name)) (get_or-remove_above ps place none k le within)

    last : IsLast f (f place) place link
    last = h.links place within

    span : (k : ℕ) → k + 1 < length ps → (k < place) ⊎ (place ≤ k) → IsSpan p (name_at (remove ps place) k)
    span k lt (inl low) = subst (λ y. IsSpan p y.name) (sym (get_or-remove_below ps place none k low within)) (h.spans k (omega (arith, lt)))
    span k lt (inr le) = subst (λ y. IsSpan p y.name) (sym (get_or-remove_above ps place none k le within)) (h.spans (k + 1) lt)

    linked : (i : ℕ) → i + 1 < length ps → (i < place) ⊎ (place ≤ i) → IsLast g (g i) i (shifted (place + 1) link (slice_index (remove before place) i))
    linked i lt (inl low) =
        let there : slice_index (remove before place) i ≡ slice_index before i = get_or-remove_below before place 0 i low (omega (arith, within, h.all)) in
        subst (λ n. IsLast g (g i) i (shifted (place + 1) link n)) (sym there)
        (subst (λ b. IsLast g b i (shifted (place + 1) link (slice_index before i))) (sym (below i low))
        (IsLast-below f g place (f i) i (slice_index before i) link below (omega (arith, low)) (h.links i (omega (arith, lt)))))
    linked i lt (inr le) =
        let there : slice_index (remove before place) i ≡ slice_index before (i + 1) = get_or-remove_above before place 0 i le (omega (arith, within, h.all)) in
        let one : i + 1 - 1 ≡ i = omega arith in
        subst (λ n. IsLast g (g i) i (shifted (place + 1) link n)) (sym there)
        (subst (λ b. IsLast g b i (shifted (place + 1) link (slice_index before (i + 1)))) (sym (above i le))
        (subst (λ n. IsLast g (f (i + 1)) n (shifted (place + 1) link (slice_index before (i + 1)))) one
        (IsLast-above f g place (f (i + 1)) (i + 1) (slice_index before (i + 1)) link below above (omega (arith, le)) last (h.links (i + 1) lt))))

-- A WALK ALONG A BUCKET

-- what a walk downwards along the bucket b found of the n places: `found` is the first at or behind `left` that passes,
-- or n
pub record Walked (t : ℕ → Bool) (f : ℕ → ℕ) (b n left found : ℕ) : Type 0 where
  pub within : left ≤ n
  pub ends : found ≤ n
  pub none : (k : ℕ) → left ≤ k → k < found → t k ≡ false
  pub here : found < n → t found ≡ true
  pub chain : 0 < left → f (left - 1) ≡ b

pub walk_begun : (t : ℕ → Bool) (f : ℕ → ℕ) (b n v : ℕ) → ((k : ℕ) → f k ≢ b → t k ≡ false) → IsLast f b n v → Walked t f b n v n
walk_begun t f b n v others last = record {
  within = last.within;
  ends = omega arith;
  none = λ k low high. others k (last.apart k low high);
  here = λ lt. absurd (omega (arith, lt));
  chain = last.last;
}

-- no place between the next one of the bucket and this one passes
between : (t : ℕ → Bool) (f : ℕ → ℕ) (b n left v found : ℕ) → ((k : ℕ) → f k ≢ b → t k ≡ false) → 0 < left → Walked t f b n left found → IsLast f (f (left - 1)) (left - 1) v
    → (k : ℕ) → v ≤ k → k < left - 1 → t k ≡ false
between t f b n left v found others more w link k low high = others k (λ is. link.apart k low high (is ∙ sym (w.chain more)))

pub walk_found : (t : ℕ → Bool) (f : ℕ → ℕ) (b n left v found : ℕ) → ((k : ℕ) → f k ≢ b → t k ≡ false) → 0 < left → Walked t f b n left found → IsLast f (f (left - 1)) (left - 1) v
    → t (left - 1) ≡ true → Walked t f b n v (left - 1)
walk_found t f b n left v found others more w link passes = record {
  within = omega (arith, link.within, w.within);
  ends = omega (arith, w.within);
  none = between t f b n left v found others more w link;
  here = λ lt. passes;
  chain = λ some. link.last some ∙ w.chain more;
}

pub walk_passed : (t : ℕ → Bool) (f : ℕ → ℕ) (b n left v found : ℕ) → ((k : ℕ) → f k ≢ b → t k ≡ false) → 0 < left → Walked t f b n left found → IsLast f (f (left - 1)) (left - 1) v
    → t (left - 1) ≡ false → Walked t f b n v found
walk_passed t f b n left v found others more w link fails = record {
  within = omega (arith, link.within, w.within);
  ends = w.ends;
  none = λ k low high. by k low high (cases_order k (left - 1));
  here = w.here;
  chain = λ some. link.last some ∙ w.chain more;
}
  where
    by : (k : ℕ) → v ≤ k → k < found → (k ≡ left - 1) ⊎ ((k < left - 1) ⊎ (left - 1 < k)) → t k ≡ false
    by k low high (inl is) = ap t is ∙ fails
    by k low high (inr (inl lt)) = between t f b n left v found others more w link k low lt
    by k low high (inr (inr gt)) = w.none k (omega (arith, gt, more)) high

-- the property at a place of another bucket has another name
pub others : (pool : Texts) (name : Span) (n : ℕ) (ps : List Property) (k : ℕ) → bucket_at pool n ps k ≢ bucket_of n (text_at pool name) → same_text pool (name_at ps k) name ≡ false
others pool name n ps k differ = by (cases_Bool (same_text pool (name_at ps k) name))
  where
    by : (same_text pool (name_at ps k) name ≡ true) ⊎ (same_text pool (name_at ps k) name ≡ false) → same_text pool (name_at ps k) name ≡ false
    by (inl is) = absurd (differ (ap (bucket_of n) ((bytes_decides (text_at pool (name_at ps k)) (text_at pool name)).0 is)))
    by (inr e) = e

first-place : (pool : Texts) (name : Span) (ps : List Property) (f : ℕ → ℕ) (b found : ℕ) → Walked (λ k. same_text pool (name_at ps k) name) f b (length ps) 0 found
    → position_or_len (λ property. same_text pool property.name name) ps ≡ found
first-place pool name ps f b found w =
    position_or_len_is (λ property. same_text pool property.name name) ps found (record { name = record { start = 0; count = 0 }; value = Undefined }) w.ends
    (λ k lt. w.none k (omega arith) lt) w.here

-- a walk down to the first place tells the place of the name
pub place_found : (pool : Texts) (name : Span) (ps : List Property) (f : ℕ → ℕ) (b found : ℕ) → Walked (λ k. same_text pool (name_at ps k) name) f b (length ps) 0 found
    → found < length ps → place_of pool name ps ≡ Some found
place_found pool name ps f b found w lt =
    let test : nat_lt found (length ps) ≡ true = grind (arith, nat_tests) in
    ap (λ n. cond (nat_lt n (length ps)) (Some n) None) (first-place pool name ps f b found w) ∙ ap (λ t. cond t (Some found) None) test

pub place_none : (pool : Texts) (name : Span) (ps : List Property) (f : ℕ → ℕ) (b found : ℕ) → Walked (λ k. same_text pool (name_at ps k) name) f b (length ps) 0 found
    → length ps ≤ found → place_of pool name ps ≡ None
place_none pool name ps f b found w le =
    let test : nat_lt found (length ps) ≡ false = grind (arith, nat_tests) in
    ap (λ n. cond (nat_lt n (length ps)) (Some n) None) (first-place pool name ps f b found w) ∙ ap (λ t. cond t (Some found) None) test
