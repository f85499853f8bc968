-- The conversions of all values, and the text that is joined.
use Rattle.std.proofs.Common.{◌≡◌, ℕ, zero, suc, ◌+◌, ◌-◌, ◌<◌, ◌≤◌, ◌⊎◌, inl, inr, Bool, true, false, cond, List, [], ◌∷◌, ◌++◌, length, take, drop, min, ℤ, None, Some, Result, Ok, Err, refl, sym, ap, ◌∙◌, subst, arith, nat_le, map, append_assoc, append-nil, length-append, slice_range}
use Rattle.std.proofs.lemmas.Bool.Decides.{nat_tests}
use Rattle.std.proofs.lemmas.Grind.{common_steps}
use Rattle.std.proofs.lemmas.List.{drop-take, take-take, take-append-le, length-take}
use Rattle.std.proofs.Math.Seq.{take-length}
use Rattle.std.specs.Fmt.{signed_decimal}
use Rattle.std.specs.List.{flat_map}
use Rattle.rip_base.specs.declared.value.Span.{Span}
use Rattle.rip_base.specs.declared.value.Value.{Value}
use Rattle.rip_base.specs.declared.value.Value.TheVariants.{Undefined, Null, Bool as Boolean, Num, NaN, Text, Object}
use Rattle.rip_base.specs.declared.value.Fault.TheVariants.{TextTooLong}
use Rattle.rip_base.specs.declared.value.Limit.TheVariants.{Units}
use Rattle.rip_values.specs.Pool.{Texts, span_behind, with_text}
use Rattle.rip_heap.specs.declared.outcome.Halt.{Halt}
use Rattle.rip_heap.specs.declared.outcome.Halt.TheVariants.{Fault as HaltFault, Limit as HaltLimit}
use Rattle.rip_heap.specs.declared.outcome.Abrupt.{Abrupt}
use Rattle.rip_heap.specs.Arrays.{elements_at}
use Rattle.rip_heap.specs.Conversions.{text_made, text_of_value}
use Rattle.rip_heap.specs.Growth.{Grows}
use Rattle.rip_heap.specs.Outcome.{Outcome, Gives, Faults, Exceeds, Answers, cause_of_halt, halting, judged, text_or_limit}
use Rattle.rip_heap.specs.Texts.{new_text}
use Rattle.rip_heap.specs.World.{World}
use Rattle.rip_builtins.specs.Joining.{converted, next, all_charged, charged, then_charged, after_all, join_items, joined_by, separator_in, element_in}
use Rattle.rip_builtins.specs.Pieces.{gap, item_at, joined_in, piece_in, piece_of_element, piece_of_separator, with_units}

-- THE CHARGES

-- the world with a numeral
abbrev grown : World → ℤ → World
grown v z = record v { pool = with_text v.pool (signed_decimal z) (length (signed_decimal z)) }

-- what the conversions leave: as many units charged, and the limits as they were
abbrev Leaves : World → Result World Halt → Result ℕ Halt → Type 0
Leaves w (Ok u) (Ok used) = (u.pool.used ≡ used) × (u.pool.limit ≡ w.pool.limit) × (u.pool.text_limit ≡ w.pool.text_limit)
Leaves w (Ok u) (Err halt) = ⊥
Leaves w (Err halt) (Ok used) = ⊥
Leaves w (Err halt) (Err other) = halt ≡ other

all-leave : (w v : World) (used : ℕ) (values : List Value) → v.pool.used ≡ used → v.pool.limit ≡ w.pool.limit → v.pool.text_limit ≡ w.pool.text_limit
    → Leaves w (converted v values) (all_charged w.pool used values)
all-leave w v used [] u l t = (u, l, t)
all-leave w v used (Undefined ∷ rest) u l t = all-leave w v used rest u l t
all-leave w v used (Null ∷ rest) u l t = all-leave w v used rest u l t
all-leave w v used (Boolean true ∷ rest) u l t = all-leave w v used rest u l t
all-leave w v used (Boolean false ∷ rest) u l t = all-leave w v used rest u l t
all-leave w v used (NaN ∷ rest) u l t = all-leave w v used rest u l t
all-leave w v used (Text span ∷ rest) u l t = all-leave w v used rest u l t
all-leave w v used (Object n ∷ rest) u l t = refl
all-leave w v used (Num z ∷ rest) u l t =
    by (all-leave w (grown v z) (used + length (signed_decimal z)) rest (ap (λ n. n + length (signed_decimal z)) u) l t)
    (nat_le (v.pool.used + length (signed_decimal z)) v.pool.limit) (nat_le (used + length (signed_decimal z)) w.pool.limit)
    (nat_le (length (signed_decimal z)) v.pool.text_limit) (nat_le (length (signed_decimal z)) w.pool.text_limit)
    (λ i. nat_le (u i + length (signed_decimal z)) (l i)) (λ i. nat_le (length (signed_decimal z)) (t i))
  where
    made : Bool → Bool → Result Span Halt × World
    made a c = cond c (text_made v (cond a (Some (span_behind v.pool (signed_decimal z), grown v z)) None)) (Err (HaltFault TextTooLong), v)

    count : Bool → Bool → Result ℕ Halt
    count b d = cond d (cond b (Ok (used + length (signed_decimal z))) (Err (HaltLimit Units))) (Err (HaltFault TextTooLong))

    by : Leaves w (converted (grown v z) rest) (all_charged w.pool (used + length (signed_decimal z)) rest) → (a b c d : Bool) → a ≡ b → c ≡ d
        → Leaves w (next (made a c) (λ x. converted x rest)) (then_charged (count b d) (λ more. all_charged w.pool more rest))
    by more true true true true e f = more
    by more false false true true e f = refl
    by more a b false false e f = refl
    by more true false true true e f = cc
    by more false true true true e f = cc
    by more a b true false e f = cc
    by more a b false true e f = cc

charges : (w : World) (values : List Value) → Leaves w (converted w values) (all_charged w.pool w.pool.used values)
charges w values = all-leave w w w.pool.used values refl refl refl

-- THE ELEMENTS

-- the element at a place and those behind it
pub drop-item : (items : List Value) (place : ℕ) → place < length items → drop place items ≡ item_at items place ∷ drop (place + 1) items
drop-item [] place within = absurd (omega (arith, within))
drop-item (v ∷ items) zero within = refl
drop-item (v ∷ items) (suc place) within =
    let more : suc place + 1 ≡ suc (place + 1) = omega arith in
    drop-item items place (omega arith) ∙ ap (λ n. item_at items place ∷ drop n (v ∷ items)) (sym more)

-- one conversion more is charged
pub charged-more : (pool : Texts) (used more : ℕ) (items : List Value) (place : ℕ) (v : Value) → place < length items → v ≡ item_at items place → Ok more ≡ charged pool used v
    → all_charged pool used (drop place items) ≡ all_charged pool more (drop (place + 1) items)
charged-more pool used more items place v within same e =
    ap (all_charged pool used) (drop-item items place within)
    ∙ ap (λ r. then_charged r (λ m. all_charged pool m (drop (place + 1) items))) (sym (e ∙ ap (charged pool used) same))

pub charged-halts : (pool : Texts) (used : ℕ) (halt : Halt) (items : List Value) (place : ℕ) (v : Value) → place < length items → v ≡ item_at items place → Err halt ≡ charged pool used v
    → all_charged pool used (drop place items) ≡ Err halt
charged-halts pool used halt items place v within same e =
    ap (all_charged pool used) (drop-item items place within)
    ∙ ap (λ r. then_charged r (λ m. all_charged pool m (drop (place + 1) items))) (sym (e ∙ ap (charged pool used) same))

-- one value more is made a text
pub converted-more : (w u : World) (span : Span) (items : List Value) (place : ℕ) (v : Value) → place < length items → v ≡ item_at items place → (Ok span, u) ≡ text_of_value w v
    → converted w (drop place items) ≡ converted u (drop (place + 1) items)
converted-more w u span items place v within same e =
    ap (converted w) (drop-item items place within)
    ∙ ap (λ made. next made (λ x. converted x (drop (place + 1) items))) (sym (e ∙ ap (text_of_value w) same))

pub converted-halts : (w u : World) (halt : Halt) (items : List Value) (place : ℕ) (v : Value) → place < length items → v ≡ item_at items place → (Err halt, u) ≡ text_of_value w v
    → converted w (drop place items) ≡ Err halt
converted-halts w u halt items place v within same e =
    ap (converted w) (drop-item items place within)
    ∙ ap (λ made. next made (λ x. converted x (drop (place + 1) items))) (sym (e ∙ ap (text_of_value w) same))

-- they lie in the objects of a world, which no conversion changes
pub same-elements : (w u : World) (n : ℕ) → u.objects ≡ w.objects → elements_at u n ≡ elements_at w n
same-elements w u n e = ap (λ os. elements_at (record w { objects = os }) n) e

pub text-keeps : (w : World) (v : Value) → (text_of_value w v).1.objects ≡ w.objects
text-keeps w Undefined = refl
text-keeps w Null = refl
text-keeps w (Boolean true) = refl
text-keeps w (Boolean false) = refl
text-keeps w NaN = refl
text-keeps w (Text span) = refl
text-keeps w (Object n) = refl
text-keeps w (Num z) = by (nat_le (length (signed_decimal z)) w.pool.text_limit) (nat_le (w.pool.used + length (signed_decimal z)) w.pool.limit)
  where
    by : (a b : Bool)
        → (cond a (text_made w (cond b (Some (span_behind w.pool (signed_decimal z), grown w z)) None)) (Err (HaltFault TextTooLong), w)).1.objects ≡ w.objects
    by true true = refl
    by true false = refl
    by false b = refl

pub converted-keeps : (w u : World) (values : List Value) → converted w values ≡ Ok u → u.objects ≡ w.objects
converted-keeps w u [] e = let same : w ≡ u = cc in ap (λ x. x.objects) (sym same)
converted-keeps w u (v ∷ rest) e = by (text_of_value w v) (λ x. converted-keeps x u rest) (text-keeps w v) e
  where
    by : (made : Result Span Halt × World) → ((x : World) → converted x rest ≡ Ok u → u.objects ≡ x.objects) → made.1.objects ≡ w.objects → next made (λ x. converted x rest) ≡ Ok u → u.objects ≡ w.objects
    by (Ok span, x) later keeps e = later x e ∙ keeps
    by (Err halt, x) later keeps e = cc

-- THE TEXT

-- the definition finds the same text
pub element-found : (w : World) (v : Value) → element_in w v ≡ piece_in w.pool.units (piece_of_element v)
element-found w Undefined = refl
element-found w Null = refl
element-found w (Boolean true) = refl
element-found w (Boolean false) = refl
element-found w (Num z) = refl
element-found w NaN = refl
element-found w (Text span) = refl
element-found w (Object n) = refl

separator-found : (w : World) (v : Value) → separator_in w v ≡ piece_in w.pool.units (piece_of_separator v)
separator-found w Undefined = refl
separator-found w Null = refl
separator-found w (Boolean true) = refl
separator-found w (Boolean false) = refl
separator-found w (Num z) = refl
separator-found w NaN = refl
separator-found w (Text span) = refl
separator-found w (Object n) = refl

elements-found : (w : World) (items : List Value) → map (element_in w) items ≡ map (λ v. piece_in w.pool.units (piece_of_element v)) items
elements-found w [] = refl
elements-found w (v ∷ items) = ap (λ t. t ∷ map (element_in w) items) (element-found w v) ∙ ap (λ l. piece_in w.pool.units (piece_of_element v) ∷ l) (elements-found w items)

pub joined-found : (w : World) (separator : Value) (items : List Value) → joined_by (separator_in w separator) (map (element_in w) items) ≡ joined_in w.pool.units separator items
joined-found w separator items =
    ap (λ b. joined_by b (map (element_in w) items)) (separator-found w separator)
    ∙ ap (joined_by (piece_in w.pool.units (piece_of_separator separator))) (elements-found w items)

-- PIECE BY PIECE

module _ (units : List ℕ) (separator : Value) where
  abbrev between : List ℕ
  between = piece_in units (piece_of_separator separator)

  abbrev of : Value → List ℕ
  of v = piece_in units (piece_of_element v)

  abbrev behind : List Value → List ℕ
  behind items = flat_map (λ other. between ++ other) (map of items)

  behind-more : (items : List Value) (place : ℕ) → place < length items → behind (take (place + 1) items) ≡ behind (take place items) ++ (between ++ of (item_at items place))
  behind-more [] place within = absurd (omega (arith, within))
  behind-more (v ∷ items) zero within = append-nil (between ++ of v)
  behind-more (v ∷ items) (suc place) within =
      let more : suc place + 1 ≡ suc (place + 1) = omega arith in
      ap (λ n. behind (take n (v ∷ items))) more
      ∙ ap (λ l. (between ++ of v) ++ l) (behind-more items place (omega arith))
      ∙ sym (append_assoc (between ++ of v) (behind (take place items)) (between ++ of (item_at items place)))

  -- one element more
  pub joined-more : (items : List Value) (place : ℕ) → place < length items
      → joined_in units separator (take (place + 1) items) ≡ joined_in units separator (take place items) ++ (gap place between ++ of (item_at items place))
  joined-more [] place within = absurd (omega (arith, within))
  joined-more (v ∷ items) zero within = append-nil (of v)
  joined-more (v ∷ items) (suc place) within =
      let more : suc place + 1 ≡ suc (place + 1) = omega arith in
      ap (λ n. joined_in units separator (take n (v ∷ items))) more
      ∙ ap (λ l. of v ++ l) (behind-more items place (omega arith))
      ∙ sym (append_assoc (of v) (behind (take place items)) (between ++ of (item_at items place)))

  behind-within : (items : List Value) (place : ℕ) → length (behind (take place items)) ≤ length (behind items)
  behind-within [] zero = omega arith
  behind-within [] (suc place) = omega arith
  behind-within (v ∷ items) zero = omega arith
  behind-within (v ∷ items) (suc place) =
      omega (arith, behind-within items place, length-append (between ++ of v) (behind (take place items)), length-append (between ++ of v) (behind items))

  -- the first elements joined are no longer than all
  pub joined-within : (items : List Value) (place : ℕ) → length (joined_in units separator (take place items)) ≤ length (joined_in units separator items)
  joined-within [] zero = omega arith
  joined-within [] (suc place) = omega arith
  joined-within (v ∷ items) zero = omega arith
  joined-within (v ∷ items) (suc place) =
      omega (arith, behind-within items place, length-append (of v) (behind (take place items)), length-append (of v) (behind items))

-- how much stands before an element
pub gap-none : (units : List ℕ) (place : ℕ) → place ≡ 0 → length (gap place units) ≡ 0
gap-none units zero e = refl
gap-none units (suc place) e = cc

pub gap-some : (units : List ℕ) (place : ℕ) → (place ≡ 0 → ⊥) → length (gap place units) ≡ length units
gap-some units zero differs = absurd (differs refl)
gap-some units (suc place) differs = refl

-- units behind units are both behind the texts
pub with-both : (w : World) (first second : List ℕ) → with_units (with_units w first) second ≡ with_units w (first ++ second)
with-both w first second =
    let charged : w.pool.used + length first + length second ≡ w.pool.used + length (first ++ second) = omega (arith, length-append first second) in
    ap (λ units. record w { pool = record w.pool { units = units; used = w.pool.used + length first + length second } }) (append_assoc w.pool.units first second)
    ∙ ap (λ used. record w { pool = record w.pool { units = w.pool.units ++ (first ++ second); used = used } }) charged

pub with-none : (w : World) → w ≡ with_units w []
with-none w =
    let charged : w.pool.used ≡ w.pool.used + 0 = omega arith in
    ap (λ units. record w { pool = record w.pool { units = units } }) (sym (append-nil w.pool.units))
    ∙ ap (λ used. record w { pool = record w.pool { units = w.pool.units ++ []; used = used } }) charged

-- the texts that stand do not change
front : (w : World) (units : List ℕ) (end : ℕ) → end ≤ length w.pool.units → take end (with_units w units).pool.units ≡ take end w.pool.units
front w units end within = take-append-le end w.pool.units units within

module _ (u l : World) (separator : Value) (items : List Value) (place end : ℕ) (upto : end ≤ length u.pool.units) (within : place < length items)
    (stands : l ≡ with_units u (joined_in (take end u.pool.units) separator (take place items)))
  where
    abbrev first : List ℕ
    first = take end u.pool.units

    abbrev before : List ℕ
    before = gap place (piece_in first (piece_of_separator separator))

    abbrev added : List ℕ
    added = piece_in first (piece_of_element (item_at items place))

    pub same-front : take end l.pool.units ≡ first
    same-front = ap (λ x. take end x.pool.units) stands ∙ front u (joined_in first separator (take place items)) end upto

    pub longer : end ≤ length l.pool.units
    longer =
        omega (arith, ap (λ x. length x.pool.units) stands, length-append u.pool.units (joined_in first separator (take place items)))

    -- there is room for one element more
    pub room-for : u.pool.used + length (joined_in first separator items) ≤ u.pool.limit → l.pool.used + (length before + length added) ≤ l.pool.limit
    room-for room =
        omega (
          arith,
          room,
          ap (λ x. x.pool.used) stands,
          ap (λ x. x.pool.limit) stands,
          joined-within first separator items (place + 1),
          ap length (joined-more first separator items place within),
          length-append (joined_in first separator (take place items)) (before ++ added),
          length-append before added,
        )

    abbrev IsBehind : World → Type 0
    IsBehind g = g ≡ with_units l (gap place (piece_in (take end l.pool.units) (piece_of_separator separator)))

    stands-behind : (g : World) → IsBehind g → g ≡ with_units l before
    stands-behind g behind = behind ∙ ap (λ xs. with_units l (gap place (piece_in xs (piece_of_separator separator)))) same-front

    front-behind : (g : World) → IsBehind g → take end g.pool.units ≡ first
    front-behind g behind = ap (λ x. take end x.pool.units) (stands-behind g behind) ∙ front l before end longer ∙ same-front

    pub room-behind : (g : World) → IsBehind g → u.pool.used + length (joined_in first separator items) ≤ u.pool.limit
        → g.pool.used + length (piece_in (take end g.pool.units) (piece_of_element (item_at items place))) ≤ g.pool.limit
    room-behind g behind room =
        omega (
          arith,
          room-for room,
          ap (λ x. x.pool.used) (stands-behind g behind),
          ap (λ x. x.pool.limit) (stands-behind g behind),
          ap (λ xs. length (piece_in xs (piece_of_element (item_at items place)))) (front-behind g behind),
        )

    -- with which the texts stand joined up to it
    pub one-more : (g p : World) → IsBehind g → p ≡ with_units g (piece_in (take end g.pool.units) (piece_of_element (item_at items place)))
        → p ≡ with_units u (joined_in first separator (take (place + 1) items))
    one-more g p behind put =
        put
        ∙ ap (λ xs. with_units g (piece_in xs (piece_of_element (item_at items place)))) (front-behind g behind)
        ∙ ap (λ x. with_units x added) (stands-behind g behind)
        ∙ with-both l before added
        ∙ ap (λ x. with_units x (before ++ added)) stands
        ∙ with-both u (joined_in first separator (take place items)) (before ++ added)
        ∙ ap (with_units u) (sym (joined-more first separator items place within))

-- where a world only grows its texts stand first
pub kept-front : (w u : World) → Grows w u → take (length w.pool.units) u.pool.units ≡ w.pool.units
kept-front w u g =
    let n : ℕ = length w.pool.units in
    let all : 0 + n - 0 ≡ n = omega arith in
    sym (ap (λ k. take k u.pool.units) all)
    ∙ g.texts (record { start = 0; count = n }) (omega arith)
    ∙ ap (λ k. take k w.pool.units) all
    ∙ take-length w.pool.units

-- a range that ends within a front is the range of the front
range-within : (xs : List ℕ) (from to n : ℕ) → to ≤ n → slice_range (take n xs) from to ≡ slice_range xs from to
range-within xs from to n h = by (search arith)
  where
    by : (from ≤ to) ⊎ (to ≤ from) → slice_range (take n xs) from to ≡ slice_range xs from to
    by (inl low) =
        let whole : n ≡ from + (n - from) = omega arith in
        ap (λ k. take (to - from) (drop from (take k xs))) whole ∙ ap (take (to - from)) (drop-take from (n - from) xs)
        ∙ take-take (to - from) (n - from) (drop from xs) (omega arith)
    by (inr high) = let none : to - from ≡ 0 = omega arith in ap (λ k. take k (drop from (take n xs))) none ∙ sym (ap (λ k. take k (drop from xs)) none)

-- a range, cut at the end of the list
clipped : (xs : List ℕ) (a b from to : ℕ) → to ≡ min b (length xs) → from ≡ min a to → slice_range xs from to ≡ slice_range xs a b
clipped xs a b from to e f = grind (arith, common_steps)

-- the part of a span below an end stands for the same text as the span where the units end there
pub below-same : (units : List ℕ) (end start count from more : ℕ) → end ≤ length units → start ≡ min from end → start + count ≡ min (from + more) end
    → slice_range units start (start + count) ≡ slice_range (take end units) from (from + more)
below-same units end start count from more within begins ends =
    sym (range-within units start (start + count) end (omega arith))
    ∙ clipped (take end units) from (from + more) start (start + count) (omega (arith, ends, length-take end units)) (omega arith)

-- THE CALL

module _ (w : World) (separator : Value) (items : List Value) where
  abbrev text : List ℕ
  text = joined_by (separator_in w separator) (map (element_in w) items)

  abbrev found : List ℕ
  found = joined_in w.pool.units separator items

  same-text : text ≡ found
  same-text = joined-found w separator items

  abbrev answer : Result World Halt → Outcome
  answer r = after_all r (λ u. judged u text)

  abbrev all : Result ℕ Halt
  all = all_charged w.pool w.pool.used (separator ∷ items)

  pub join-halts : (halt : Halt) → Err halt ≡ all → join_items w separator items ≡ halting halt
  join-halts halt e = by (converted w (separator ∷ items)) all (charges w (separator ∷ items)) e
    where
      by : (r : Result World Halt) (c : Result ℕ Halt) → Leaves w r c → Err halt ≡ c → answer r ≡ halting halt
      by (Ok u) (Ok used) h e = cc
      by (Ok u) (Err other) h e = absurd h
      by (Err this) (Ok used) h e = cc
      by (Err this) (Err other) h e = let same : this ≡ halt = cc in ap halting same

  pub join-too-long : (used : ℕ) → all ≡ Ok used → w.pool.text_limit < length found → join_items w separator items ≡ Faults TextTooLong
  join-too-long used e long = by (converted w (separator ∷ items)) all (charges w (separator ∷ items)) e
    where
      by : (r : Result World Halt) (c : Result ℕ Halt) → Leaves w r c → c ≡ Ok used → answer r ≡ Faults TextTooLong
      by (Ok u) (Ok used') h e =
          let past : nat_le (length text) u.pool.text_limit ≡ false = grind (arith, nat_tests, h.2, ap length same-text) in
          ap (λ b. cond b (text_or_limit (new_text u text)) (Faults TextTooLong)) past
      by (Ok u) (Err other) h e = absurd h
      by (Err this) (Ok used') h e = absurd h
      by (Err this) (Err other) h e = cc

  pub join-no-room : (used : ℕ) → all ≡ Ok used → length found ≤ w.pool.text_limit → w.pool.limit < used + length found → join_items w separator items ≡ Exceeds Units
  join-no-room used e fits full = by (converted w (separator ∷ items)) all (charges w (separator ∷ items)) e
    where
      by : (r : Result World Halt) (c : Result ℕ Halt) → Leaves w r c → c ≡ Ok used → answer r ≡ Exceeds Units
      by (Ok u) (Ok used') h e =
          let count : used' ≡ used = cc in
          let within : nat_le (length text) u.pool.text_limit ≡ true = grind (arith, nat_tests, h.2, ap length same-text) in
          let past : nat_le (u.pool.used + length text) u.pool.limit ≡ false = grind (arith, nat_tests, h.0, h.1, ap length same-text) in
          ap (λ b. cond b (text_or_limit (new_text u text)) (Faults TextTooLong)) within
          ∙ ap (λ b. text_or_limit (cond b (Some (span_behind u.pool text, with_units u text)) None)) past
      by (Ok u) (Err other) h e = absurd h
      by (Err this) (Ok used') h e = absurd h
      by (Err this) (Err other) h e = cc

  -- where all can be charged, no conversion halts
  pub join-converts : (used : ℕ) (halt : Halt) → all ≡ Ok used → converted w (separator ∷ items) ≡ Err halt → ⊥
  join-converts used halt e r = by (converted w (separator ∷ items)) all (charges w (separator ∷ items)) e r
    where
      by : (r : Result World Halt) (c : Result ℕ Halt) → Leaves w r c → c ≡ Ok used → r ≡ Err halt → ⊥
      by (Ok u) c h e r = cc
      by (Err this) (Ok used') h e r = h
      by (Err this) (Err other) h e r = cc

  -- what stands there then: so many units charged, the limits as they were, and the same elements
  pub join-leaves : (used : ℕ) (u : World) → all ≡ Ok used → converted w (separator ∷ items) ≡ Ok u
      → (u.pool.used ≡ used) × (u.pool.limit ≡ w.pool.limit) × (u.pool.text_limit ≡ w.pool.text_limit)
  join-leaves used u e r = by (converted w (separator ∷ items)) all (charges w (separator ∷ items)) e r
    where
      by : (r : Result World Halt) (c : Result ℕ Halt) → Leaves w r c → c ≡ Ok used → r ≡ Ok u → (u.pool.used ≡ used) × (u.pool.limit ≡ w.pool.limit) × (u.pool.text_limit ≡ w.pool.text_limit)
      by (Ok v) (Ok used') h e r =
          let same : v ≡ u = cc in
          let count : used' ≡ used = cc in
          (ap (λ x. x.pool.used) (sym same) ∙ h.0 ∙ count, ap (λ x. x.pool.limit) (sym same) ∙ h.1, ap (λ x. x.pool.text_limit) (sym same) ∙ h.2)
      by (Ok v) (Err other) h e r = absurd h
      by (Err this) c h e r = cc

  -- the joined text is then given
  pub join-gives : (u : World) → converted w (separator ∷ items) ≡ Ok u → length found ≤ u.pool.text_limit → u.pool.used + length found ≤ u.pool.limit
      → join_items w separator items ≡ Gives (Text (span_behind u.pool found)) (with_units u found)
  join-gives u r within room =
      let fits : nat_le (length found) u.pool.text_limit ≡ true = grind (arith, nat_tests) in
      let charged : nat_le (u.pool.used + length found) u.pool.limit ≡ true = grind (arith, nat_tests) in
      ap answer r
      ∙ ap (judged u) same-text
      ∙ ap (λ b. cond b (text_or_limit (new_text u found)) (Faults TextTooLong)) fits
      ∙ ap (λ b. text_or_limit (cond b (Some (span_behind u.pool found, with_units u found)) None)) charged

-- how a halt is answered
pub halt-answers : (w : World) (halt : Halt) (cause : Abrupt) → cause ≡ cause_of_halt halt → Answers (halting halt) w (Err cause) w
halt-answers w (HaltFault fault) cause e = subst (λ x. Answers (Faults fault) w (Err x) w) (sym e) (refl, refl)
halt-answers w (HaltLimit limit) cause e = subst (λ x. Answers (Exceeds limit) w (Err x) w) (sym e) (refl, refl)
