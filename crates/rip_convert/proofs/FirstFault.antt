-- The first fault on a walk: none is where the judging leaves pieces, and none where fewer levels leave none.
use Rattle.std.proofs.Common.{◌≡◌, ◌≢◌, ℕ, ℤ, zero, suc, ◌+◌, ◌-◌, ◌<◌, ◌≤◌, nat_le, Bool, true, false, cond, inl, inr, Option, None, Some, option_map, Result, Ok, Err, List, [], ◌∷◌, drop, length, get_or, refl, sym, ap, ap₂, ◌∙◌, arith}
use Rattle.std.specs.Char.Utf16.{has_unpaired_surrogate}
use Rattle.std.specs.Prelude.{slice_get, option_and_then, is_some}
use Rattle.std.proofs.lemmas.Option.{slice_get_cases}
use Rattle.std.proofs.lemmas.Bool.{cases_eq, cases_lt, le-leb, lt-leb}
use Rattle.std.proofs.lemmas.List.{at_drop_more}
use Rattle.rip_base.specs.declared.value.Span.{Span}
use Rattle.rip_base.specs.declared.value.Value.{Value}
use Rattle.rip_base.specs.declared.value.Value.TheVariants.{Undefined, Null, Bool as Boolean, Num, NaN, Text, Object}
use Rattle.rip_base.specs.declared.value.Fault.{Fault}
use Rattle.rip_base.specs.declared.value.Fault.TheVariants.{BadArgument, LoneSurrogate}
use Rattle.rip_values.specs.Pool.{Texts, text_at}
use Rattle.rip_heap.specs.declared.holder.Holder.{Holder}
use Rattle.rip_heap.specs.declared.holder.Holder.TheVariants.{PlainObject, ArrayObject, OtherObject}
use Rattle.rip_heap_region.specs.declared.pages.property.Property.{Property}
use Rattle.rip_heap.specs.Arrays.{elements_at}
use Rattle.rip_heap.specs.Holders.{holder_of}
use Rattle.rip_heap.specs.World.{World, Object as HeapObject, object_at}
use Rattle.rip_convert.specs.Arguments.{are_units, properties_of, or_fault, text_fault, elements_fault, fields_fault, properties_fault, parts_fault, whole_fault, value_fault, fault_of}
use Rattle.rip_convert.specs.Written.{then_left, spelled_left, whole_left, elements_left, fields_left, parts_left, value_left, piece_left, left_after, AreWalked, mark_of}
use Rattle.rip_convert.proofs.Judging.{named}
use Rattle.rip_convert.proofs.Telling.{is_whole_of}
use Rattle.rip_base.specs.Whole.{IsWhole}
use Rattle.rip_convert.proofs.Judged.{then-ok, spelled-ok, whole-ok}

-- BOTH

or-none : (a b : Option Fault) → a ≡ None → b ≡ None → or_fault a b ≡ None
or-none None b h k = k
or-none (Some fault) b h k = absurd (cc)

none-first : (a b : Option Fault) → or_fault a b ≡ None → a ≡ None
none-first None b h = refl
none-first (Some fault) b h = absurd (cc)

none-later : (a b : Option Fault) → or_fault a b ≡ None → b ≡ None
none-later None b h = h
none-later (Some fault) b h = absurd (cc)

pub or_first : (a b : Option Fault) → is_some a ≡ true → a ≡ or_fault a b
or_first None b h = absurd (cc)
or_first (Some fault) b h = refl

pub or_later : (a b : Option Fault) → is_some a ≡ false → or_fault a b ≡ b
or_later None b h = refl
or_later (Some fault) b h = absurd (cc)

-- WHERE PIECES ARE LEFT

text-none : (units : List ℕ) (left rest : ℕ) → spelled_left units left ≡ Ok rest → text_fault units ≡ None
text-none units left rest h =
    let s = spelled-ok units left rest h in
    ap₂ (λ a b. cond a (cond b (Some LoneSurrogate) None) (Some BadArgument)) s.1 s.2

whole-none : (z : ℤ) (left rest : ℕ) → whole_left z left ≡ Ok rest → whole_fault z ≡ None
whole-none z left rest h = ap (λ b. cond b None (Some BadArgument)) (whole-ok z left rest h).0

module _ (judge : Value → ℕ → Result ℕ Fault) (walk : Value → Option Fault)
    (each : (v : Value) (left rest : ℕ) → left ≤ 16384 → judge v left ≡ Ok rest → (walk v ≡ None) × (rest < left)) where
  elements-none : (vs : List Value) (left rest : ℕ) → left ≤ 16384 → elements_left judge vs left ≡ Ok rest → (elements_fault walk vs ≡ None) × (rest ≤ left)
  elements-none [] left rest few h = let e : left ≡ rest = cc in (refl, omega (arith, e))
  elements-none (v ∷ vs) left rest few h =
      let t = then-ok (judge v left) (elements_left judge vs) rest h in
      let here = each v left t.0 few t.1.0 in
      let later = elements-none vs t.0 rest (omega (arith, few, here.1)) t.1.1 in
      (or-none (walk v) (elements_fault walk vs) here.0 later.0, omega (arith, here.1, later.1))

  fields-none : (pool : Texts) (ps : List Property) (left rest : ℕ) → left ≤ 16384 → fields_left judge pool ps left ≡ Ok rest
      → (fields_fault walk pool ps ≡ None) × (rest + length ps ≤ left)
  fields-none pool [] left rest few h = let e : left ≡ rest = cc in (refl, omega (arith, e))
  fields-none pool (p ∷ ps) left rest few h =
      let s = then-ok (spelled_left (text_at pool p.name) left) (λ rest. then_left (judge p.value rest) (fields_left judge pool ps)) rest h in
      let t = then-ok (judge p.value s.0) (fields_left judge pool ps) rest s.1.1 in
      let name = spelled-ok (text_at pool p.name) left s.0 s.1.0 in
      let fits : s.0 ≤ 16384 = omega (arith, few, name.3) in
      let here = each p.value s.0 t.0 fits t.1.0 in
      let later = fields-none pool ps t.0 rest (omega (arith, fits, here.1)) t.1.1 in (
        or-none (text_fault (text_at pool p.name)) (or_fault (walk p.value) (fields_fault walk pool ps)) (text-none (text_at pool p.name) left s.0 s.1.0)
            (or-none (walk p.value) (fields_fault walk pool ps) here.0 later.0),
        omega (arith, name.3, here.1, later.1),
      )

  parts-none : (holder : Holder) (w : World) (n left rest : ℕ) → left ≤ 16384 → parts_left holder judge w n left ≡ Ok rest → (parts_fault holder walk w n ≡ None) × (rest ≤ left)
  parts-none ArrayObject w n left rest few h = elements-none (elements_at w n) left rest few h
  parts-none PlainObject w n left rest few h =
      let ps = properties_of (object_at w n) in
      let f = fields-none w.pool ps left rest few h in (
        ap (λ b. cond b (fields_fault walk w.pool ps) (Some BadArgument)) (le-leb (length ps) 4294967295 (omega (arith, f.1, few))) ∙ f.0,
        omega (arith, f.1),
      )
  parts-none OtherObject w n left rest few h = absurd (cc)

value-none : (judge : ℕ → ℕ → Result ℕ Fault) (parts : ℕ → Option Fault)
    → ((n left rest : ℕ) → left ≤ 16384 → judge n left ≡ Ok rest → (parts n ≡ None) × (rest ≤ left))
    → (w : World) (v : Value) (left rest : ℕ) → left ≤ 16384 → value_left judge w v left ≡ Ok rest → (value_fault parts w v ≡ None) × (rest ≤ left)
value-none judge parts each w Undefined left rest few h = absurd (cc)
value-none judge parts each w Null left rest few h = let e : left ≡ rest = cc in (refl, omega (arith, e))
value-none judge parts each w (Boolean b) left rest few h = let e : left ≡ rest = cc in (refl, omega (arith, e))
value-none judge parts each w (Num z) left rest few h = (whole-none z left rest h, omega (arith, (whole-ok z left rest h).1))
value-none judge parts each w NaN left rest few h = absurd (cc)
value-none judge parts each w (Text span) left rest few h =
    (text-none (text_at w.pool span) left rest h, omega (arith, (spelled-ok (text_at w.pool span) left rest h).3))
value-none judge parts each w (Object n) left rest few h = each n left rest few h

piece-none : (left : ℕ) (next : ℕ → Result ℕ Fault) (fault : Option Fault) (rest : ℕ)
    → ((mid : ℕ) → mid ≤ 16384 → next mid ≡ Ok rest → (fault ≡ None) × (rest ≤ mid)) → left ≤ 16384 → piece_left left next ≡ Ok rest → (fault ≡ None) × (rest < left)
piece-none left next fault rest each few h = elim (cases_lt left 1) [
  | inl none ↦ absurd (let e = rw (lt-leb 1 left none) at h in cc)
  | inr some ↦ let found = each (left - 1) (omega (arith, few)) (rw (le-leb 1 left some) at h) in (found.0, omega (arith, some, found.1))
]

left-none : (levels : ℕ) (w : World) (v : Value) (left rest : ℕ) → left ≤ 16384 → left_after levels w v left ≡ Ok rest → (fault_of levels w v ≡ None) × (rest < left)
left-none zero w v left rest few h =
    piece-none left (value_left (λ n rest. Err BadArgument) w v) (value_fault (λ n. Some BadArgument) w v) rest
    (λ mid fits e. value-none (λ n rest. Err BadArgument) (λ n. Some BadArgument) (λ n left rest few none. absurd (cc)) w v mid rest fits e) few h
left-none (suc levels) w v left rest few h =
    piece-none left (value_left (λ n rest. parts_left (holder_of (object_at w n)) (left_after levels w) w n rest) w v)
    (value_fault (λ n. parts_fault (holder_of (object_at w n)) (fault_of levels w) w n) w v) rest
    (λ mid fits e. value-none (λ n rest. parts_left (holder_of (object_at w n)) (left_after levels w) w n rest)
    (λ n. parts_fault (holder_of (object_at w n)) (fault_of levels w) w n)
    (λ n left rest few f. parts-none (left_after levels w) (fault_of levels w) (left-none levels w) (holder_of (object_at w n)) w n left rest few f) w v mid rest fits e) few h

-- a walk that leaves pieces meets no fault
pub no_fault : (w : World) (v : Value) (rest : ℕ) → left_after 8 w v 16384 ≡ Ok rest → fault_of 8 w v ≡ None
no_fault w v rest h = (left-none 8 w v 16384 rest (omega arith) h).0

-- WHERE MORE LEVELS ARE LEFT

module _ (walk deeper : Value → Option Fault) (each : (v : Value) → walk v ≡ None → deeper v ≡ None) where
  elements-deeper : (vs : List Value) → elements_fault walk vs ≡ None → elements_fault deeper vs ≡ None
  elements-deeper [] h = refl
  elements-deeper (v ∷ vs) h =
      or-none (deeper v) (elements_fault deeper vs) (each v (none-first (walk v) (elements_fault walk vs) h)) (elements-deeper vs (none-later (walk v) (elements_fault walk vs) h))

  fields-deeper : (pool : Texts) (ps : List Property) → fields_fault walk pool ps ≡ None → fields_fault deeper pool ps ≡ None
  fields-deeper pool [] h = refl
  fields-deeper pool (p ∷ ps) h =
      let name = text_fault (text_at pool p.name) in
      let after = or_fault (walk p.value) (fields_fault walk pool ps) in
      let rest = none-later name after h in
      or-none name (or_fault (deeper p.value) (fields_fault deeper pool ps)) (none-first name after h)
      (or-none (deeper p.value) (fields_fault deeper pool ps) (each p.value (none-first (walk p.value) (fields_fault walk pool ps) rest))
      (fields-deeper pool ps (none-later (walk p.value) (fields_fault walk pool ps) rest)))

  properties-deeper : (pool : Texts) (ps : List Property) → properties_fault walk pool ps ≡ None → properties_fault deeper pool ps ≡ None
  properties-deeper pool ps h = by (nat_le (length ps) 4294967295) h
    where
      by : (b : Bool) → cond b (fields_fault walk pool ps) (Some BadArgument) ≡ None → cond b (fields_fault deeper pool ps) (Some BadArgument) ≡ None
      by true h = fields-deeper pool ps h
      by false h = absurd (cc)

  parts-deeper : (holder : Holder) (w : World) (n : ℕ) → parts_fault holder walk w n ≡ None → parts_fault holder deeper w n ≡ None
  parts-deeper ArrayObject w n h = elements-deeper (elements_at w n) h
  parts-deeper PlainObject w n h = properties-deeper w.pool (properties_of (object_at w n)) h
  parts-deeper OtherObject w n h = absurd (cc)

value-deeper : (parts deeper : ℕ → Option Fault) → ((n : ℕ) → parts n ≡ None → deeper n ≡ None) → (w : World) (v : Value) → value_fault parts w v ≡ None → value_fault deeper w v ≡ None
value-deeper parts deeper each w Undefined h = absurd (cc)
value-deeper parts deeper each w Null h = refl
value-deeper parts deeper each w (Boolean b) h = refl
value-deeper parts deeper each w (Num z) h = h
value-deeper parts deeper each w NaN h = absurd (cc)
value-deeper parts deeper each w (Text span) h = h
value-deeper parts deeper each w (Object n) h = each n h

-- what has no fault where fewer levels are left has none
pub deeper_none : (few levels : ℕ) (w : World) (v : Value) → few ≤ levels → fault_of few w v ≡ None → fault_of levels w v ≡ None
deeper_none zero zero w v le h = h
deeper_none zero (suc levels) w v le h =
    value-deeper (λ n. Some BadArgument) (λ n. parts_fault (holder_of (object_at w n)) (fault_of levels w) w n) (λ n none. absurd (cc)) w v h
deeper_none (suc few) zero w v le h = absurd (omega (arith, le))
deeper_none (suc few) (suc levels) w v le h =
    value-deeper (λ n. parts_fault (holder_of (object_at w n)) (fault_of few w) w n) (λ n. parts_fault (holder_of (object_at w n)) (fault_of levels w) w n)
    (λ n none. parts-deeper (fault_of few w) (fault_of levels w) (λ v. deeper_none few levels w v (omega (arith, le))) (holder_of (object_at w n)) w n none) w v h

-- ONE PART BEHIND THE OTHER

pub element_fault : (walk : Value → Option Fault) (vs : List Value) (i : ℕ) (v : Value) → i < length vs → v ≡ get_or vs i Undefined
    → elements_fault walk (drop i vs) ≡ or_fault (walk v) (elements_fault walk (drop (i + 1) vs))
element_fault walk vs i v below is =
    at_drop_more (elements_fault walk) vs i Undefined below ∙ ap (λ x. or_fault (walk x) (elements_fault walk (drop (i + 1) vs))) (sym is)

-- past the last place there is no property
pub place_past : (o : Option HeapObject) (i : ℕ) → is_some (option_map named (option_and_then (λ o. slice_get o.properties i) o)) ≡ false → length (properties_of o) ≤ i
place_past None i h = omega arith
place_past (Some o) i h = elim (slice_get_cases o.properties i).1 [
  | inl there ↦ absurd (let yes : true ≡ false = sym (ap (λ r. is_some (option_map named r)) there.2) ∙ h in cc)
  | inr past ↦ past.0
]

-- the properties of an object that are few enough, and of one of which they are not
pub properties_few : (walk : Value → Option Fault) (pool : Texts) (ps : List Property) → length ps ≤ 4294967295 → properties_fault walk pool ps ≡ fields_fault walk pool ps
properties_few walk pool ps few = ap (λ b. cond b (fields_fault walk pool ps) (Some BadArgument)) (le-leb (length ps) 4294967295 few)

pub properties_many : (walk : Value → Option Fault) (pool : Texts) (ps : List Property) → 4294967295 < length ps → properties_fault walk pool ps ≡ Some BadArgument
properties_many walk pool ps many = ap (λ b. cond b (fields_fault walk pool ps) (Some BadArgument)) (lt-leb (length ps) 4294967295 many)

-- an object where a level is left
pub fault_object : (levels : ℕ) (w : World) (n : ℕ) → 0 < levels → fault_of levels w (Object n) ≡ parts_fault (holder_of (object_at w n)) (fault_of (levels - 1) w) w n
fault_object zero w n h = absurd (omega (arith, h))
fault_object (suc levels) w n h =
    let e : levels ≡ suc levels - 1 = omega arith in ap (λ k. parts_fault (holder_of (object_at w n)) (fault_of k w) w n) e

-- a text
pub fault_text : (levels : ℕ) (w : World) (span : Span) → fault_of levels w (Text span) ≡ text_fault (text_at w.pool span)
fault_text zero w span = refl
fault_text (suc levels) w span = refl

-- a number
pub fault_number : (levels : ℕ) (w : World) (z : ℤ) → IsWhole z → fault_of levels w (Num z) ≡ None
fault_number levels w z whole = by levels
  where
    here : whole_fault z ≡ None
    here = ap (λ b. cond b None (Some BadArgument)) (is_whole_of z whole)

    by : (levels : ℕ) → fault_of levels w (Num z) ≡ None
    by zero = here
    by (suc levels) = here

-- units
pub fault_units : (units : List ℕ) → are_units units ≡ true → text_fault units ≡ cond (has_unpaired_surrogate units) (Some LoneSurrogate) None
fault_units units are = ap (λ b. cond b (cond (has_unpaired_surrogate units) (Some LoneSurrogate) None) (Some BadArgument)) are

-- MARKS

-- where no object is marked
pub unmarked : (w : World) (marks : List ℕ) → ((n : ℕ) → mark_of marks n ≡ 0) → AreWalked w marks
unmarked w marks none n some = absurd (omega (arith, some, none n))

-- a mark of an object that has no fault
pub marked : (w : World) (old new : List ℕ) (number levels : ℕ) → fault_of levels w (Object number) ≡ None
    → ((n : ℕ) → mark_of new n ≢ mark_of old n → (n ≡ number) × (mark_of new n ≡ levels)) → AreWalked w old → AreWalked w new
marked w old new number levels none changed walked n some = elim (cases_eq (mark_of new n) (mark_of old n)) [
  | inl same ↦ ap (λ k. fault_of k w (Object n)) same ∙ walked n (omega (arith, some, same))
  | inr other ↦ let here = changed n other in ap₂ (λ k m. fault_of k w (Object m)) here.1 here.0 ∙ none
]
