-- The judging and the data of a value are the walk over it; what the judging takes are its pieces.
use Rattle.std.proofs.Common.{◌≡◌, ℕ, ℤ, zero, suc, ◌+◌, ◌-◌, ◌≤◌, ◌&&◌, nat_le, Bool, true, false, cond, Result, Ok, Err, List, [], ◌∷◌, ◌++◌, length, map, refl, sym, ap, ◌∙◌, arith, append_assoc, append-nil, inl, inr}
use Rattle.std.specs.Char.Utf16.{has_unpaired_surrogate}
use Rattle.std.proofs.lemmas.Bool.{cases_lt, le-leb, leb-true, lt-leb}
use Rattle.serde_json.specs.Data.{Data, null, number, string, array, object, item, Members, no_members, put}
use Rattle.serde_json.specs.View.{items_of}
use Rattle.rip_base.specs.declared.value.Value.{Value}
use Rattle.rip_base.specs.declared.value.Value.TheVariants.{Undefined, Null, Bool as Boolean, Num, NaN, Text, Object}
use Rattle.rip_base.specs.declared.value.Fault.{Fault}
use Rattle.rip_base.specs.declared.value.Fault.TheVariants.{BadArgument, LoneSurrogate}
use Rattle.rip_values.specs.Pool.{Texts, text_at}
use Rattle.rip_heap.specs.declared.holder.Holder.{Holder}
use Rattle.rip_heap.specs.declared.holder.Holder.TheVariants.{PlainObject, ArrayObject, OtherObject}
use Rattle.rip_heap_region.specs.declared.pages.property.Property.{Property}
use Rattle.rip_heap.specs.Arrays.{elements_at}
use Rattle.rip_heap.specs.Holders.{holder_of}
use Rattle.rip_heap.specs.World.{World, object_at}
use Rattle.rip_data.specs.Datum.{number_of_whole, utf8_of}
use Rattle.rip_data.specs.Reading.{is_whole}
use Rattle.rip_convert.specs.Arguments.{Walk, are_units, whole_walked, then_walks, taking, spelled, elements_walked, fields_walked, properties_of, parts_walked, value_walked, walked}
use Rattle.rip_convert.specs.Written.{then_left, spelled_left, whole_left, elements_left, fields_left, parts_left, value_left, piece_left, left_after, elements_data, fields_data, parts_data, data_by, value_data, elements_pieces, fields_pieces, parts_pieces, pieces_by, pieces}

-- what is found, where the judging leaves pieces
abbrev pub with_data : {A : Type 0} → A → Result ℕ Fault → Walk A
with_data found (Ok left) = Ok (found, left)
with_data found (Err fault) = Err fault

spelled-same : (units : List ℕ) (left : ℕ) → spelled units left ≡ with_data (utf8_of units) (spelled_left units left)
spelled-same units left = by (nat_le (length units) left && are_units units) (has_unpaired_surrogate units)
  where
    by : (b c : Bool) → cond b (cond c (Err LoneSurrogate) (Ok (utf8_of units, left - length units))) (Err BadArgument) ≡ with_data (utf8_of units) (cond b (cond c (Err LoneSurrogate) (Ok (left - length units))) (Err BadArgument))
    by true true = refl
    by true false = refl
    by false c = refl

items-map : (tell : Value → Data) (vs : List Value) → items_of (map tell vs) ≡ elements_data tell vs
items-map tell [] = refl
items-map tell (v ∷ vs) = ap (item (tell v)) (items-map tell vs)

module _ (walk : Value → ℕ → Walk Data) (judge : Value → ℕ → Result ℕ Fault) (tell : Value → Data) (each : (v : Value) (left : ℕ) → walk v left ≡ with_data (tell v) (judge v left)) where
  elements-same : (found : List Data) (vs : List Value) (left : ℕ) → elements_walked walk found vs left ≡ with_data (found ++ map tell vs) (elements_left judge vs left)
  elements-same found [] left = ap (λ l. Ok (l, left)) (sym (append-nil found))
  elements-same found (v ∷ vs) left =
      ap (λ m. then_walks m (λ d rest. elements_walked walk (found ++ d ∷ []) vs rest)) (each v left)
      ∙ by (judge v left) (λ rest. elements-same (found ++ tell v ∷ []) vs rest)
    where
      by : (m : Result ℕ Fault) → ((rest : ℕ) → elements_walked walk (found ++ tell v ∷ []) vs rest ≡ with_data ((found ++ tell v ∷ []) ++ map tell vs) (elements_left judge vs rest))
          → then_walks (with_data (tell v) m) (λ d rest. elements_walked walk (found ++ d ∷ []) vs rest) ≡ with_data (found ++ tell v ∷ map tell vs) (then_left m (elements_left judge vs))
      by (Ok rest) further = further rest ∙ ap (λ l. with_data l (elements_left judge vs rest)) (append_assoc found (tell v ∷ []) (map tell vs))
      by (Err fault) further = refl

  fields-same : (pool : Texts) (found : Members) (ps : List Property) (left : ℕ) → fields_walked walk pool found ps left ≡ with_data (fields_data tell pool found ps) (fields_left judge pool ps left)
  fields-same pool found [] left = refl
  fields-same pool found (p ∷ ps) left =
      ap (λ m. then_walks m (λ name rest. then_walks (walk p.value rest) (λ d end. fields_walked walk pool (put name d found) ps end))) (spelled-same (text_at pool p.name) left)
      ∙ by (spelled_left (text_at pool p.name) left) (λ rest.
      ap (λ m. then_walks m (λ d end. fields_walked walk pool (put (utf8_of (text_at pool p.name)) d found) ps end)) (each p.value rest)
      ∙ then (judge p.value rest) (λ end. fields-same pool (put (utf8_of (text_at pool p.name)) (tell p.value) found) ps end))
    where
      then : (m : Result ℕ Fault) → ((end : ℕ) → fields_walked walk pool (put (utf8_of (text_at pool p.name)) (tell p.value) found) ps end ≡ with_data (fields_data tell pool (put (utf8_of (text_at pool p.name)) (tell p.value) found) ps) (fields_left judge pool ps end))
          → then_walks (with_data (tell p.value) m) (λ d end. fields_walked walk pool (put (utf8_of (text_at pool p.name)) d found) ps end)
          ≡ with_data (fields_data tell pool (put (utf8_of (text_at pool p.name)) (tell p.value) found) ps) (then_left m (fields_left judge pool ps))
      then (Ok end) further = further end
      then (Err fault) further = refl

      by : (m : Result ℕ Fault) → ((rest : ℕ) → then_walks (walk p.value rest) (λ d end. fields_walked walk pool (put (utf8_of (text_at pool p.name)) d found) ps end)
          ≡ with_data (fields_data tell pool (put (utf8_of (text_at pool p.name)) (tell p.value) found) ps) (then_left (judge p.value rest) (fields_left judge pool ps)))
          → then_walks (with_data (utf8_of (text_at pool p.name)) m) (λ name rest. then_walks (walk p.value rest) (λ d end. fields_walked walk pool (put name d found) ps end))
          ≡ with_data (fields_data tell pool (put (utf8_of (text_at pool p.name)) (tell p.value) found) ps) (then_left m (λ rest. then_left (judge p.value rest) (fields_left judge pool ps)))
      by (Ok rest) further = further rest
      by (Err fault) further = refl

  array-then : (ds : List Data) (m : Result ℕ Fault) → then_walks (with_data ds m) (λ ds rest. Ok (array (items_of ds), rest)) ≡ with_data (array (items_of ds)) m
  array-then ds (Ok rest) = refl
  array-then ds (Err fault) = refl

  object-then : (ms : Members) (m : Result ℕ Fault) → then_walks (with_data ms m) (λ ms rest. Ok (object ms, rest)) ≡ with_data (object ms) m
  object-then ms (Ok rest) = refl
  object-then ms (Err fault) = refl

  parts-same : (holder : Holder) (w : World) (n left : ℕ) → parts_walked holder walk w n left ≡ with_data (parts_data holder tell w n) (parts_left holder judge w n left)
  parts-same ArrayObject w n left =
      ap (λ m. then_walks m (λ ds rest. Ok (array (items_of ds), rest))) (elements-same [] (elements_at w n) left)
      ∙ array-then (map tell (elements_at w n)) (elements_left judge (elements_at w n) left)
      ∙ ap (λ d. with_data (array d) (elements_left judge (elements_at w n) left)) (items-map tell (elements_at w n))
  parts-same PlainObject w n left =
      ap (λ m. then_walks m (λ ms rest. Ok (object ms, rest))) (fields-same w.pool no_members (properties_of (object_at w n)) left)
      ∙ object-then (fields_data tell w.pool no_members (properties_of (object_at w n))) (fields_left judge w.pool (properties_of (object_at w n)) left)
  parts-same OtherObject w n left = refl

text-then : (bytes : List ℕ) (m : Result ℕ Fault) → then_walks (with_data bytes m) (λ bytes rest. Ok (string bytes, rest)) ≡ with_data (string bytes) m
text-then bytes (Ok rest) = refl
text-then bytes (Err fault) = refl

whole-same : (z : ℤ) (left : ℕ) → whole_walked z left ≡ with_data (number (number_of_whole z)) (whole_left z left)
whole-same z left = by (is_whole (number_of_whole z))
  where
    by : (b : Bool) → cond b (Ok (number (number_of_whole z), left)) (Err BadArgument) ≡ with_data (number (number_of_whole z)) (cond b (Ok left) (Err BadArgument))
    by true = refl
    by false = refl

value-same : (parts : ℕ → ℕ → Walk Data) (judge : ℕ → ℕ → Result ℕ Fault) (tell : ℕ → Data) → ((n left : ℕ) → parts n left ≡ with_data (tell n) (judge n left)) → (w : World) (v : Value) (left : ℕ) → value_walked parts w v left ≡ with_data (data_by tell w v) (value_left judge w v left)
value-same parts judge tell each w Undefined left = refl
value-same parts judge tell each w Null left = refl
value-same parts judge tell each w (Boolean b) left = refl
value-same parts judge tell each w (Num z) left = whole-same z left
value-same parts judge tell each w NaN left = refl
value-same parts judge tell each w (Text span) left =
    ap (λ m. then_walks m (λ bytes rest. Ok (string bytes, rest))) (spelled-same (text_at w.pool span) left) ∙ text-then (utf8_of (text_at w.pool span)) (spelled_left (text_at w.pool span) left)
value-same parts judge tell each w (Object n) left = each n left

taking-same : (left : ℕ) (next : ℕ → Walk Data) (judge : ℕ → Result ℕ Fault) (found : Data) → ((rest : ℕ) → next rest ≡ with_data found (judge rest)) → taking left next ≡ with_data found (piece_left left judge)
taking-same left next judge found each = by (nat_le 1 left)
  where
    by : (b : Bool) → cond b (next (left - 1)) (Err BadArgument) ≡ with_data found (cond b (judge (left - 1)) (Err BadArgument))
    by true = each (left - 1)
    by false = refl

-- the walk finds the data of a value where the judging leaves pieces, and ends where the judging does
pub walked-same : (levels : ℕ) (w : World) (v : Value) (left : ℕ) → walked levels w v left ≡ with_data (value_data levels w v) (left_after levels w v left)
walked-same zero w v left =
    taking-same left (value_walked (λ n rest. Err BadArgument) w v) (value_left (λ n rest. Err BadArgument) w v) (data_by (λ n. null) w v)
    (value-same (λ n rest. Err BadArgument) (λ n rest. Err BadArgument) (λ n. null) (λ n rest. refl) w v)
walked-same (suc levels) w v left =
    taking-same left (value_walked (λ n rest. parts_walked (holder_of (object_at w n)) (walked levels w) w n rest) w v)
    (value_left (λ n rest. parts_left (holder_of (object_at w n)) (left_after levels w) w n rest) w v)
    (data_by (λ n. parts_data (holder_of (object_at w n)) (value_data levels w) w n) w v)
    (value-same (λ n rest. parts_walked (holder_of (object_at w n)) (walked levels w) w n rest) (λ n rest. parts_left (holder_of (object_at w n)) (left_after levels w) w n rest)
    (λ n. parts_data (holder_of (object_at w n)) (value_data levels w) w n)
    (λ n rest. parts-same (walked levels w) (left_after levels w) (value_data levels w) (walked-same levels w) (holder_of (object_at w n)) w n rest) w v)

-- PIECES

pub then-ok : (m : Result ℕ Fault) (next : ℕ → Result ℕ Fault) (rest : ℕ) → then_left m next ≡ Ok rest → (mid : ℕ) × ((m ≡ Ok mid) × (next mid ≡ Ok rest))
then-ok (Ok mid) next rest h = (mid, (refl, h))
then-ok (Err fault) next rest h = absurd (cc)

-- a text that is judged well fits the pieces, and is of units, of which no surrogate is without its partner
pub spelled-ok : (units : List ℕ) (left rest : ℕ) → spelled_left units left ≡ Ok rest → (length units ≤ left) × (are_units units ≡ true) × (has_unpaired_surrogate units ≡ false) × (rest + length units ≡ left)
spelled-ok units left rest h = by (nat_le (length units) left) (are_units units) (has_unpaired_surrogate units) refl refl refl h
  where
    by : (a b c : Bool) → nat_le (length units) left ≡ a → are_units units ≡ b → has_unpaired_surrogate units ≡ c
        → ◌≡◌ {A = Result ℕ Fault} (cond (a && b) (cond c (Err LoneSurrogate) (Ok (left - length units))) (Err BadArgument)) (Ok rest)
        → (length units ≤ left) × (are_units units ≡ true) × (has_unpaired_surrogate units ≡ false) × (rest + length units ≡ left)
    by true true false fits are none e =
        let few = leb-true (length units) left fits in
        let same : left - length units ≡ rest = cc in
        (few, are, none, omega (arith, same, few))
    by true true true fits are none e = absurd (cc)
    by true false c fits are none e = absurd (cc)
    by false b c fits are none e = absurd (cc)

pub whole-ok : (z : ℤ) (left rest : ℕ) → whole_left z left ≡ Ok rest → (is_whole (number_of_whole z) ≡ true) × (left ≡ rest)
whole-ok z left rest h = by (is_whole (number_of_whole z)) refl h
  where
    by : (b : Bool) → is_whole (number_of_whole z) ≡ b → ◌≡◌ {A = Result ℕ Fault} (cond b (Ok left) (Err BadArgument)) (Ok rest) → (is_whole (number_of_whole z) ≡ true) × (left ≡ rest)
    by true is e = (is, cc)
    by false is e = absurd (cc)

module _ (judge : Value → ℕ → Result ℕ Fault) (count : Value → ℕ) (each : (v : Value) (left rest : ℕ) → judge v left ≡ Ok rest → rest + count v ≡ left) where
  elements-count : (vs : List Value) (left rest : ℕ) → elements_left judge vs left ≡ Ok rest → rest + elements_pieces count vs ≡ left
  elements-count [] left rest h = let e : left ≡ rest = cc in omega (arith, e)
  elements-count (v ∷ vs) left rest h =
      let t = then-ok (judge v left) (elements_left judge vs) rest h in
      omega (arith, each v left t.0 t.1.0, elements-count vs t.0 rest t.1.1)

  fields-count : (pool : Texts) (ps : List Property) (left rest : ℕ) → fields_left judge pool ps left ≡ Ok rest → rest + fields_pieces count pool ps ≡ left
  fields-count pool [] left rest h = let e : left ≡ rest = cc in omega (arith, e)
  fields-count pool (p ∷ ps) left rest h =
      let s = then-ok (spelled_left (text_at pool p.name) left) (λ rest. then_left (judge p.value rest) (fields_left judge pool ps)) rest h in
      let t = then-ok (judge p.value s.0) (fields_left judge pool ps) rest s.1.1 in
      omega (arith, (spelled-ok (text_at pool p.name) left s.0 s.1.0).3, each p.value s.0 t.0 t.1.0, fields-count pool ps t.0 rest t.1.1)

  parts-count : (holder : Holder) (w : World) (n left rest : ℕ) → parts_left holder judge w n left ≡ Ok rest → rest + parts_pieces holder count w n ≡ left
  parts-count ArrayObject w n left rest h = elements-count (elements_at w n) left rest h
  parts-count PlainObject w n left rest h = fields-count w.pool (properties_of (object_at w n)) left rest h
  parts-count OtherObject w n left rest h = absurd (cc)

value-count : (parts : ℕ → ℕ → Result ℕ Fault) (count : ℕ → ℕ) → ((n left rest : ℕ) → parts n left ≡ Ok rest → rest + count n ≡ left) → (w : World) (v : Value) (left rest : ℕ) → value_left parts w v left ≡ Ok rest → rest + pieces_by count w v ≡ left + 1
value-count parts count each w Undefined left rest h = absurd (cc)
value-count parts count each w Null left rest h = let e : left ≡ rest = cc in omega (arith, e)
value-count parts count each w (Boolean b) left rest h = let e : left ≡ rest = cc in omega (arith, e)
value-count parts count each w (Num z) left rest h = omega (arith, (whole-ok z left rest h).1)
value-count parts count each w NaN left rest h = absurd (cc)
value-count parts count each w (Text span) left rest h = omega (arith, (spelled-ok (text_at w.pool span) left rest h).3)
value-count parts count each w (Object n) left rest h = omega (arith, each n left rest h)

piece-count : (left : ℕ) (next : ℕ → Result ℕ Fault) (rest count : ℕ) → ((mid : ℕ) → next mid ≡ Ok rest → rest + count ≡ mid + 1) → piece_left left next ≡ Ok rest → rest + count ≡ left
piece-count left next rest count each h = elim (cases_lt left 1) [
  | inl none ↦ absurd (let e = rw (lt-leb 1 left none) at h in cc)
  | inr some ↦ omega (arith, some, each (left - 1) (rw (le-leb 1 left some) at h))
]

-- what the judging takes are the pieces of the value
pub taken-pieces : (levels : ℕ) (w : World) (v : Value) (left rest : ℕ) → left_after levels w v left ≡ Ok rest → rest + pieces levels w v ≡ left
taken-pieces zero w v left rest h =
    piece-count left (value_left (λ n rest. Err BadArgument) w v) rest (pieces_by (λ n. 0) w v)
    (λ mid e. value-count (λ n rest. Err BadArgument) (λ n. 0) (λ n left rest none. absurd (cc)) w v mid rest e) h
taken-pieces (suc levels) w v left rest h =
    piece-count left (value_left (λ n rest. parts_left (holder_of (object_at w n)) (left_after levels w) w n rest) w v) rest (pieces_by (λ n. parts_pieces (holder_of (object_at w n)) (pieces levels w) w n) w v)
    (λ mid e. value-count (λ n rest. parts_left (holder_of (object_at w n)) (left_after levels w) w n rest) (λ n. parts_pieces (holder_of (object_at w n)) (pieces levels w) w n)
    (λ n left rest f. parts-count (left_after levels w) (pieces levels w) (taken-pieces levels w) (holder_of (object_at w n)) w n left rest f) w v mid rest e) h

-- each value is a piece
pub some_piece : (levels : ℕ) (w : World) (v : Value) → 1 ≤ pieces levels w v
some_piece zero w v = by v
  where
    by : (v : Value) → 1 ≤ pieces_by (λ n. 0) w v
    by Undefined = omega arith
    by Null = omega arith
    by (Boolean b) = omega arith
    by (Num z) = omega arith
    by NaN = omega arith
    by (Text span) = omega arith
    by (Object n) = omega arith
some_piece (suc levels) w v = by v
  where
    by : (v : Value) → 1 ≤ pieces_by (λ n. parts_pieces (holder_of (object_at w n)) (pieces levels w) w n) w v
    by Undefined = omega arith
    by Null = omega arith
    by (Boolean b) = omega arith
    by (Num z) = omega arith
    by NaN = omega arith
    by (Text span) = omega arith
    by (Object n) = omega arith
