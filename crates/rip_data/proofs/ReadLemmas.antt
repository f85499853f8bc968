-- What is answered for bytes, step by step.
use Rattle.std.proofs.Common.{◌≡◌, ℕ, ◌<◌, ◌≤◌, pos, negsuc, List, length, Bool, true, false, ◌&&◌, cond, nat_le, Option, Some, None, Ok, Err, refl, ap, ap₂, ◌∙◌, arith, lt-ltb, le-leb, IsUtf8}
use Rattle.std.specs.Option.{option_or}
use Rattle.std.specs.Str.{is_utf8}
use Rattle.std.proofs.lemmas.Bool.{lt-leb}
use Rattle.std.proofs.lemmas.Int.{ints}
use Rattle.std.proofs.lemmas.Str.{is_utf8-from_IsUtf8, IsUtf8-from_is_utf8}
use Rattle.serde_json.specs.Data.{Data, depth}
use Rattle.serde_json.specs.Read.{read}
use Rattle.serde_json.specs.Written.{compact_text}
use Rattle.rip_data.specs.declared.error.DataError.{DataError}
use Rattle.rip_data.specs.declared.error.DataError.TheVariants.{NotWhole, TooDeep, DataTooLong}
use Rattle.rip_data.specs.Datum.{Tree, null, boolean, number, text, array, object, Elements, no_elements, element, Fields, no_fields, field, data_of, items_of, members_of, nesting, IsDatum, AreData, HaveData}
use Rattle.rip_data.specs.Reading.{all_whole, items_whole, members_whole, refusal_long, refusal_of_length, refusal, value_of, unless_refused, judged, answer, answer_long}

pub value_of-some : (bytes : List ℕ) (d : Data) → IsUtf8 bytes → read bytes ≡ Some d → value_of bytes ≡ Some d
value_of-some bytes d u e = ap (λ b. cond b (read bytes) None) (is_utf8-from_IsUtf8 bytes u) ∙ e

pub value_of-none : (bytes : List ℕ) → (IsUtf8 bytes → read bytes ≡ None) → value_of bytes ≡ None
value_of-none bytes h = by (is_utf8 bytes) refl
  where
    by : (b : Bool) → is_utf8 bytes ≡ b → cond b (read bytes) None ≡ None
    by true e = h (IsUtf8-from_is_utf8 bytes e)
    by false e = refl

-- each number of what a tree stands for is whole
mutual
  pub all_whole-data_of : (t : Tree) → IsDatum t → all_whole (data_of t) ≡ true
  all_whole-data_of null h = refl
  all_whole-data_of (boolean b) h = refl
  all_whole-data_of (number (pos n)) h = le-leb n 9007199254740991 (omega (arith, ints, h.1))
  all_whole-data_of (number (negsuc n)) h = lt-ltb n 9007199254740991 (omega (arith, ints, h.0))
  all_whole-data_of (text u) h = refl
  all_whole-data_of (array ts) h = items_whole-items_of ts h
  all_whole-data_of (object fs) h = members_whole-members_of fs h.0

  items_whole-items_of : (ts : Elements) → AreData ts → items_whole (items_of ts) ≡ true
  items_whole-items_of no_elements h = refl
  items_whole-items_of (element t ts) h = ap₂ (λ a b. a && b) (all_whole-data_of t h.0) (items_whole-items_of ts h.1)

  members_whole-members_of : (fs : Fields) → HaveData fs → members_whole (members_of fs) ≡ true
  members_whole-members_of no_fields h = refl
  members_whole-members_of (field k t fs) h = ap₂ (λ a b. a && b) (all_whole-data_of t h.1) (members_whole-members_of fs h.2)

whole_then : (d : Data) → all_whole d ≡ true → refusal_long d ≡ (cond (nat_le (depth d) 8) None (Some TooDeep))
whole_then d e = ap (λ b. cond b (cond (nat_le (depth d) 8) None (Some TooDeep)) (Some NotWhole)) e

refusal_long-shallow : (t : Tree) → IsDatum t → nesting t ≤ 8 → refusal_long (data_of t) ≡ None
refusal_long-shallow t h low =
    whole_then (data_of t) (all_whole-data_of t h) ∙ ap (λ b. cond b None (Some TooDeep)) (le-leb _ _ low)

refusal_long-deep : (t : Tree) → IsDatum t → 8 < nesting t → refusal_long (data_of t) ≡ Some TooDeep
refusal_long-deep t h high =
    whole_then (data_of t) (all_whole-data_of t h) ∙ ap (λ b. cond b None (Some TooDeep)) (lt-leb _ _ high)

judged-some : (bytes : List ℕ) (d : Data) (r : Option DataError) → value_of bytes ≡ Some d → refusal_long d ≡ r → answer_long bytes ≡ unless_refused r d
judged-some bytes d r is e = ap (judged refusal_long) is ∙ ap (λ x. unless_refused x d) e

pub answer_long-accepted : (bytes : List ℕ) (t : Tree) → value_of bytes ≡ Some (data_of t) → IsDatum t → nesting t ≤ 8 → answer_long bytes ≡ Ok (data_of t)
answer_long-accepted bytes t is h low = judged-some bytes (data_of t) None is (refusal_long-shallow t h low)

pub answer_long-deep : (bytes : List ℕ) (t : Tree) → value_of bytes ≡ Some (data_of t) → IsDatum t → 8 < nesting t → answer_long bytes ≡ Err TooDeep
answer_long-deep bytes t is h high = judged-some bytes (data_of t) (Some TooDeep) is (refusal_long-deep t h high)

pub answer_long-not_whole : (bytes : List ℕ) (d : Data) → value_of bytes ≡ Some d → all_whole d ≡ false → answer_long bytes ≡ Err NotWhole
answer_long-not_whole bytes d is e =
    judged-some bytes d (Some NotWhole) is (ap (λ b. cond b (cond (nat_le (depth d) 8) None (Some TooDeep)) (Some NotWhole)) e)

-- the length is judged last
short_then : (r : Option DataError) (e d : Data) → unless_refused r e ≡ Ok d → length (compact_text d) ≤ 16384 → unless_refused (option_or r (refusal_of_length e)) e ≡ Ok d
short_then None e d is short =
    let same : e ≡ d = cc in
    let none : refusal_of_length e ≡ None = ap refusal_of_length same ∙ ap (λ b. cond b None (Some DataTooLong)) (le-leb _ _ short) in
    ap (λ r. unless_refused r e) none ∙ is
short_then (Some x) e d is short = cc

long_then : (r : Option DataError) (e d : Data) → unless_refused r e ≡ Ok d → 16384 < length (compact_text d) → unless_refused (option_or r (refusal_of_length e)) e ≡ Err DataTooLong
long_then None e d is long =
    let same : e ≡ d = cc in
    let some : refusal_of_length e ≡ Some DataTooLong = ap refusal_of_length same ∙ ap (λ b. cond b None (Some DataTooLong)) (lt-leb _ _ long) in
    ap (λ r. unless_refused r e) some
long_then (Some x) e d is long = cc

refused_then : (r : Option DataError) (e : Data) (x : DataError) → unless_refused r e ≡ Err x → unless_refused (option_or r (refusal_of_length e)) e ≡ Err x
refused_then None e x is = cc
refused_then (Some y) e x is = is

judged-short : (o : Option Data) (d : Data) → judged refusal_long o ≡ Ok d → length (compact_text d) ≤ 16384 → judged refusal o ≡ Ok d
judged-short None d is short = cc
judged-short (Some e) d is short = short_then (refusal_long e) e d is short

judged-long : (o : Option Data) (d : Data) → judged refusal_long o ≡ Ok d → 16384 < length (compact_text d) → judged refusal o ≡ Err DataTooLong
judged-long None d is long = cc
judged-long (Some e) d is long = long_then (refusal_long e) e d is long

judged-refused : (o : Option Data) (x : DataError) → judged refusal_long o ≡ Err x → judged refusal o ≡ Err x
judged-refused None x is = is
judged-refused (Some e) x is = refused_then (refusal_long e) e x is

pub answer-short : (bytes : List ℕ) (d : Data) → answer_long bytes ≡ Ok d → length (compact_text d) ≤ 16384 → answer bytes ≡ Ok d
answer-short bytes d = judged-short (value_of bytes) d

pub answer-too_long : (bytes : List ℕ) (d : Data) → answer_long bytes ≡ Ok d → 16384 < length (compact_text d) → answer bytes ≡ Err DataTooLong
answer-too_long bytes d = judged-long (value_of bytes) d

pub answer-refused : (bytes : List ℕ) (x : DataError) → answer_long bytes ≡ Err x → answer bytes ≡ Err x
answer-refused bytes x = judged-refused (value_of bytes) x
