-- What is told is data that is well made.
use Rattle.std.specs.Prelude.{⊤}
use Rattle.std.proofs.Common.{arith, ◌≡◌, ℕ, ℤ, pos, negsuc, true, List, Ordering, Less, Equal, Greater, refl, sym, ap, ap₂, ◌∙◌, subst}
use Rattle.std.specs.Ordering.{nat_cmp, match_ordering}
use Rattle.std.specs.Cmp.Lexicographic.{slice_cmp}
use Rattle.serde_json.specs.Data.{Data, Items, no_items, item, Members, no_members, member, put}
use Rattle.serde_json.specs.Data as json
use Rattle.rip_base.specs.Text.{IsUtf16}
use Rattle.rip_base.specs.Whole.{IsWhole}
use Rattle.std.proofs.lemmas.Int.{ints}
use Rattle.rip_data.specs.Reading.{is_whole}
use Rattle.rip_data.specs.Datum.{Tree, number, text, array, object, Elements, no_elements, element, Fields, no_fields, field, data_of, items_of, members_of, number_of_whole, utf8_of, IsDatum, AreData, HaveData, AreInOrder}

-- the bytes are the UTF-8 of a text of UTF-16 units
abbrev pub IsSpelt : List ℕ → Type 0
IsSpelt bytes = (units : List ℕ) × (IsUtf16 units × (utf8_of units ≡ bytes))

-- the data is that of a datum that is well made
abbrev pub IsTold : Data → Type 0
IsTold d = (t : Tree) × (IsDatum t × (data_of t ≡ d))

-- each of the items is
abbrev pub AreTold : Items → Type 0
AreTold no_items = ⊤
AreTold (item d ds) = IsTold d × AreTold ds

-- each of the members is, and its name is a text
abbrev pub HaveTold : Members → Type 0
HaveTold no_members = ⊤
HaveTold (member k d ms) = IsSpelt k × (IsTold d × HaveTold ms)

pub elements : (ds : Items) → AreTold ds → (ts : Elements) × (AreData ts × (items_of ts ≡ ds))
elements no_items h = (no_elements, (tt, refl))
elements (item d ds) h =
    let rest = elements ds h.1 in
    (element h.0.0 rest.0, ((h.0.1.0, rest.1.0), ap₂ item h.0.1.1 rest.1.1))

fields : (ms : Members) → HaveTold ms → (fs : Fields) × (HaveData fs × (members_of fs ≡ ms))
fields no_members h = (no_fields, (tt, refl))
fields (member k d ms) h =
    let rest = fields ms h.1.1 in
    let name = h.0 in
    let value = h.1.0 in
    (field name.0 value.0 rest.0, ((name.1.0, value.1.0, rest.1.0), ap (λ b. member b (data_of value.0) (members_of rest.0)) name.1.1 ∙ ap₂ (member k) value.1.1 rest.1.1))

put-at : (o : Ordering) (k l : List ℕ) (d e : Data) (ms : Members) → IsSpelt k → IsTold d → HaveTold (member l e ms) → HaveTold (put k d ms)
    → HaveTold (match_ordering o (member k d (member l e ms)) (member l d ms) (member l e (put k d ms)))
put-at Less k l d e ms name value h further = (name, (value, h))
put-at Equal k l d e ms name value h further = (h.0, (value, h.1.1))
put-at Greater k l d e ms name value h further = (h.0, (h.1.0, further))

pub told_put : (k : List ℕ) (d : Data) (ms : Members) → IsSpelt k → IsTold d → HaveTold ms → HaveTold (put k d ms)
told_put k d no_members name value h = (name, (value, tt))
told_put k d (member l e ms) name value h = put-at (slice_cmp nat_cmp k l) k l d e ms name value h (told_put k d ms name value h.1.1)

pub told_items : (ds : Items) → AreTold ds → IsTold (json.array ds)
told_items ds h = let all = elements ds h in (array all.0, (all.1.0, ap json.array all.1.1))

pub told_members : (ms : Members) → HaveTold ms → AreInOrder ms → IsTold (json.object ms)
told_members ms h order = let all = fields ms h in (object all.0, ((all.1.0, subst AreInOrder (sym all.1.1) order), ap json.object all.1.1))

-- the test of a whole number, and what it says
pub whole_is : (z : ℤ) → is_whole (number_of_whole z) ≡ true → IsWhole z
whole_is (pos n) h = grind (arith, ints)
whole_is (negsuc n) h = grind (arith, ints)

pub is_whole_of : (z : ℤ) → IsWhole z → is_whole (number_of_whole z) ≡ true
is_whole_of (pos n) h = grind (arith, ints)
is_whole_of (negsuc n) h = grind (arith, ints)

pub told_whole : (z : ℤ) → IsWhole z → IsTold (json.number (number_of_whole z))
told_whole z h = (number z, (h, refl))

pub told_spelt : (bytes : List ℕ) → IsSpelt bytes → IsTold (json.string bytes)
told_spelt bytes h = (text h.0, (h.1.0, ap json.string h.1.1))
