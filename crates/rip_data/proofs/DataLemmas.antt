-- A datum beside the value of `serde_json` that it was made of.
use Rattle.std.proofs.Common.{◌≡◌, ℕ, zero, suc, ◌<◌, List, [], ◌∷◌, ◌++◌, map, length, get_or, Bool, true, false, ◌&&◌, Some, string_bytes, String, Vec, Global, rules, Less, refl, sym, ap, ◌∙◌, arith}
use Rattle.std.specs.Prelude.{unwrap_or}
use Rattle.std.specs.List.{AllByRecursion}
use Rattle.std.specs.List.Sorted.{IsStrictlySortedBy}
use Rattle.std.specs.Map.{keys_of}
use Rattle.std.specs.String.{string_cmp}
use Rattle.std.specs.Str.{encode_utf8_all}
use Rattle.std.specs.Char.Utf16.{utf16_chars}
use Rattle.serde_json.specs.Data.{Data, Members, no_members, item, member}
use Rattle.serde_json.specs.View.{view, items_view, members_view}
use Rattle.serde_json.specs.View as value
use Rattle.serde_json.specs.declared.value.Value.{Value}
use Rattle.serde_json.proofs.Views.{Entry}
use Rattle.rip_base.specs.Text.{IsUtf16, IsSameText}
use Rattle.rip_base.proofs.TextLemmas.{utf16_chars-encode_utf16_all}
use Rattle.rip_data.specs.Datum.{tree_of, data_of, items_of, utf8_of, array, object, elements_of, fields_of, IsDatum, IsBeforeAll, AreInOrder}
use Rattle.rip_data.specs.Reading.{all_whole, items_whole, members_whole}
use Rattle.rip_data.specs.Written.{fields_data, AreElements, AreFields}
use Rattle.rip_data.specs.declared.datum.Datum.{Datum}
use Rattle.rip_data.specs.declared.datum.DatumList.{DatumList, out-DatumList}
use Rattle.rip_data.specs.declared.datum.DatumFields.{DatumFields, out-DatumFields}
use Rattle.rip_data.specs.declared.datum.Datum as datum
use Rattle.rip_data.specs.declared.datum.Datum.TheViews.{roll-DatumFields, roll-DatumList}

-- ---- texts

unwrap_some : (cs : List ℕ) → map (λ o. unwrap_or o 0xFFFD) (map Some cs) ≡ cs
unwrap_some [] = refl
unwrap_some (c ∷ cs) = ap (λ ds. c ∷ ds) (unwrap_some cs)

-- the UTF-8 of units is the bytes that spell the same text
pub utf8_of-IsSameText : (bytes units : List ℕ) → IsSameText bytes units → utf8_of units ≡ bytes
utf8_of-IsSameText bytes units s =
    let read : utf16_chars units ≡ map Some s.characters = ap utf16_chars (sym s.in_units) ∙ utf16_chars-encode_utf16_all s.characters s.are in
    ap (λ os. encode_utf8_all (map (λ o. unwrap_or o 0xFFFD) os)) read ∙ ap encode_utf8_all (unwrap_some s.characters) ∙ s.in_bytes

pub IsUtf16-IsSameText : (bytes units : List ℕ) → IsSameText bytes units → IsUtf16 units
IsUtf16-IsSameText bytes units s = (s.characters, (s.are, s.in_units))

-- well-formed units and their UTF-8 spell the same text
pub IsSameText-utf8_of : (units : List ℕ) → IsUtf16 units → IsSameText (utf8_of units) units
IsSameText-utf8_of units h =
    let read : utf16_chars units ≡ map Some h.0 = ap utf16_chars (sym h.1.1) ∙ utf16_chars-encode_utf16_all h.0 h.1.0 in
    let bytes : encode_utf8_all h.0 ≡ utf8_of units = sym (ap (λ os. encode_utf8_all (map (λ o. unwrap_or o 0xFFFD) os)) read ∙ ap encode_utf8_all (unwrap_some h.0)) in
    record { characters = h.0; are = h.1.0; in_bytes = bytes; in_units = h.1.1 }

-- ---- elements

pub items_of-elements : (ds : List Datum) → items_of (elements_of (map tree_of ds)) ≡ value.items_of (map (λ d. data_of (tree_of d)) ds)
items_of-elements [] = refl
items_of-elements (d ∷ ds) = ap (item (data_of (tree_of d))) (items_of-elements ds)

pub AreElements-push : (ds : List Datum) (d : Datum) → AreElements ds → IsDatum (tree_of d) → AreElements (ds ++ d ∷ [])
AreElements-push [] d h new = (new, tt)
AreElements-push (e ∷ ds) d h new = (h.0, AreElements-push ds d h.1 new)

and_false : (b : Bool) → b && false ≡ false
and_false true = refl
and_false false = refl

-- an element that is not whole
pub items_whole-at : (vs : List Value) (i : ℕ) (v : Value) → i < length vs → v ≡ get_or vs i v → all_whole (view v) ≡ false → items_whole (items_view vs) ≡ false
items_whole-at [] i v h is e = absurd (omega arith)
items_whole-at (w ∷ vs) zero v h is e = ap (λ x. all_whole (view x) && items_whole (items_view vs)) (sym is) ∙ ap (λ b. b && items_whole (items_view vs)) e
items_whole-at (w ∷ vs) (suc i) v h is e = ap (λ b. all_whole (view w) && b) (items_whole-at vs i v (omega arith) is e) ∙ and_false (all_whole (view w))

-- ---- fields

-- a field's name in UTF-8, and its data
abbrev pub seen : List ℕ × Datum → List ℕ × Data
seen f = (utf8_of f.0, data_of (tree_of f.1))

abbrev pub shown : Entry → List ℕ × Data
shown e = (string_bytes e.0, view e.1)

abbrev members : List (List ℕ × Data) → Members
members [] = no_members
members (p ∷ ps) = member p.0 p.1 (members ps)

fields_data-seen : (fs : List (List ℕ × Datum)) → fields_data fs ≡ members (map seen fs)
fields_data-seen [] = refl
fields_data-seen (f ∷ fs) = ap (member (utf8_of f.0) (data_of (tree_of f.1))) (fields_data-seen fs)

members_view-shown : (es : List Entry) → members_view es ≡ members (map shown es)
members_view-shown [] = refl
members_view-shown (e ∷ es) = ap (member (string_bytes e.0) (view e.1)) (members_view-shown es)

pub fields_data-members_view : (fs : List (List ℕ × Datum)) (es : List Entry) → map seen fs ≡ map shown es → fields_data fs ≡ members_view es
fields_data-members_view fs es e = fields_data-seen fs ∙ ap members e ∙ sym (members_view-shown es)

pub AreFields-push : (fs : List (List ℕ × Datum)) (k : List ℕ) (d : Datum) → AreFields fs → IsUtf16 k → IsDatum (tree_of d) → AreFields (fs ++ (k, d) ∷ [])
AreFields-push [] k d h name new = (name, new, tt)
AreFields-push (f ∷ fs) k d h name new = (h.0, h.1, AreFields-push fs k d h.2 name new)

IsBeforeAll-members_view : (k : String Global) (es : List Entry) → AllByRecursion (λ y. string_cmp k y ≡ Less) (keys_of es) → IsBeforeAll (string_bytes k) (members_view es)
IsBeforeAll-members_view k [] h = tt
IsBeforeAll-members_view k (e ∷ es) h = (h.0, IsBeforeAll-members_view k es h.1)

-- the members of a map are in order
pub AreInOrder-members_view : (es : List Entry) → IsStrictlySortedBy string_cmp (keys_of es) → AreInOrder (members_view es)
unfolding IsStrictlySortedBy
AreInOrder-members_view [] h = tt
AreInOrder-members_view (e ∷ es) h = (IsBeforeAll-members_view e.0 es h.0, AreInOrder-members_view es h.1)

-- a member that is not whole
pub members_whole-among : (done : List Entry) (e : Entry) (left : List Entry) → all_whole (view e.1) ≡ false → members_whole (members_view (done ++ e ∷ left)) ≡ false
members_whole-among [] e left h = ap (λ b. b && members_whole (members_view left)) h
members_whole-among (d ∷ done) e left h = ap (λ b. all_whole (view d.1) && b) (members_whole-among done e left h) ∙ and_false (all_whole (view d.1))

-- the tree of an object and of an array
pub tree_of-object : (o : DatumFields) → tree_of (datum.Fields o) ≡ object (fields_of (map (λ f. (f.0, tree_of f.1)) (out-DatumFields o).fields.items))
tree_of-object o = search (rules, datum.the_lemmas)

pub tree_of-array : (o : DatumList) → tree_of (datum.List o) ≡ array (elements_of (map tree_of (out-DatumList o).items.items))
tree_of-array o = search (rules, datum.the_lemmas)

out-roll : (v : Vec (List ℕ × Datum) Global) → out-DatumFields (roll-DatumFields (record { fields = v })) ≡ record { fields = v }
out-roll v = search (rules, datum.the_lemmas)

-- the tree of a list
pub tree_of-List : (v : Vec Datum Global) → tree_of (datum.List (roll-DatumList (record { items = v }))) ≡ array (elements_of (map tree_of v.items))
tree_of-List v = search (rules, datum.the_lemmas)

-- the tree of fields
pub tree_of-Fields : (v : Vec (List ℕ × Datum) Global) → tree_of (datum.Fields (roll-DatumFields (record { fields = v }))) ≡ object (fields_of (map (λ f. (f.0, tree_of f.1)) v.items))
tree_of-Fields v = tree_of-object (roll-DatumFields (record { fields = v })) ∙ ap (λ r. object (fields_of (map (λ f. (f.0, tree_of f.1)) r.fields.items))) (out-roll v)
