-- The text of elements and fields, one behind the other, and the room that they need.
use Rattle.std.proofs.Common.{◌≡◌, ℕ, zero, suc, ◌+◌, ◌-◌, ◌<◌, ◌≤◌, Bool, true, Option, List, [], ◌∷◌, ◌++◌, length, drop, get_or, refl, sym, ap, ◌∙◌, arith, append_assoc, length-append}
use Rattle.std.proofs.lemmas.List.{drop_more, drop_all, get_or-append_right}
use Rattle.json.specs.Print.{quoted}
use Rattle.serde_json.specs.Data.{Data}
use Rattle.serde_json.specs.Written.{comma_if, compact_text, items_text, members_text}
use Rattle.rip_base.specs.declared.value.Value.{Value}
use Rattle.rip_base.specs.declared.value.Value.TheVariants.{Undefined}
use Rattle.rip_values.specs.Pool.{Texts}
use Rattle.rip_heap_region.specs.declared.pages.property.Property.{Property}
use Rattle.rip_heap.specs.World.{World}
use Rattle.rip_convert.specs.Written.{added, elements_data, elements_pieces, fields_pieces, field_at, name_at, members_at, pieces}
use Rattle.rip_convert.proofs.Adding.{added-added}
use Rattle.rip_convert.proofs.Judged.{some_piece}

-- TEXT

pub element-step : (r : Option (List ℕ)) (later : Bool) (tell : Value → Data) (vs : List Value) (i : ℕ) → i < length vs
    → added (added (added r (comma_if later)) (compact_text (tell (get_or vs i Undefined)))) (items_text true (elements_data tell (drop (i + 1) vs))) ≡ added r (items_text later (elements_data tell (drop i vs)))
element-step r later tell vs i h =
    let d = compact_text (tell (get_or vs i Undefined)) in
    let rest = items_text true (elements_data tell (drop (i + 1) vs)) in
    added-added (added r (comma_if later)) d rest ∙ added-added r (comma_if later) (d ++ rest)
    ∙ ap (λ xs. added r (items_text later (elements_data tell xs))) (sym (drop_more vs i Undefined h))

pub elements-end : (r : Option (List ℕ)) (later : Bool) (tell : Value → Data) (vs : List Value) (i : ℕ) → length vs ≤ i → added r (items_text later (elements_data tell (drop i vs))) ≡ added r (93 ∷ [])
elements-end r later tell vs i h = ap (λ xs. added r (items_text later (elements_data tell xs))) (drop_all i vs h)

pub member-step : (r : Option (List ℕ)) (later : Bool) (pool : Texts) (tell : Value → Data) (ps : List Property) (places : List ℕ) (i : ℕ) → i < length places
    → added (added (added r (comma_if later)) (quoted (name_at pool ps (get_or places i 0)) ++ 58 ∷ compact_text (tell (field_at ps (get_or places i 0)).value))) (members_text true (members_at pool tell ps (drop (i + 1) places)))
    ≡ added r (members_text later (members_at pool tell ps (drop i places)))
member-step r later pool tell ps places i h =
    let k = quoted (name_at pool ps (get_or places i 0)) in
    let d = compact_text (tell (field_at ps (get_or places i 0)).value) in
    let rest = members_text true (members_at pool tell ps (drop (i + 1) places)) in
    added-added (added r (comma_if later)) (k ++ 58 ∷ d) rest ∙ added-added r (comma_if later) ((k ++ 58 ∷ d) ++ rest)
    ∙ ap (λ l. added r (comma_if later ++ l)) (append_assoc k (58 ∷ d) rest)
    ∙ ap (λ xs. added r (members_text later (members_at pool tell ps xs))) (sym (drop_more places i 0 h))

pub members-end : (r : Option (List ℕ)) (later : Bool) (pool : Texts) (tell : Value → Data) (ps : List Property) (places : List ℕ) (i : ℕ) → length places ≤ i → added r (members_text later (members_at pool tell ps (drop i places))) ≡ added r (125 ∷ [])
members-end r later pool tell ps places i h = ap (λ xs. added r (members_text later (members_at pool tell ps xs))) (drop_all i places h)

-- ROOM

pub element-room : (count : Value → ℕ) (vs : List Value) (i : ℕ) → i < length vs → count (get_or vs i Undefined) ≤ elements_pieces count vs
element-room count [] i h = absurd (omega (arith, h))
element-room count (v ∷ vs) zero h = omega arith
element-room count (v ∷ vs) (suc i) h = omega (arith, element-room count vs i (omega (arith, h)))

module _ (count : Value → ℕ) (each : (v : Value) → 1 ≤ count v) where
  fields-some : (pool : Texts) (ps : List Property) → length ps ≤ fields_pieces count pool ps
  fields-some pool [] = omega arith
  fields-some pool (p ∷ ps) = omega (arith, each p.value, fields-some pool ps)

  one-field : (pool : Texts) (ps : List Property) (i : ℕ) (d : Property) → i < length ps → length ps + count (get_or ps i d).value ≤ fields_pieces count pool ps + 1
  one-field pool [] i d h = absurd (omega (arith, h))
  one-field pool (p ∷ ps) zero d h = omega (arith, fields-some pool ps)
  one-field pool (p ∷ ps) (suc i) d h = omega (arith, each p.value, one-field pool ps i d (omega (arith, h)))

pub fields-room : (levels : ℕ) (w : World) (ps : List Property) → length ps ≤ fields_pieces (pieces levels w) w.pool ps
fields-room levels w ps = fields-some (pieces levels w) (some_piece levels w) w.pool ps

-- a field's value beside all fields of its object
pub field-room : (levels : ℕ) (w : World) (old own : List Property) (place : ℕ) → length old ≤ place → place < length (old ++ own) → length own + pieces levels w (field_at (old ++ own) place).value ≤ fields_pieces (pieces levels w) w.pool own + 1
field-room levels w old own place low high =
    let none : Property = record { name = record { start = 0; count = 0 }; value = Undefined } in
    let here = one-field (pieces levels w) (some_piece levels w) w.pool own (place - length old) none (omega (arith, low, high, length-append old own)) in
    omega (arith, here, ap (λ p. pieces levels w p.value) (get_or-append_right old own (length old) place none refl low))
