-- The canonical text of values as it is written: first the values are judged, and then their data is written, the fields
-- of each object in the order of their names.
use Rattle.std.specs.Prelude.{◌≡◌, ◌≢◌, ◌<◌, ◌≤◌, slice_index_or, ℕ, ℤ, zero, suc, ◌+◌, ◌-◌, ◌&&◌, nat_le, if◌then◌else◌, List, [], ◌∷◌, ◌++◌, length, All, Option, None, Some, Result, Ok, Err}
use Rattle.std.specs.Char.Utf16.{has_unpaired_surrogate}
use Rattle.std.specs.declared.cmp.Ordering.{Ordering}
use Rattle.std.specs.declared.cmp.Ordering.TheVariants.{Greater}
use Rattle.std.specs.Ordering.{nat_cmp}
use Rattle.std.specs.Cmp.Lexicographic.{slice_cmp}
use Rattle.serde_json.specs.Data.{Data, null, boolean, number, string, array, object, Items, no_items, item, Members, no_members, member, put}
use Rattle.rip_base.specs.declared.value.Value.{Value}
use Rattle.rip_base.specs.declared.value.Value.TheVariants.{Undefined, Null, Bool as Boolean, Num, NaN, Text, Object}
use Rattle.rip_base.specs.declared.value.Fault.{Fault}
use Rattle.rip_base.specs.declared.value.Fault.TheVariants.{BadArgument, LoneSurrogate}
use Rattle.rip_values.specs.Pool.{Texts, text_at}
use Rattle.rip_heap.specs.declared.holder.Holder.{Holder}
use Rattle.rip_heap.specs.declared.holder.Holder.TheVariants.{PlainObject, ArrayObject, OtherObject}
use Rattle.rip_heap_region.specs.declared.pages.property.Property.{Property}
use Rattle.rip_heap.specs.Arrays.{elements_at}
use Rattle.rip_heap.specs.Holders.{holder_of}
use Rattle.rip_heap.specs.World.{World, object_at}
use Rattle.rip_data.specs.Datum.{AreInOrder, number_of_whole, utf8_of}
use Rattle.rip_data.specs.Reading.{is_whole}
use Rattle.rip_convert.specs.Arguments.{are_units, properties_of, fault_of}

-- TEXT

-- the text with more behind it, and none once it would pass 16,384 bytes
abbrev pub added : Option (List ℕ) → List ℕ → Option (List ℕ)
added None more = None
added (Some text) more = if nat_le (length more) (16384 - length text) then Some (text ++ more) else None

-- THE JUDGING: the pieces that are left behind a value, or the fault that ends the walk

abbrev pub then_left : Result ℕ Fault → (ℕ → Result ℕ Fault) → Result ℕ Fault
then_left (Ok left) next = next left
then_left (Err fault) next = Err fault

abbrev pub spelled_left : List ℕ → ℕ → Result ℕ Fault
spelled_left units left =
    if nat_le (length units) left && are_units units then
    (if has_unpaired_surrogate units then Err LoneSurrogate else Ok (left - length units))
    else Err BadArgument

abbrev pub elements_left : (Value → ℕ → Result ℕ Fault) → List Value → ℕ → Result ℕ Fault
elements_left walk [] left = Ok left
elements_left walk (v ∷ vs) left = then_left (walk v left) (elements_left walk vs)

abbrev pub fields_left : (Value → ℕ → Result ℕ Fault) → Texts → List Property → ℕ → Result ℕ Fault
fields_left walk pool [] left = Ok left
fields_left walk pool (p ∷ ps) left =
    then_left (spelled_left (text_at pool p.name) left) (λ rest. then_left (walk p.value rest) (fields_left walk pool ps))

abbrev pub parts_left : Holder → (Value → ℕ → Result ℕ Fault) → World → ℕ → ℕ → Result ℕ Fault
parts_left ArrayObject walk w n left = elements_left walk (elements_at w n) left
parts_left PlainObject walk w n left = fields_left walk w.pool (properties_of (object_at w n)) left
parts_left OtherObject walk w n left = Err BadArgument

abbrev pub whole_left : ℤ → ℕ → Result ℕ Fault
whole_left z left = if is_whole (number_of_whole z) then Ok left else Err BadArgument

abbrev pub value_left : (ℕ → ℕ → Result ℕ Fault) → World → Value → ℕ → Result ℕ Fault
value_left parts w Undefined left = Err BadArgument
value_left parts w Null left = Ok left
value_left parts w (Boolean b) left = Ok left
value_left parts w (Num z) left = whole_left z left
value_left parts w NaN left = Err BadArgument
value_left parts w (Text span) left = spelled_left (text_at w.pool span) left
value_left parts w (Object n) left = parts n left

abbrev pub piece_left : ℕ → (ℕ → Result ℕ Fault) → Result ℕ Fault
piece_left left next = if nat_le 1 left then next (left - 1) else Err BadArgument

abbrev pub left_after : ℕ → World → Value → ℕ → Result ℕ Fault
left_after zero w v left = piece_left left (value_left (λ n rest. Err BadArgument) w v)
left_after (suc levels) w v left =
    piece_left left (value_left (λ n rest. parts_left (holder_of (object_at w n)) (left_after levels w) w n rest) w v)

-- THE MARKS of the walk for the first fault: with how few levels left an object was walked without a fault; 0 for none

-- the mark of the object with this number
abbrev pub mark_of : List ℕ → ℕ → ℕ
mark_of marks n = slice_index_or marks n 0

-- each object that is marked has no fault in this heap, where so many levels are left as its mark says
abbrev pub AreWalked : World → List ℕ → Type 0
AreWalked w marks = (n : ℕ) → 0 < mark_of marks n → fault_of (mark_of marks n) w (Object n) ≡ None

-- THE DATA of a value that was judged; of any other value it is null

abbrev pub elements_data : (Value → Data) → List Value → Items
elements_data tell [] = no_items
elements_data tell (v ∷ vs) = item (tell v) (elements_data tell vs)

-- the fields in the order of making, among those found
abbrev pub fields_data : (Value → Data) → Texts → Members → List Property → Members
fields_data tell pool found [] = found
fields_data tell pool found (p ∷ ps) = fields_data tell pool (put (utf8_of (text_at pool p.name)) (tell p.value) found) ps

abbrev pub parts_data : Holder → (Value → Data) → World → ℕ → Data
parts_data ArrayObject tell w n = array (elements_data tell (elements_at w n))
parts_data PlainObject tell w n = object (fields_data tell w.pool no_members (properties_of (object_at w n)))
parts_data OtherObject tell w n = null

abbrev pub data_by : (ℕ → Data) → World → Value → Data
data_by parts w Undefined = null
data_by parts w Null = null
data_by parts w (Boolean b) = boolean b
data_by parts w (Num z) = number (number_of_whole z)
data_by parts w NaN = null
data_by parts w (Text span) = string (utf8_of (text_at w.pool span))
data_by parts w (Object n) = parts n

abbrev pub value_data : ℕ → World → Value → Data
value_data zero w v = data_by (λ n. null) w v
value_data (suc levels) w v = data_by (λ n. parts_data (holder_of (object_at w n)) (value_data levels w) w n) w v

-- THE PIECES of a value: one for itself, those of its parts, and each unit of a text or a name

abbrev pub elements_pieces : (Value → ℕ) → List Value → ℕ
elements_pieces pieces [] = 0
elements_pieces pieces (v ∷ vs) = pieces v + elements_pieces pieces vs

abbrev pub fields_pieces : (Value → ℕ) → Texts → List Property → ℕ
fields_pieces pieces pool [] = 0
fields_pieces pieces pool (p ∷ ps) = length (text_at pool p.name) + pieces p.value + fields_pieces pieces pool ps

abbrev pub parts_pieces : Holder → (Value → ℕ) → World → ℕ → ℕ
parts_pieces ArrayObject pieces w n = elements_pieces pieces (elements_at w n)
parts_pieces PlainObject pieces w n = fields_pieces pieces w.pool (properties_of (object_at w n))
parts_pieces OtherObject pieces w n = 0

abbrev pub pieces_by : (ℕ → ℕ) → World → Value → ℕ
pieces_by parts w Undefined = 1
pieces_by parts w Null = 1
pieces_by parts w (Boolean b) = 1
pieces_by parts w (Num z) = 1
pieces_by parts w NaN = 1
pieces_by parts w (Text span) = 1 + length (text_at w.pool span)
pieces_by parts w (Object n) = 1 + parts n

abbrev pub pieces : ℕ → World → Value → ℕ
pieces zero w v = pieces_by (λ n. 0) w v
pieces (suc levels) w v = pieces_by (λ n. parts_pieces (holder_of (object_at w n)) (pieces levels w) w n) w v

-- THE ORDER of fields

-- properties, those of one object behind those of the object around it, and the places in this row at which they stand:
-- those of each object in the order of their names
pub record Placed : Type 0 where
  pub properties : List Property
  pub places : List ℕ

-- no property and no place
abbrev pub none_placed : Placed
none_placed = record { properties = []; places = [] }

-- there is room for so many more properties and places
abbrev pub HasRoom : Placed → ℕ → Type 0
HasRoom row more = (length row.properties + more ≤ 16384) × (length row.places + more ≤ 16384)

-- the property at a place; past the last none has a name
abbrev pub field_at : List Property → ℕ → Property
field_at ps place = slice_index_or ps place (record { name = record { start = 0; count = 0 }; value = Undefined })

-- the name in UTF-8
abbrev pub name_at : Texts → List Property → ℕ → List ℕ
name_at pool ps place = utf8_of (text_at pool (field_at ps place).name)

-- the fields at these places, and then others
abbrev pub members_before : Texts → (Value → Data) → List Property → List ℕ → Members → Members
members_before pool tell ps [] others = others
members_before pool tell ps (place ∷ places) others = member (name_at pool ps place) (tell (field_at ps place).value) (members_before pool tell ps places others)

abbrev pub members_at : Texts → (Value → Data) → List Property → List ℕ → Members
members_at pool tell ps places = members_before pool tell ps places no_members

-- the places stand in the order of their names, each name once
abbrev pub IsOrdered : Texts → List Property → List ℕ → Type 0
IsOrdered pool ps places = AreInOrder (members_at pool (λ v. null) ps places)

-- each place is one of those from `low` on and before `high`
abbrev pub AreFrom : ℕ → ℕ → List ℕ → Type 0
AreFrom low high places = All (λ place. (low ≤ place) × (place < high)) places

-- the order of the names of two properties
abbrev pub order : Texts → List Property → ℕ → ℕ → Ordering
order pool ps a b = slice_cmp nat_cmp (name_at pool ps a) (name_at pool ps b)

-- the names before a place are less than that of a property, and those from another place on are not
pub record IsBetween (pool : Texts) (ps : List Property) (xs : List ℕ) (base place low high : ℕ) : Type 0 where
  pub from : base ≤ low
  pub ordered : low ≤ high
  pub within : high ≤ length xs
  pub before : (j : ℕ) → base ≤ j → j < low → order pool ps place (slice_index_or xs j 0) ≡ Greater
  pub after : (j : ℕ) → high ≤ j → j < length xs → order pool ps place (slice_index_or xs j 0) ≢ Greater
