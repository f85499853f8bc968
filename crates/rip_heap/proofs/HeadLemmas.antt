-- What is read in the slot of an object's head after each change of it.
use Rattle.std.proofs.Common.{◌≡◌, ℕ, ◌+◌, ◌*◌, ◌/◌, ◌%◌, Option, None, Some, refl, ap, arith}
use Rattle.rip_base.specs.declared.value.Value.{Value}
use Rattle.rip_base.specs.declared.value.Value.TheVariants.{Text}
use Rattle.rip_heap_region.specs.declared.pages.slot.Slot.{Slot}
use Rattle.rip_heap_region.specs.declared.chains.chain.Chain.{Chain}
use Rattle.rip_heap_region.specs.declared.segments.array.Array.{Array}
use Rattle.rip_heap.specs.declared.class.Class.{Class}
use Rattle.rip_heap.specs.declared.class.Class.TheVariants.{Plain, Prototype, Array as ArrayClass, Function, Error, TypeError, RangeError, ThrownTypeError, ThrownReferenceError, Code, Event}
use Rattle.rip_heap.specs.declared.stored.StoredObject.{StoredObject}
use Rattle.rip_heap.specs.HeadSlots.{IsStorable, array_if, array_in, chain_in, class_in, class_number, code_in, head_in, index_in, proto_in, slot_of, value_of, with_array, with_chain}
use Rattle.rip_heap.specs.Objects.{bare, function_object}
use Rattle.rip_heap.specs.Stored.{head_of}

-- NUMBERS OF CLASSES

pub class_kept : (class : Class) → class_in (class_number class % 16) ≡ class
class_kept Plain = refl
class_kept Prototype = refl
class_kept ArrayClass = refl
class_kept Function = refl
class_kept Error = refl
class_kept TypeError = refl
class_kept RangeError = refl
class_kept ThrownTypeError = refl
class_kept ThrownReferenceError = refl
class_kept Code = refl
class_kept Event = refl

number_without_index : (class : Class) → class_number class / 16 ≡ 0
number_without_index Plain = refl
number_without_index Prototype = refl
number_without_index ArrayClass = refl
number_without_index Function = refl
number_without_index Error = refl
number_without_index TypeError = refl
number_without_index RangeError = refl
number_without_index ThrownTypeError = refl
number_without_index ThrownReferenceError = refl
number_without_index Code = refl
number_without_index Event = refl

-- HEADS THAT A SLOT KEEPS

pub plain_storable : (proto : Option ℕ) → IsStorable (head_of (bare Plain proto))
plain_storable None = refl
plain_storable (Some number) = refl

pub bare_storable : (class : Class) → IsStorable (head_of (bare class None))
bare_storable Plain = refl
bare_storable Prototype = refl
bare_storable ArrayClass = refl
bare_storable Function = refl
bare_storable Error = refl
bare_storable TypeError = refl
bare_storable RangeError = refl
bare_storable ThrownTypeError = refl
bare_storable ThrownReferenceError = refl
bare_storable Code = refl
bare_storable Event = refl

pub function_storable : (node scope prototype : ℕ) → IsStorable (head_of (function_object node scope prototype))
function_storable node scope prototype = refl

-- THE SLOT OF A HEAD

pub head_of_slot : (head : StoredObject) → IsStorable head → head_in (slot_of head) ≡ head
head_of_slot head storable = storable

pub chain_of_slot : (head : StoredObject) → chain_in (slot_of head) ≡ record { first = 0; last = 0; count = 0 }
chain_of_slot head = refl

pub index_of_slot : (head : StoredObject) → index_in (slot_of head) ≡ 0
index_of_slot head = number_without_index head.class

array_of_value : (code : Option (ℕ × ℕ)) (proto : Option ℕ) (class : Class)
    → code_in (class_in (class_number class % 16)) (value_of code proto class) ≡ code
    → array_if (class_in (class_number class % 16)) (value_of code proto class) ≡ record { top = 0; count = 0 }
array_of_value (Some code) proto ArrayClass kept = cc
array_of_value None (Some number) ArrayClass kept = refl
array_of_value None None ArrayClass kept = refl
array_of_value code proto Plain kept = refl
array_of_value code proto Prototype kept = refl
array_of_value code proto Function kept = refl
array_of_value code proto Error kept = refl
array_of_value code proto TypeError kept = refl
array_of_value code proto RangeError kept = refl
array_of_value code proto ThrownTypeError kept = refl
array_of_value code proto ThrownReferenceError kept = refl
array_of_value code proto Code kept = refl
array_of_value code proto Event kept = refl

pub array_of_slot : (head : StoredObject) → IsStorable head → array_in (slot_of head) ≡ record { top = 0; count = 0 }
array_of_slot head storable =
    array_of_value head.code head.proto head.class (ap (λ (h : StoredObject). h.code) storable)

-- THE SLOT WITH OTHER PROPERTIES

link_class : (index link : ℕ) → (index * 16 + link % 16) % 16 ≡ link % 16
link_class index link = omega arith

link_index : (index link : ℕ) → (index * 16 + link % 16) / 16 ≡ index
link_index index link = omega arith

pub head_with_chain : (s : Slot) (chain : Chain) (index : ℕ) → head_in (with_chain s chain index) ≡ head_in s
head_with_chain s chain index =
    ap (λ number. record { class = class_in number; proto = proto_in (class_in number) s.value; code = code_in (class_in number) s.value })
    (link_class index s.link)

pub array_with_chain : (s : Slot) (chain : Chain) (index : ℕ) → array_in (with_chain s chain index) ≡ array_in s
array_with_chain s chain index = ap (λ number. array_if (class_in number) s.value) (link_class index s.link)

pub chain_with_chain : (s : Slot) (chain : Chain) (index : ℕ) → chain_in (with_chain s chain index) ≡ chain
chain_with_chain s chain index = refl

pub index_with_chain : (s : Slot) (chain : Chain) (index : ℕ) → index_in (with_chain s chain index) ≡ index
index_with_chain s chain index = link_index index s.link

-- THE SLOT OF AN ARRAY WITH OTHER ELEMENTS

head_with : Class → Value → StoredObject
head_with class value = record { class = class; proto = proto_in class value; code = code_in class value }

array_head : (class : Class) (value : Value) (array : Array) → class ≡ ArrayClass
    → head_with class (Text (record { start = array.top; count = array.count })) ≡ head_with class value
unfolding head_with
array_head ArrayClass value array is = refl
array_head class value array is = cc

array_of_text : (class : Class) (array : Array) → class ≡ ArrayClass → array_if class (Text (record { start = array.top; count = array.count })) ≡ array
array_of_text ArrayClass array is = refl
array_of_text class array is = cc

pub head_with_array : (s : Slot) (array : Array) → (head_in s).class ≡ ArrayClass → head_in (with_array s array) ≡ head_in s
unfolding head_with
head_with_array s array is = array_head (class_in (s.link % 16)) s.value array is

pub array_with_array : (s : Slot) (array : Array) → (head_in s).class ≡ ArrayClass → array_in (with_array s array) ≡ array
array_with_array s array is = array_of_text (class_in (s.link % 16)) array is

pub chain_with_array : (s : Slot) (array : Array) → chain_in (with_array s array) ≡ chain_in s
chain_with_array s array = refl

pub index_with_array : (s : Slot) (array : Array) → index_in (with_array s array) ≡ index_in s
index_with_array s array = refl
