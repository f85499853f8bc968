-- How the head of an object stands in its slot, with the places of its properties and of its elements. No public clause
-- cites this.
use Rattle.std.specs.Prelude.{◌≡◌, ℕ, ◌+◌, ◌*◌, ◌/◌, ◌%◌, ◌==◌, if◌then◌else◌, Option, None, Some}
use Rattle.rip_base.specs.declared.value.Value.{Value}
use Rattle.rip_base.specs.declared.value.Value.TheVariants.{Undefined, Text, Object}
use Rattle.rip_heap_region.specs.declared.pages.slot.Slot.{Slot}
use Rattle.rip_heap_region.specs.declared.chains.chain.Chain.{Chain}
use Rattle.rip_heap_region.specs.declared.segments.array.Array.{Array}
use Rattle.rip_heap.specs.declared.class.Class.{Class}
use Rattle.rip_heap.specs.declared.class.Class.TheVariants.{Plain, Prototype, Array as ArrayClass, Function, Error, TypeError, RangeError, ThrownTypeError, ThrownReferenceError, Code, Event}
use Rattle.rip_heap.specs.declared.stored.StoredObject.{StoredObject}

-- the number of a class, in the order in which they are told
abbrev pub class_number : Class → ℕ
class_number Plain = 0
class_number Prototype = 1
class_number ArrayClass = 2
class_number Function = 3
class_number Error = 4
class_number TypeError = 5
class_number RangeError = 6
class_number ThrownTypeError = 7
class_number ThrownReferenceError = 8
class_number Code = 9
class_number Event = 10

-- the class of that number; any other number is of a plain object
abbrev pub class_in : ℕ → Class
class_in number =
    if number == 1 then Prototype
    else if number == 2 then ArrayClass
    else if number == 3 then Function
    else if number == 4 then Error
    else if number == 5 then TypeError
    else if number == 6 then RangeError
    else if number == 7 then ThrownTypeError
    else if number == 8 then ThrownReferenceError
    else if number == 9 then Code
    else if number == 10 then Event
    else Plain

-- the prototype in the value of a slot; an array has none
abbrev pub proto_in : Class → Value → Option ℕ
proto_in ArrayClass value = None
proto_in class (Object number) = Some number
proto_in class value = None

-- the node and the scope in the value of a slot, which a function has
abbrev pub code_in : Class → Value → Option (ℕ × ℕ)
code_in Function (Text code) = Some (code.start, code.count)
code_in class value = None

-- where the elements lie by the value of a slot, if it is of an array
abbrev pub array_if : Class → Value → Array
array_if ArrayClass (Text array) = record { top = array.start; count = array.count }
array_if class value = record { top = 0; count = 0 }

-- the head of the object
abbrev pub head_in : Slot → StoredObject
head_in s = record {
  class = class_in (s.link % 16);
  proto = proto_in (class_in (s.link % 16)) s.value;
  code = code_in (class_in (s.link % 16)) s.value;
}

-- where its properties stand
abbrev pub chain_in : Slot → Chain
chain_in s = record { first = s.name.start; last = s.name.count; count = s.next }

-- the number of its index of names, or 0
abbrev pub index_in : Slot → ℕ
index_in s = s.link / 16

-- where its elements lie
abbrev pub array_in : Slot → Array
array_in s = array_if (class_in (s.link % 16)) s.value

-- the value of a slot for an object of this code, this prototype and this class
abbrev pub value_of : Option (ℕ × ℕ) → Option ℕ → Class → Value
value_of (Some code) proto class = Text (record { start = code.0; count = code.1 })
value_of None (Some number) class = Object number
value_of None None ArrayClass = Text (record { start = 0; count = 0 })
value_of None None class = Undefined

-- the same for an object with that head
abbrev pub value_of_head : StoredObject → Value
value_of_head head = value_of head.code head.proto head.class

-- the slot of an object with that head, without properties, elements and index
abbrev pub slot_of : StoredObject → Slot
slot_of head = record {
  value = value_of_head head;
  name = record { start = 0; count = 0 };
  next = 0;
  link = class_number head.class;
}

-- a slot keeps all of the head: it is none of an array or a function with a prototype, and only functions have code
abbrev pub IsStorable : StoredObject → Type 0
IsStorable head = head_in (slot_of head) ≡ head

-- the slot with these properties and the index of that number
abbrev pub with_chain : Slot → Chain → ℕ → Slot
with_chain s chain index = record s {
  name = record { start = chain.first; count = chain.last };
  next = chain.count;
  link = index * 16 + s.link % 16;
}

-- the slot of an array with these elements
abbrev pub with_array : Slot → Array → Slot
with_array s array = record s { value = Text (record { start = array.top; count = array.count }) }
