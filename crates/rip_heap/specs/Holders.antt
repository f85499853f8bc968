-- What has properties by name: the objects that `in` and `hasOwnProperty` know.
use Rattle.std.specs.Prelude.{◌≡◌, ℕ, Option, None, Some, Result, Ok, Err}
use Rattle.rip_base.specs.declared.value.Value.{Value}
use Rattle.rip_base.specs.declared.value.Value.TheVariants.{Num}
use Rattle.rip_base.specs.declared.value.Fault.TheVariants.{NotInProfile}
use Rattle.rip_heap.specs.declared.class.Class.{Class}
use Rattle.rip_heap.specs.declared.class.Class.TheVariants.{Plain, Prototype, Array, Function, Error, TypeError, RangeError, ThrownTypeError, ThrownReferenceError, Code, Event}
use Rattle.rip_heap.specs.declared.holder.Asked.{Asked}
use Rattle.rip_heap.specs.declared.holder.Asked.TheVariants.{Name, Numeral, Element, ArrayName}
use Rattle.rip_heap.specs.declared.holder.Holder.{Holder}
use Rattle.rip_heap.specs.declared.holder.Holder.TheVariants.{PlainObject, ArrayObject, OtherObject}
use Rattle.rip_heap.specs.declared.outcome.Abrupt.{Abrupt}
use Rattle.rip_heap.specs.Conversions.{text_of_value}
use Rattle.rip_heap.specs.Outcome.{Outcome, Answers, Faults, after_text}
use Rattle.rip_heap.specs.World.{World, Object, object_at}

-- what holds the name: arrays and plain objects do, of which thrown codes are some, and others are outside the profile
abbrev pub holder_of_class : Class → Holder
holder_of_class Plain = PlainObject
holder_of_class Prototype = PlainObject
holder_of_class Code = PlainObject
holder_of_class Array = ArrayObject
holder_of_class Function = OtherObject
holder_of_class Error = OtherObject
holder_of_class TypeError = OtherObject
holder_of_class RangeError = OtherObject
holder_of_class ThrownTypeError = OtherObject
holder_of_class ThrownReferenceError = OtherObject
holder_of_class Event = OtherObject

-- a number that is no object of the heap is a built-in or a node
abbrev pub holder_of : Option Object → Holder
holder_of None = OtherObject
holder_of (Some o) = holder_of_class o.class

-- the conversion of the key, and then the fault
abbrev pub not_in_profile : World → Value → Outcome
not_in_profile w key = after_text (text_of_value w key) (λ name v. Faults NotInProfile)

-- how it ends to ask a plain object or an array by a key, by what is answered where it is asked
abbrev pub asking_by : Holder → World → Value → (Asked → World → Outcome) → Outcome
asking_by OtherObject w key answer = not_in_profile w key
asking_by PlainObject w (Num z) answer = after_text (text_of_value w (Num z)) (λ name v. answer (Numeral name) v)
asking_by PlainObject w key answer = after_text (text_of_value w key) (λ name v. answer (Name name) v)
asking_by ArrayObject w (Num z) answer = answer (Element z) w
asking_by ArrayObject w key answer = after_text (text_of_value w key) (λ name v. answer (ArrayName name) v)

-- the same of the object of that number
abbrev pub asking : World → ℕ → Value → (Asked → World → Outcome) → Outcome
asking w n key answer = asking_by (holder_of (object_at w n)) w key answer

-- this is asked in that world, whatever is answered to it
abbrev pub Asks : ((Asked → World → Outcome) → Outcome) → Asked → World → Type 0
Asks outcome what w = (answer : Asked → World → Outcome) → outcome answer ≡ answer what w

-- what is asked, in a world as before but for a numeral, or why nothing is
abbrev pub IsAsked : ((Asked → World → Outcome) → Outcome) → World → Result Asked Abrupt → World → Type 0
IsAsked outcome old (Ok (Name name)) new = Asks outcome (Name name) new × (new ≡ old)
IsAsked outcome old (Ok (Numeral name)) new = Asks outcome (Numeral name) new
IsAsked outcome old (Ok (Element z)) new = Asks outcome (Element z) new × (new ≡ old)
IsAsked outcome old (Ok (ArrayName name)) new = Asks outcome (ArrayName name) new × (new ≡ old)
IsAsked outcome old (Err abrupt) new = (answer : Asked → World → Outcome) → Answers (outcome answer) old (Err abrupt) new
