use Rattle.std.specs.Prelude.{ℕ, zero, suc, Bool, true, false, ◌||◌, ◌==◌, Option, None, Some, nat_lt, if◌then◌else◌}
use Rattle.rip_base.specs.declared.value.Value.{Value}
use Rattle.rip_base.specs.declared.value.Value.TheVariants.{Undefined, Null, Bool as Boolean, Num, NaN, Text, Object}
use Rattle.rip_base.specs.declared.value.Fault.TheVariants.{NotInProfile}
use Rattle.rip_values.specs.Builtins.{number_of}
use Rattle.rip_values.specs.declared.builtin.Builtin.TheVariants.{Error as ErrorBuiltin, TypeError as TypeErrorBuiltin, RangeError as RangeErrorBuiltin}
use Rattle.rip_heap.specs.declared.class.Class.{Class}
use Rattle.rip_heap.specs.declared.class.Class.TheVariants.{Plain, Prototype, Array, Function, Error, TypeError, RangeError, ThrownTypeError, ThrownReferenceError, Code, Event}
use Rattle.rip_heap.specs.Objects.{own, prototype_name}
use Rattle.rip_heap.specs.World.{World, object_at, class_of, proto_of, first_object}
use Rattle.rip_heap.specs.Outcome.{Outcome, Gives, Throws, Faults}

-- THE THREE BUILT-INS OF ERRORS (ECMA-262 15.11)

-- the classes of errors
abbrev pub is_error : Class → Bool
is_error Plain = false
is_error Prototype = false
is_error Array = false
is_error Function = false
is_error Error = true
is_error TypeError = true
is_error RangeError = true
is_error ThrownTypeError = true
is_error ThrownReferenceError = true
is_error Code = false
is_error Event = false

-- the classes of type errors
abbrev pub is_type_error : Class → Bool
is_type_error Plain = false
is_type_error Prototype = false
is_type_error Array = false
is_type_error Function = false
is_type_error Error = false
is_type_error TypeError = true
is_type_error RangeError = false
is_type_error ThrownTypeError = true
is_type_error ThrownReferenceError = false
is_type_error Code = false
is_type_error Event = false

-- the class of range errors
abbrev pub is_range_error : Class → Bool
is_range_error Plain = false
is_range_error Prototype = false
is_range_error Array = false
is_range_error Function = false
is_range_error Error = false
is_range_error TypeError = false
is_range_error RangeError = true
is_range_error ThrownTypeError = false
is_range_error ThrownReferenceError = false
is_range_error Code = false
is_range_error Event = false

-- the value is an object of such a class; a primitive is none
abbrev pub is_of : World → (Class → Bool) → Value → Bool
is_of w test Undefined = false
is_of w test Null = false
is_of w test (Boolean b) = false
is_of w test (Num z) = false
is_of w test NaN = false
is_of w test (Text span) = false
is_of w test (Object n) = test (class_of (object_at w n))

-- of the built-ins the three of errors alone have instances in the profile
abbrev pub instance_of_builtin : World → Value → ℕ → Outcome
instance_of_builtin w a n =
    if n == number_of ErrorBuiltin then Gives (Boolean (is_of w is_error a)) w
    else if n == number_of TypeErrorBuiltin then Gives (Boolean (is_of w is_type_error a)) w
    else if n == number_of RangeErrorBuiltin then Gives (Boolean (is_of w is_range_error a)) w
    else Faults NotInProfile

-- FUNCTIONS OF THE SCRIPT

-- the prototype is this object, or the search goes on above it
abbrev pub met : Option ℕ → ℕ → (ℕ → Bool) → Bool
met None p further = false
met (Some up) p further = up == p || further up

-- the object p is among the first k prototypes above the object n
abbrev pub is_within : ℕ → World → ℕ → ℕ → Bool
is_within zero w n p = false
is_within (suc k) w n p = met (proto_of (object_at w n)) p (λ up. is_within k w up p)

-- the object p is among the prototypes above the object n, which all have lesser numbers
unfoldable pub is_above : World → ℕ → ℕ → Bool
is_above w n p = is_within n w n p

-- whether the object is among the prototypes of the value, if the `prototype` is one at all
abbrev pub has_above : World → ℕ → Option Value → Outcome
has_above w n None = Throws
has_above w n (Some Undefined) = Throws
has_above w n (Some Null) = Throws
has_above w n (Some (Boolean b)) = Throws
has_above w n (Some (Num z)) = Throws
has_above w n (Some NaN) = Throws
has_above w n (Some (Text span)) = Throws
has_above w n (Some (Object p)) = Gives (Boolean (is_above w n p)) w

-- HasInstance of a function of the script (ECMA-262 15.3.5.3)
abbrev pub has_instance : World → Value → ℕ → Outcome
has_instance w Undefined f = Gives (Boolean false) w
has_instance w Null f = Gives (Boolean false) w
has_instance w (Boolean b) f = Gives (Boolean false) w
has_instance w (Num z) f = Gives (Boolean false) w
has_instance w NaN f = Gives (Boolean false) w
has_instance w (Text span) f = Gives (Boolean false) w
has_instance w (Object n) f = has_above w n (own w f prototype_name)

-- `instanceof` by the class of the right side: a function of the script, or else a TypeError
abbrev pub instance_of_class : World → Value → ℕ → Class → Outcome
instance_of_class w a n Function = has_instance w a n
instance_of_class w a n Plain = Throws
instance_of_class w a n Prototype = Throws
instance_of_class w a n Array = Throws
instance_of_class w a n Error = Throws
instance_of_class w a n TypeError = Throws
instance_of_class w a n RangeError = Throws
instance_of_class w a n ThrownTypeError = Throws
instance_of_class w a n ThrownReferenceError = Throws
instance_of_class w a n Code = Throws
instance_of_class w a n Event = Throws

-- `instanceof` (ECMA-262 11.8.6): all that is no function on the right is a TypeError
abbrev pub instance_of : World → Value → Value → Outcome
instance_of w a Undefined = Throws
instance_of w a Null = Throws
instance_of w a (Boolean b) = Throws
instance_of w a (Num z) = Throws
instance_of w a NaN = Throws
instance_of w a (Text span) = Throws
instance_of w a (Object n) = if nat_lt n first_object then instance_of_builtin w a n else instance_of_class w a n (class_of (object_at w n))
