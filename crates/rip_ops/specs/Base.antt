-- What a value is as the base of a member.
use Rattle.std.specs.Prelude.{ℕ, ◌||◌, ◌==◌, Option, None, Some, nat_le, if◌then◌else◌}
use Rattle.rip_base.specs.declared.value.Value.{Value}
use Rattle.rip_base.specs.declared.value.Value.TheVariants.{Undefined, Null, Bool as Boolean, Num, NaN, Text, Object}
use Rattle.rip_values.specs.declared.builtin.Builtin.TheVariants.{Ripley}
use Rattle.rip_values.specs.Builtins.{number_of}
use Rattle.rip_heap.specs.declared.class.Class.{Class}
use Rattle.rip_heap.specs.declared.class.Class.TheVariants.{Plain, Prototype, Array, Function, Error, TypeError, RangeError, ThrownTypeError, ThrownReferenceError, Code, Event}
use Rattle.rip_heap.specs.World.{World, Object as HeapObject, object_at, first_node}
use Rattle.rip_ops.specs.declared.access.base.Base.{Base}
use Rattle.rip_ops.specs.declared.access.base.Base.TheVariants.{Nothing, Primitive, Text as TextBase, Plain as PlainBase, Error as ErrorBase, Array as ArrayBase, Function as FunctionBase, Builtin as BuiltinBase, Host as HostBase}

-- an object of the heap, by its class
abbrev pub base_of_class : ℕ → Class → Base
base_of_class n Plain = PlainBase n
base_of_class n Prototype = PlainBase n
base_of_class n Code = PlainBase n
base_of_class n Array = ArrayBase n
base_of_class n Function = FunctionBase n
base_of_class n Error = ErrorBase n
base_of_class n TypeError = ErrorBase n
base_of_class n RangeError = ErrorBase n
base_of_class n ThrownTypeError = ErrorBase n
base_of_class n ThrownReferenceError = ErrorBase n
base_of_class n Event = HostBase n

-- a number that is no object of the heap: a node and `ripley` are the host's, and all others count as built-ins
abbrev pub base_of_number : ℕ → Base
base_of_number n = if nat_le first_node n || n == number_of Ripley then HostBase n else BuiltinBase n

abbrev pub base_of_object : ℕ → Option HeapObject → Base
base_of_object n None = base_of_number n
base_of_object n (Some o) = base_of_class n o.class

-- the kind of the base of a reference (ECMA-262 8.7)
abbrev pub base_of : World → Value → Base
base_of w Undefined = Nothing
base_of w Null = Nothing
base_of w (Boolean b) = Primitive
base_of w (Num z) = Primitive
base_of w NaN = Primitive
base_of w (Text span) = TextBase span
base_of w (Object n) = base_of_object n (object_at w n)
