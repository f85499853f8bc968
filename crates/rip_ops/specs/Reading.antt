-- What reading a member gives (ECMA-262 8.7.1 and 8.12.3), by the kind of its base.
use Rattle.std.specs.Prelude.{ℕ, pos, Bool, true, false, ◌+◌, ◌==◌, ◌&&◌, Option, None, Some, length, nat_lt, slice_get, unwrap_or, if◌then◌else◌}
use Rattle.rip_base.specs.declared.value.Span.{Span}
use Rattle.rip_base.specs.declared.value.Value.{Value}
use Rattle.rip_base.specs.declared.value.Value.TheVariants.{Undefined, Num, Text, Object}
use Rattle.rip_base.specs.declared.value.Fault.TheVariants.{NotInProfile}
use Rattle.rip_values.specs.declared.fixed.FixedText.{FixedText}
use Rattle.rip_values.specs.declared.fixed.FixedText.TheVariants.{Empty, Error as ErrorText, TypeError as TypeErrorText, RangeError as RangeErrorText, ReferenceError as ReferenceErrorText, HasOwnProperty as HasOwnPropertyText, Call, Name as NameText, Message, Length}
use Rattle.rip_values.specs.declared.builtin.Builtin.{Builtin}
use Rattle.rip_values.specs.declared.builtin.Builtin.TheVariants.{Math, HasOwnProperty, FunctionCall}
use Rattle.rip_values.specs.Builtins.{number_of}
use Rattle.rip_values.specs.Pool.{Texts, text_at}
use Rattle.rip_heap.specs.declared.class.Class.{Class}
use Rattle.rip_heap.specs.declared.class.Class.TheVariants.{Plain, Prototype, Array, Function, Error, TypeError, RangeError, ThrownTypeError, ThrownReferenceError, Code, Event}
use Rattle.rip_heap.specs.declared.keys.Found.{Found}
use Rattle.rip_heap.specs.declared.keys.Found.TheVariants.{Here, Barred, Nowhere}
use Rattle.rip_heap.specs.declared.keys.Key.{Key}
use Rattle.rip_heap.specs.declared.keys.Key.TheVariants.{Name, Index}
use Rattle.rip_heap.specs.Arrays.{elements_at}
use Rattle.rip_heap.specs.Conversions.{span_of}
use Rattle.rip_heap.specs.Keys.{is_named, index_of, is_of_object_prototype, is_underscored, look_up}
use Rattle.rip_heap.specs.Objects.{own, find}
use Rattle.rip_heap.specs.World.{World, object_at, class_of}
use Rattle.rip_ops.specs.declared.access.base.Base.{Base}
use Rattle.rip_ops.specs.declared.access.base.Base.TheVariants.{Nothing, Primitive, Text as TextBase, Plain as PlainBase, Error as ErrorBase, Array as ArrayBase, Function as FunctionBase, Builtin as BuiltinBase, Host as HostBase}
use Rattle.rip_ops.specs.declared.access.outcome.Read.{Read}
use Rattle.rip_ops.specs.declared.access.outcome.Read.TheVariants.{Value as Gives, TypeFault as Throws, Fault as Faults, Host as AsksHost}
use Rattle.rip_ops.specs.Base.{base_of}
use Rattle.rip_ops.specs.CallTable.{calls_of_texts, calls_of_arrays, calls_of_math}
use Rattle.rip_ops.specs.Calls.{call_named}

-- a built-in as a value, or that the profile has no such member
abbrev pub call_or_fault : Option Builtin → Read
call_or_fault None = Faults NotInProfile
call_or_fault (Some call) = Gives (Object (number_of call))

-- TEXTS (15.5.5)

-- the text of the unit at this place, a piece of the text that costs nothing, or undefined past the end
abbrev pub unit_of : Texts → Span → ℕ → Read
unit_of pool text i =
    if nat_lt i (length (text_at pool text)) then Gives (Text (record { start = text.start + i; count = 1 }))
    else Gives Undefined

abbrev pub text_member : Texts → Span → Span → Option ℕ → Read
text_member pool text name (Some i) = unit_of pool text i
text_member pool text name None =
    if is_named pool name Length then Gives (Num (pos (length (text_at pool text))))
    else call_or_fault (call_named pool name calls_of_texts)

-- ARRAYS (15.4.5)

-- the element at this place, or undefined past the end
abbrev pub element_of : World → ℕ → ℕ → Read
element_of w n i = Gives (unwrap_or (slice_get (elements_at w n) i) Undefined)

abbrev pub array_member : World → ℕ → Span → Option ℕ → Read
array_member w n name (Some i) = element_of w n i
array_member w n name None =
    if is_named w.pool name Length then Gives (Num (pos (length (elements_at w n))))
    else call_or_fault (call_named w.pool name calls_of_arrays)

-- PLAIN OBJECTS

-- what no object on the way has (15.2.4): of the names of the standard's Object.prototype the profile has one alone
abbrev pub absent : Texts → Span → Read
absent pool name =
    if is_named pool name HasOwnPropertyText then Gives (Object (number_of HasOwnProperty))
    else if is_of_object_prototype pool name then Faults NotInProfile
    else Gives Undefined

abbrev pub found : World → ℕ → Span → Found → Read
found w n name Here = Gives (unwrap_or (find w n name) Undefined)
found w n name Barred = Faults NotInProfile
found w n name Nowhere = absent w.pool name

-- ERRORS (15.11)

-- the evaluator threw an error of this class
abbrev pub is_thrown : Class → Bool
is_thrown Plain = false
is_thrown Prototype = false
is_thrown Array = false
is_thrown Function = false
is_thrown Error = false
is_thrown TypeError = false
is_thrown RangeError = false
is_thrown ThrownTypeError = true
is_thrown ThrownReferenceError = true
is_thrown Code = false
is_thrown Event = false

-- the name of the errors of a class (15.11.4.2, 15.11.7.9); what is no error has that of `Error`
abbrev pub error_name : Class → FixedText
error_name Plain = ErrorText
error_name Prototype = ErrorText
error_name Array = ErrorText
error_name Function = ErrorText
error_name Error = ErrorText
error_name TypeError = TypeErrorText
error_name RangeError = RangeErrorText
error_name ThrownTypeError = TypeErrorText
error_name ThrownReferenceError = ReferenceErrorText
error_name Code = ErrorText
error_name Event = ErrorText

-- what an error has where it has no property of its own of that name
abbrev pub error_default : Texts → Class → Span → Read
error_default pool class name =
    if is_named pool name NameText then Gives (Text (span_of (error_name class)))
    else if is_named pool name Message then Gives (Text (span_of Empty))
    else absent pool name

-- the own property, or else this
abbrev pub own_or : Option Value → Read → Read
own_or None other = other
own_or (Some v) other = Gives v

-- the message of an error that the evaluator threw is outside the profile, whatever was put there
abbrev pub error_member : World → ℕ → Class → Span → Read
error_member w n class name =
    if is_thrown class && is_named w.pool name Message then Faults NotInProfile
    else own_or (own w n name) (error_default w.pool class name)

-- FUNCTIONS

-- what a function of the script has beside its own properties (15.3.4.4)
abbrev pub function_default : Texts → Span → Read
function_default pool name = if is_named pool name Call then Gives (Object (number_of FunctionCall)) else Faults NotInProfile

-- `Math` has its calls, and no other built-in has a member (15.8.2)
abbrev pub builtin_member : Texts → ℕ → Span → Read
builtin_member pool n name = if n == number_of Math then call_or_fault (call_named pool name calls_of_math) else Faults NotInProfile

-- MEMBERS

-- the member of this name, row by row
abbrev pub member : World → Base → Span → Read
member w Nothing name = Throws
member w Primitive name = Faults NotInProfile
member w (TextBase text) name = text_member w.pool text name (index_of w.pool name)
member w (ArrayBase n) name = array_member w n name (index_of w.pool name)
member w (PlainBase n) name = found w n name (look_up w n name)
member w (ErrorBase n) name = error_member w n (class_of (object_at w n)) name
member w (FunctionBase n) name = own_or (own w n name) (function_default w.pool name)
member w (BuiltinBase n) name = builtin_member w.pool n name
member w (HostBase n) name = AsksHost n name

-- undefined and null have no members (8.7.1), and names that begin with two underscores are outside the profile
abbrev pub read_name : World → Base → Span → Read
read_name w Nothing name = Throws
read_name w base name = if is_underscored (text_at w.pool name) then Faults NotInProfile else member w base name

-- the member at an index that is not made a name: texts and arrays alone have such
abbrev pub read_index : World → Base → ℕ → Read
read_index w Nothing i = Throws
read_index w Primitive i = Faults NotInProfile
read_index w (TextBase text) i = unit_of w.pool text i
read_index w (ArrayBase n) i = element_of w n i
read_index w (PlainBase n) i = Faults NotInProfile
read_index w (ErrorBase n) i = Faults NotInProfile
read_index w (FunctionBase n) i = Faults NotInProfile
read_index w (BuiltinBase n) i = Faults NotInProfile
read_index w (HostBase n) i = Faults NotInProfile

-- what reading this member of the value gives (11.2.1)
abbrev pub read : World → Value → Key → Read
read w v (Name name) = read_name w (base_of w v) name
read w v (Index i) = read_index w (base_of w v) i
