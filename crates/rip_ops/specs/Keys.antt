-- The key of a member: what the value in the brackets becomes (ECMA-262 11.2.1).
use Rattle.std.specs.Prelude.{◌≡◌, ℤ, Result, Ok, Err, unsigned_abs, if◌then◌else◌}
use Rattle.rip_base.specs.declared.value.Span.{Span}
use Rattle.rip_base.specs.declared.value.Value.{Value}
use Rattle.rip_base.specs.declared.value.Value.TheVariants.{Undefined, Null, Bool as Boolean, Num, NaN, Text, Object}
use Rattle.rip_base.specs.declared.value.Fault.{Fault}
use Rattle.rip_base.specs.declared.value.Limit.{Limit}
use Rattle.rip_heap.specs.declared.keys.Key.{Key}
use Rattle.rip_heap.specs.declared.keys.Key.TheVariants.{Name, Index}
use Rattle.rip_heap.specs.declared.outcome.Abrupt.{Abrupt}
use Rattle.rip_heap.specs.declared.outcome.Abrupt.TheVariants.{TypeError, Fault as AtFault, Limit as AtLimit, Memory}
use Rattle.rip_heap.specs.declared.outcome.Halt.{Halt}
use Rattle.rip_heap.specs.declared.outcome.Halt.TheVariants.{Fault as HaltFault, Limit as HaltLimit}
use Rattle.rip_heap.specs.Conversions.{text_of_value}
use Rattle.rip_heap.specs.Keys.{is_index}
use Rattle.rip_heap.specs.World.{World}
use Rattle.rip_ops.specs.declared.access.base.Base.{Base}
use Rattle.rip_ops.specs.declared.access.base.Base.TheVariants.{Nothing, Primitive, Text as TextBase, Plain as PlainBase, Error as ErrorBase, Array as ArrayBase, Function as FunctionBase, Builtin as BuiltinBase, Host as HostBase}
use Rattle.rip_ops.specs.Base.{base_of}

-- how the making of a key ends: with the key and the world after it, with a TypeError to be thrown, with a fault, or with
-- a limit that would be passed
pub data Keying : Type 0 where
  Keys : Key → World → Keying
  Throws : Keying
  Faults : Fault → Keying
  Exceeds : Limit → Keying

-- the answer is this end; where there is no key the world is as before. Memory is never wanting
abbrev pub IsKeying : Keying → World → Result Key Abrupt → World → Type 0
IsKeying meant old (Ok key) new = meant ≡ Keys key new
IsKeying meant old (Err TypeError) new = (meant ≡ Throws) × (new ≡ old)
IsKeying meant old (Err (AtFault fault)) new = (meant ≡ Faults fault) × (new ≡ old)
IsKeying meant old (Err (AtLimit limit)) new = (meant ≡ Exceeds limit) × (new ≡ old)
IsKeying meant old (Err Memory) new = ⊥

-- how it ends where the conversion to a text halts
abbrev pub halting : Halt → Keying
halting (HaltFault fault) = Faults fault
halting (HaltLimit limit) = Exceeds limit

abbrev pub named_by : Result Span Halt → World → Keying
named_by (Ok name) w = Keys (Name name) w
named_by (Err halt) w = halting halt

-- the name that a value spells (9.8), at the charge of its conversion
abbrev pub named : World → Value → Keying
named w key = named_by (text_of_value w key).0 (text_of_value w key).1

-- of a text or an array an index costs nothing, other numerals do
abbrev pub number_key : World → ℤ → Keying
number_key w z = if is_index z then Keys (Index (unsigned_abs z)) w else named w (Num z)

abbrev pub indexed : World → Value → Keying
indexed w (Num z) = number_key w z
indexed w Undefined = named w Undefined
indexed w Null = named w Null
indexed w (Boolean b) = named w (Boolean b)
indexed w NaN = named w NaN
indexed w (Text span) = named w (Text span)
indexed w (Object n) = named w (Object n)

-- by the kind of the base, which is judged before the key
abbrev pub keyed : World → Base → Value → Keying
keyed w Nothing key = Throws
keyed w (TextBase text) key = indexed w key
keyed w (ArrayBase n) key = indexed w key
keyed w Primitive key = named w key
keyed w (PlainBase n) key = named w key
keyed w (ErrorBase n) key = named w key
keyed w (FunctionBase n) key = named w key
keyed w (BuiltinBase n) key = named w key
keyed w (HostBase n) key = named w key

-- the key of a member of this base
abbrev pub key_of : World → Value → Value → Keying
key_of w base key = keyed w (base_of w base) key
