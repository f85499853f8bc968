-- What writing a member does (ECMA-262 8.7.2 and 8.12.5), by the kind of its base.
use Rattle.std.specs.Prelude.{◌≡◌, ℕ, ℤ, pos, negsuc, Bool, ◌||◌, ◌==◌, Option, None, Some, Result, Ok, Err, length, nat_le, nat_lt, if◌then◌else◌}
use Rattle.rip_base.specs.declared.value.Span.{Span}
use Rattle.rip_base.specs.declared.value.Value.{Value}
use Rattle.rip_base.specs.declared.value.Value.TheVariants.{Undefined, Null, Bool as Boolean, Num, NaN, Text, Object}
use Rattle.rip_base.specs.declared.value.Fault.{Fault}
use Rattle.rip_base.specs.declared.value.Fault.TheVariants.{NotInProfile, Hole}
use Rattle.rip_base.specs.declared.value.Limit.{Limit}
use Rattle.rip_base.specs.declared.value.Limit.TheVariants.{Cells}
use Rattle.rip_values.specs.declared.fixed.FixedText.TheVariants.{Call, Name as NameText, Length}
use Rattle.rip_values.specs.Pool.{Texts, text_at}
use Rattle.rip_heap.specs.declared.keys.Key.{Key}
use Rattle.rip_heap.specs.declared.keys.Key.TheVariants.{Name, Index}
use Rattle.rip_heap.specs.declared.outcome.Abrupt.{Abrupt}
use Rattle.rip_heap.specs.declared.outcome.Abrupt.TheVariants.{TypeError, Fault as AtFault, Limit as AtLimit, Memory}
use Rattle.rip_heap.specs.Arrays.{elements_at, with_item, push_item, cut}
use Rattle.rip_heap.specs.Keys.{is_barred, is_named, index_of, is_underscored}
use Rattle.rip_heap.specs.Objects.{put}
use Rattle.rip_heap.specs.World.{World, object_at, class_of}
use Rattle.rip_ops.specs.declared.access.base.Base.{Base}
use Rattle.rip_ops.specs.declared.access.base.Base.TheVariants.{Nothing, Primitive, Text as TextBase, Plain as PlainBase, Error as ErrorBase, Array as ArrayBase, Function as FunctionBase, Builtin as BuiltinBase, Host as HostBase}
use Rattle.rip_ops.specs.declared.access.outcome.Written.{Written}
use Rattle.rip_ops.specs.declared.access.outcome.Written.TheVariants.{Done, Host}
use Rattle.rip_ops.specs.Base.{base_of}

-- how a change of a member ends: with the world after it, with a TypeError to be thrown, with a fault, with a limit that
-- would be passed, or with a question to the host
pub data Writing : Type 0 where
  Writes : World → Writing
  Throws : Writing
  Faults : Fault → Writing
  Exceeds : Limit → Writing
  AsksHost : ℕ → Span → Writing

-- the answer is this end; where nothing is written the world is as before. Memory is never wanting
abbrev pub IsWriting : Writing → World → Result Written Abrupt → World → Type 0
IsWriting meant old (Ok Done) new = meant ≡ Writes new
IsWriting meant old (Ok (Host n name)) new = (meant ≡ AsksHost n name) × (new ≡ old)
IsWriting meant old (Err TypeError) new = (meant ≡ Throws) × (new ≡ old)
IsWriting meant old (Err (AtFault fault)) new = (meant ≡ Faults fault) × (new ≡ old)
IsWriting meant old (Err (AtLimit limit)) new = (meant ≡ Exceeds limit) × (new ≡ old)
IsWriting meant old (Err Memory) new = ⊥

-- a step that costs cells, or that would pass their limit
abbrev pub stepped : Option World → Writing
stepped None = Exceeds Cells
stepped (Some next) = Writes next

-- ARRAYS (15.4.5.1)

-- an element below the length is replaced, one at the length put behind the others, and no array gets a hole
abbrev pub write_element : World → ℕ → ℕ → Value → Writing
write_element w n i v =
    if nat_lt i (length (elements_at w n)) then Writes (with_item w n i v)
    else if i == length (elements_at w n) then stepped (push_item w n v)
    else Faults Hole

abbrev pub write_length_of : World → ℕ → ℤ → Writing
write_length_of w n (pos count) = if nat_le count (length (elements_at w n)) then Writes (cut w n count) else Faults Hole
write_length_of w n (negsuc k) = Faults NotInProfile

-- a length that is not above the old one cuts the array
abbrev pub write_length : World → ℕ → Value → Writing
write_length w n (Num z) = write_length_of w n z
write_length w n Undefined = Faults NotInProfile
write_length w n Null = Faults NotInProfile
write_length w n (Boolean b) = Faults NotInProfile
write_length w n NaN = Faults NotInProfile
write_length w n (Text span) = Faults NotInProfile
write_length w n (Object m) = Faults NotInProfile

abbrev pub write_array : World → ℕ → Span → Value → Option ℕ → Writing
write_array w n name v (Some i) = write_element w n i v
write_array w n name v None = if is_named w.pool name Length then write_length w n v else Faults NotInProfile

-- FUNCTIONS

-- the names that functions of the script have in the standard, and that the profile does not let them change
abbrev pub is_of_functions : Texts → Span → Bool
is_of_functions pool name = is_named pool name Length || is_named pool name NameText || is_named pool name Call

-- MEMBERS

-- the member of this name, row by row
abbrev pub written : World → Base → Span → Value → Writing
written w Nothing name v = Throws
written w Primitive name v = Throws
written w (TextBase text) name v = Throws
written w (ArrayBase n) name v = write_array w n name v (index_of w.pool name)
written w (PlainBase n) name v = if is_barred w.pool name (class_of (object_at w n)) then Faults NotInProfile else stepped (put w n name v)
written w (ErrorBase n) name v = stepped (put w n name v)
written w (FunctionBase n) name v = if is_of_functions w.pool name then Faults NotInProfile else stepped (put w n name v)
written w (BuiltinBase n) name v = Faults NotInProfile
written w (HostBase n) name v = AsksHost n name

-- undefined and null have no members (8.7.2), and names that begin with two underscores are outside the profile
abbrev pub write_name : World → Base → Span → Value → Writing
write_name w Nothing name v = Throws
write_name w base name v = if is_underscored (text_at w.pool name) then Faults NotInProfile else written w base name v

-- the member at an index that is not made a name: of what has members to change, arrays alone have such
abbrev pub write_index : World → Base → ℕ → Value → Writing
write_index w Nothing i v = Throws
write_index w Primitive i v = Throws
write_index w (TextBase text) i v = Throws
write_index w (ArrayBase n) i v = write_element w n i v
write_index w (PlainBase n) i v = Faults NotInProfile
write_index w (ErrorBase n) i v = Faults NotInProfile
write_index w (FunctionBase n) i v = Faults NotInProfile
write_index w (BuiltinBase n) i v = Faults NotInProfile
write_index w (HostBase n) i v = Faults NotInProfile

-- what it means to give this member of the base the value (11.13.1)
abbrev pub write : World → Value → Key → Value → Writing
write w base (Name name) v = write_name w (base_of w base) name v
write w base (Index i) v = write_index w (base_of w base) i v
