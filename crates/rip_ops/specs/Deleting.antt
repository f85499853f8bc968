-- What `delete` of a member does (ECMA-262 8.12.7 and 11.4.1), by the kind of its base.
use Rattle.std.specs.Prelude.{◌≡◌, ℕ, Option, None, Some, Result, Ok, Err, length, nat_lt, if◌then◌else◌}
use Rattle.rip_base.specs.declared.value.Span.{Span}
use Rattle.rip_base.specs.declared.value.Value.{Value}
use Rattle.rip_base.specs.declared.value.Fault.TheVariants.{NotInProfile, Hole}
use Rattle.rip_values.specs.Pool.{text_at}
use Rattle.rip_heap.specs.declared.keys.Key.{Key}
use Rattle.rip_heap.specs.declared.keys.Key.TheVariants.{Name, Index}
use Rattle.rip_heap.specs.declared.outcome.Abrupt.{Abrupt}
use Rattle.rip_heap.specs.declared.outcome.Abrupt.TheVariants.{TypeError, Fault as AtFault, Limit as AtLimit, Memory}
use Rattle.rip_heap.specs.Arrays.{elements_at}
use Rattle.rip_heap.specs.Keys.{is_barred, index_of, is_underscored}
use Rattle.rip_heap.specs.Objects.{removed}
use Rattle.rip_heap.specs.World.{World, object_at, class_of}
use Rattle.rip_ops.specs.declared.access.base.Base.{Base}
use Rattle.rip_ops.specs.declared.access.base.Base.TheVariants.{Nothing, Primitive, Text as TextBase, Plain as PlainBase, Error as ErrorBase, Array as ArrayBase, Function as FunctionBase, Builtin as BuiltinBase, Host as HostBase}
use Rattle.rip_ops.specs.Base.{base_of}
use Rattle.rip_ops.specs.Writing.{Writing, Writes, Throws, Faults}

-- the answer is this end; where nothing is taken away the world is as before. No limit is passed, and memory is never
-- wanting
abbrev pub IsDeleting : Writing → World → Result (Unit {0}) Abrupt → World → Type 0
IsDeleting meant old (Ok done) new = meant ≡ Writes new
IsDeleting meant old (Err TypeError) new = (meant ≡ Throws) × (new ≡ old)
IsDeleting meant old (Err (AtFault fault)) new = (meant ≡ Faults fault) × (new ≡ old)
IsDeleting meant old (Err (AtLimit limit)) new = ⊥
IsDeleting meant old (Err Memory) new = ⊥

-- an element that is there would leave a hole, and one that is not there is gone already
abbrev pub delete_element : World → ℕ → ℕ → Writing
delete_element w n i = if nat_lt i (length (elements_at w n)) then Faults Hole else Writes w

abbrev pub delete_from_array : World → ℕ → Option ℕ → Writing
delete_from_array w n (Some i) = delete_element w n i
delete_from_array w n None = Faults NotInProfile

-- the member of this name, row by row
abbrev pub deleted_member : World → Base → Span → Writing
deleted_member w Nothing name = Throws
deleted_member w (ArrayBase n) name = delete_from_array w n (index_of w.pool name)
deleted_member w (PlainBase n) name = if is_barred w.pool name (class_of (object_at w n)) then Faults NotInProfile else Writes (removed w n name)
deleted_member w Primitive name = Faults NotInProfile
deleted_member w (TextBase text) name = Faults NotInProfile
deleted_member w (ErrorBase n) name = Faults NotInProfile
deleted_member w (FunctionBase n) name = Faults NotInProfile
deleted_member w (BuiltinBase n) name = Faults NotInProfile
deleted_member w (HostBase n) name = Faults NotInProfile

-- undefined and null have no members (8.7), and names that begin with two underscores are outside the profile
abbrev pub delete_name : World → Base → Span → Writing
delete_name w Nothing name = Throws
delete_name w base name = if is_underscored (text_at w.pool name) then Faults NotInProfile else deleted_member w base name

-- the member at an index that is not made a name
abbrev pub delete_index : World → Base → ℕ → Writing
delete_index w Nothing i = Throws
delete_index w (ArrayBase n) i = delete_element w n i
delete_index w Primitive i = Faults NotInProfile
delete_index w (TextBase text) i = Faults NotInProfile
delete_index w (PlainBase n) i = Faults NotInProfile
delete_index w (ErrorBase n) i = Faults NotInProfile
delete_index w (FunctionBase n) i = Faults NotInProfile
delete_index w (BuiltinBase n) i = Faults NotInProfile
delete_index w (HostBase n) i = Faults NotInProfile

-- what it means to delete this member of the base (11.4.1)
abbrev pub deleted : World → Value → Key → Writing
deleted w base (Name name) = delete_name w (base_of w base) name
deleted w base (Index i) = delete_index w (base_of w base) i
