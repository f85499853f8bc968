-- How a call that is a member is found by its name, and a built-in by its number.
use Rattle.std.specs.Prelude.{ℕ, List, [], ◌∷◌, Option, None, Some, if◌then◌else◌, slice_get}
use Rattle.rip_base.specs.declared.value.Span.{Span}
use Rattle.rip_values.specs.declared.fixed.FixedText.{FixedText}
use Rattle.rip_values.specs.declared.builtin.Builtin.{Builtin}
use Rattle.rip_values.specs.Builtins.{builtins}
use Rattle.rip_values.specs.Pool.{Texts}
use Rattle.rip_heap.specs.Keys.{is_named}

-- the built-in that a name stands for in such a table
abbrev pub call_named : Texts → Span → List (FixedText × Builtin) → Option Builtin
call_named pool name [] = None
call_named pool name (call ∷ calls) = if is_named pool name call.0 then Some call.1 else call_named pool name calls

-- the built-in of this number, which is its place in the list of all of them
abbrev pub builtin_of : ℕ → Option Builtin
builtin_of number = slice_get builtins number
