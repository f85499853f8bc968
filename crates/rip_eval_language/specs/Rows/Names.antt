-- Names: what a name is bound to, and how it is written (ECMA-262 8.7, 10.2, 10.3).
use Rattle.std.specs.Prelude.{ℕ, zero, suc, if◌then◌else◌, Option, None, Some, Result, Ok, Err, unwrap_or}
use Rattle.rip_base.specs.declared.value.Value.{Value}
use Rattle.rip_values.specs.GlobalTable.{global_value}
use Rattle.rip_base.specs.declared.value.Value.TheVariants.{Undefined, Object}
use Rattle.rip_base.specs.declared.value.Limit.TheVariants.{Cells}
use Rattle.rip_heap.specs.declared.class.Class.{Class}
use Rattle.rip_heap.specs.declared.class.Class.TheVariants.{ThrownTypeError, ThrownReferenceError}
use Rattle.rip_heap.specs.Objects.{new_of}
use Rattle.rip_heap.specs.Scopes.{binding, parent_of, with_binding}
use Rattle.rip_heap.specs.World.{World, scope_at}
use Rattle.rip_tree.specs.declared.program.Resolved.{Resolved}
use Rattle.rip_tree.specs.declared.program.Resolved.TheVariants.{Binding, Global}
use Rattle.rip_tree.specs.declared.program.Scoping.{Scoping}
use Rattle.rip_eval_rows.specs.declared.completion.Completion.TheVariants.{Thrown}
use Rattle.rip_eval_rows.specs.declared.completion.Stop.TheVariants.{Limit as AtLimit}
use Rattle.rip_eval_rows.specs.Row.{Row, Ends, Halts}

-- THROWN ERRORS

abbrev pub thrown : Option (ℕ × World) → World → Row
thrown None w = Halts (AtLimit Cells) w
thrown (Some made) w = Ends (Thrown (Object made.0)) made.1

-- throws a new error of this class, which costs its object (15.11)
abbrev pub throws : Class → World → Row
throws class w = thrown (new_of w class) w

-- SCOPES

-- the scope around a scope; around the top scope there is none, and then it is that one
abbrev pub outer : World → ℕ → ℕ
outer w scope = unwrap_or (parent_of (scope_at w scope)) 0

-- the scope so many scopes further out (10.2.2.1)
unfoldable pub scope_up : World → ℕ → ℕ → ℕ
scope_up w scope zero = scope
scope_up w scope (suc up) = outer w (scope_up w scope up)

-- READING

-- what a name means from this scope on, or none where it is not bound yet (10.2.1.1)
abbrev pub found : World → ℕ → Option Resolved → Option Value
found w scope None = Some Undefined
found w scope (Some (Global g)) = Some (global_value g)
found w scope (Some (Binding up place)) = binding w (scope_up w scope up) place

-- goes on with what a name means; a name that is not bound yet is a ReferenceError (8.7.1)
abbrev pub with_found : Option Value → World → (Value → Row) → Row
with_found None w go = throws ThrownReferenceError w
with_found (Some v) w go = go v

-- WRITING

-- the world with v in a binding that has a value already, or the error that is thrown
abbrev pub rebound : World → ℕ → ℕ → Value → Option Value → Result World Class
rebound w scope place v None = Err ThrownReferenceError
rebound w scope place v (Some old) = Ok (with_binding w scope place v)

abbrev pub written_to : World → ℕ → Value → Option Resolved → Result World Class
written_to w scope v None = Ok w
written_to w scope v (Some (Global g)) = Ok w
written_to w scope v (Some (Binding up place)) = rebound w (scope_up w scope up) place v (binding w (scope_up w scope up) place)

-- the world with v in what a name means from this scope on; a function expression's own name is never written (8.7.2, 13)
abbrev pub written : World → ℕ → Scoping → Value → Result World Class
written w scope scoping v = if scoping.is_own then Err ThrownTypeError else written_to w scope v scoping.resolved

-- goes on with the world that was written, or throws
abbrev pub with_written : Result World Class → World → (World → Row) → Row
with_written (Ok x) w go = go x
with_written (Err class) w go = throws class w

-- the world with v in a binding, whether it has a value or not (10.5)
abbrev pub bound : World → ℕ → Option Resolved → Value → World
bound w scope None v = w
bound w scope (Some (Global g)) v = w
bound w scope (Some (Binding up place)) v = with_binding w (scope_up w scope up) place v
