-- How a script begins (ECMA-262 10.4.1, 10.5, 14).
use Rattle.std.specs.Prelude.{ℕ, ◌+◌, ◌*◌, nat_le, if◌then◌else◌, fold, Option, None, Some, option_map}
use Rattle.rip_base.specs.declared.value.Value.{Value}
use Rattle.rip_base.specs.declared.value.Value.TheVariants.{Undefined}
use Rattle.rip_heap.specs.Scopes.{binding, with_binding}
use Rattle.rip_heap.specs.World.{World, cost_of_function}
use Rattle.rip_tree.specs.Program.{root_of, vars_of}
use Rattle.rip_eval_rows.specs.declared.frame.Ending.TheVariants as ending
use Rattle.rip_eval_rows.specs.declared.part.Part.{Part}
use Rattle.rip_eval_rows.specs.declared.part.Role.TheVariants as role
use Rattle.rip_eval_rows.specs.Row.{Row}
use Rattle.rip_eval_language.specs.Reading.{Loaded, children_from}
use Rattle.rip_eval_language.specs.Rows.Functions.{declared_functions, with_functions}
use Rattle.rip_eval_language.specs.Rows.Statements.{statements}

-- the binding at this place of the top scope, which has this value: it keeps it, or begins as undefined
abbrev pub kept_or_undefined : World → ℕ → Option Value → World
kept_or_undefined w place None = with_binding w 0 place Undefined
kept_or_undefined w place (Some v) = w

-- a name of `var`, by its place in the top scope, keeps its value, or begins as undefined (10.5, step 8)
abbrev pub with_var : World → ℕ → World
with_var w place = kept_or_undefined w place (binding w 0 place)

-- the world in which a script, which are numbered from 1, begins: its functions replace what is bound, its names of `var`
-- keep it; none where the charge of the functions would pass the limit, as one step
abbrev pub script_entered : Loaded → ℕ → World → Option World
script_entered p script w =
    let functions = children_from p (root_of p.code.grove script) 0 in
    if nat_le (w.cells + cost_of_function * declared_functions p functions) w.limit
    then option_map (λ x. fold with_var x (vars_of p.code.vars script)) (with_functions p 0 functions w)
    else None

-- the part of a script, of whose statements the first takes a depth of 1
abbrev pub script_part : ℕ → ℕ → Part
script_part root depth = record { node = root; scope = 0; this = Undefined; room = depth + 1; role = role.Value }

-- the statements of a script
abbrev pub script_row : Loaded → ℕ → ℕ → World → Row
script_row p root depth w = statements p (script_part root depth) ending.Script (children_from p root 0) w
