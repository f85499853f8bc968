-- Functions: how they are made, called and entered (ECMA-262 10.4.3, 10.5, 11.2.3, 13).
use Rattle.std.specs.Prelude.{ℕ, zero, suc, ◌+◌, ◌*◌, Bool, true, false, is_some, nat_le, if◌then◌else◌, List, [], ◌∷◌, length, Option, None, Some, option_and_then, option_map, slice_index_or}
use Rattle.rip_base.specs.declared.value.Limit.TheVariants.{Cells}
use Rattle.rip_base.specs.declared.value.Value.{Value}
use Rattle.rip_base.specs.declared.value.Value.TheVariants.{Undefined, Object}
use Rattle.rip_heap.specs.Objects.{new_function}
use Rattle.rip_heap.specs.Scopes.{new_scope, with_binding}
use Rattle.rip_heap.specs.World.{World, charging, cost_of_function, cost_of_scope}
use Rattle.rip_tree.specs.declared.form.Form.{Form}
use Rattle.rip_tree.specs.declared.form.Form.TheVariants as form
use Rattle.rip_eval_rows.specs.declared.completion.Stop.TheVariants.{Limit as AtLimit}
use Rattle.rip_eval_rows.specs.declared.part.Part.{Part}
use Rattle.rip_eval_rows.specs.Row.{Row, Halts}
use Rattle.rip_eval_language.specs.Reading.{Loaded, child, children_from, form_of, scoping}
use Rattle.rip_eval_language.specs.Rows.Expressions.{gives}
use Rattle.rip_eval_language.specs.Rows.Names.{bound}
use Rattle.rip_eval_language.specs.Rows.Statements.{is_declaration}

-- FUNCTION EXPRESSIONS (13)

abbrev pub function_made : Option (ℕ × World) → World → Row
function_made None w = Halts (AtLimit Cells) w
function_made (Some made) w = gives (Object made.0) made.1

-- the function has its name in a scope of its own
abbrev pub named_function : ℕ → Option (ℕ × World) → World → Row
named_function scope None w = Halts (AtLimit Cells) w
named_function scope (Some made) w = gives (Object made.0) (with_binding made.1 scope 0 (Object made.0))

abbrev pub in_own_scope : ℕ → Option (ℕ × World) → World → Row
in_own_scope node None w = Halts (AtLimit Cells) w
in_own_scope node (Some made) w = named_function made.0 (new_function made.1 node made.0) made.1

abbrev pub function_named : Part → Bool → World → Row
function_named at false w = function_made (new_function w at.node at.scope) w
function_named at true w = in_own_scope at.node (new_scope w (Some at.scope) 1) w

-- whether a function has a name
abbrev pub has_name : Form → Bool
has_name (form.Function head) = is_some head.name
has_name f = false

-- the row of a function expression
abbrev pub function_row : Loaded → Part → World → Row
function_row p at w = function_named at (has_name (form_of p at.node)) w

-- ENTERING (10.4.3, 10.5)

-- how many children of a function are parameters
abbrev pub parameters_of : Form → ℕ
parameters_of (form.FunctionDeclaration head) = head.parameters
parameters_of (form.Function head) = head.parameters
parameters_of f = 0

abbrev pub parameters : Loaded → ℕ → ℕ
parameters p f = parameters_of (form_of p f)

-- the statements and declarations of a function
abbrev pub body : Loaded → ℕ → List ℕ
body p f = children_from p f (parameters p f)

-- how many functions are declared among these nodes
abbrev pub declared_functions : Loaded → List ℕ → ℕ
declared_functions p [] = 0
declared_functions p (f ∷ fs) = (if is_declaration (form_of p f) then 1 else 0) + declared_functions p fs

-- the first so many bindings of a scope have the value undefined: so the names of `var` begin
unfoldable pub with_undefined : ℕ → ℕ → World → World
with_undefined scope zero w = w
with_undefined scope (suc n) w = with_binding (with_undefined scope n w) scope n Undefined

-- the first so many parameters are bound to the arguments; one that is missing is undefined
unfoldable pub with_arguments : Loaded → ℕ → ℕ → List Value → ℕ → World → World
with_arguments p f scope args zero w = w
with_arguments p f scope args (suc n) w =
    bound (with_arguments p f scope args n w) scope (scoping p (child p f n)).resolved (slice_index_or args n Undefined)

-- a declared function is made, and bound in its scope
abbrev pub with_function : Loaded → ℕ → ℕ → World → Option World
with_function p scope f w = option_map (λ made. bound made.1 scope (scoping p f).resolved (Object made.0)) (new_function w f scope)

-- each function that is declared among these nodes; a later one of the same name wins
abbrev pub with_functions : Loaded → ℕ → List ℕ → World → Option World
with_functions p scope [] w = Some w
with_functions p scope (f ∷ fs) w =
    if is_declaration (form_of p f) then option_and_then (with_functions p scope fs) (with_function p scope f w)
    else with_functions p scope fs w

-- what entering a function costs, as one step: its arguments, its scope, and the functions that it declares
abbrev pub cost_of_entering : Loaded → ℕ → ℕ → ℕ
cost_of_entering p f args = args + cost_of_scope (scoping p f).names + cost_of_function * declared_functions p (body p f)

-- the new scope with all its bindings, and the functions in it
abbrev pub scope_filled : Loaded → ℕ → List Value → ℕ × World → Option (ℕ × World)
scope_filled p f args made =
    option_map (λ x. (made.0, x)) (with_functions p made.0 (body p f) (with_arguments p f made.0 args (parameters p f) (with_undefined made.0 (scoping p f).names made.1)))

-- the new scope, where the arguments are charged
abbrev pub scope_made : Loaded → ℕ → ℕ → ℕ → World → Option (ℕ × World)
scope_made p f scope args w = option_and_then (λ x. new_scope x (Some scope) (scoping p f).names) (charging args w (λ x. x))

-- the scope of a function that is entered, and the world with it; none where the charge would pass the limit
abbrev pub function_entered : Loaded → ℕ → ℕ → List Value → World → Option (ℕ × World)
function_entered p f scope args w =
    if nat_le (w.cells + cost_of_entering p f (length args)) w.limit
    then option_and_then (scope_filled p f args) (scope_made p f scope (length args) w)
    else None
