-- The rows of statements (ECMA-262 12), and of lists of statements (12.1, 13.2.1, 14).
use Rattle.std.specs.Prelude.{◌≡◌, ℕ, ◌+◌, Bool, true, false, if◌then◌else◌, List, [], ◌∷◌, Option, None, Some, MatchOption}
use Rattle.rip_base.specs.declared.value.Value.{Value}
use Rattle.rip_base.specs.declared.value.Value.TheVariants.{Undefined, Object}
use Rattle.rip_heap.specs.Conversions.{boolean_of}
use Rattle.rip_heap.specs.World.{World}
use Rattle.rip_tree.specs.declared.form.Form.{Form}
use Rattle.rip_tree.specs.declared.form.Form.TheVariants as form
use Rattle.rip_eval_rows.specs.declared.completion.Completion.{Completion}
use Rattle.rip_eval_rows.specs.declared.completion.Completion.TheVariants.{Normal, Thrown, Returned, Broken, Continued, Referred, Method}
use Rattle.rip_eval_rows.specs.declared.frame.Ending.{Ending}
use Rattle.rip_eval_rows.specs.declared.frame.Ending.TheVariants as ending
use Rattle.rip_eval_rows.specs.declared.frame.OwnWait.{OwnWait}
use Rattle.rip_eval_rows.specs.declared.frame.OwnWait.TheVariants as wait
use Rattle.rip_eval_rows.specs.declared.frame.Wait.TheVariants.{Own}
use Rattle.rip_eval_rows.specs.declared.part.Part.{Part}
use Rattle.rip_eval_rows.specs.Frame.{waiting}
use Rattle.rip_eval_rows.specs.Row.{Row, Ends, Asks, Again, value_of, with_value}
use Rattle.rip_eval_rows.specs.Stack.{Open, framed}
use Rattle.rip_eval_language.specs.declared.forms.Listed.{Listed}
use Rattle.rip_eval_language.specs.Reading.{Loaded, child, child_at, children_from, form_of, part, part_at, scoping}
use Rattle.rip_eval_language.specs.Rows.Expressions.{gives, last}
use Rattle.rip_eval_language.specs.Rows.Names.{with_written, written}

-- a statement ends with no value
abbrev pub done : World → Row
done w = gives Undefined w

-- LISTS

-- what a function returns (13.2.1); a script gives nothing (14)
abbrev pub returned : Completion → Completion
returned (Normal v) = Normal Undefined
returned (Thrown v) = Thrown v
returned (Returned v) = Normal v
returned Broken = Normal Undefined
returned Continued = Normal Undefined
returned (Referred r) = Normal Undefined
returned (Method f this) = Normal Undefined

abbrev pub script_ended : Completion → Completion
script_ended (Thrown v) = Thrown v
script_ended c = Normal Undefined

-- what `new` gives: an object that its function returns, or else the new object (13.2.2)
abbrev pub object_or : ℕ → Value → Value
object_or object (Object n) = Object n
object_or object v = Object object

abbrev pub constructed : ℕ → Completion → Completion
constructed object (Thrown v) = Thrown v
constructed object (Returned v) = Normal (object_or object v)
constructed object c = Normal (Object object)

-- `break` leaves a `switch` (12.11)
abbrev pub switched : Completion → Completion
switched Broken = Normal Undefined
switched c = c

-- what becomes of the completion of a list
abbrev pub ended : Ending → Completion → Completion
ended ending.Block c = c
ended ending.Call c = returned c
ended (ending.Construct object) c = constructed object c
ended ending.Switch c = switched c
ended ending.Script c = script_ended c

-- a list goes on after a statement that ends normally
abbrev pub carried : Ending → Completion → World → Row → Row
carried ending (Normal v) w go = go
carried ending (Thrown v) w go = Ends (ended ending (Thrown v)) w
carried ending (Returned v) w go = Ends (ended ending (Returned v)) w
carried ending Broken w go = Ends (ended ending Broken) w
carried ending Continued w go = Ends (ended ending Continued) w
carried ending (Referred r) w go = Ends (ended ending (Referred r)) w
carried ending (Method f this) w go = Ends (ended ending (Method f this)) w

abbrev pub is_declaration : Form → Bool
is_declaration (form.FunctionDeclaration head) = true
is_declaration f = false

-- statements one after another; function declarations were bound before (12.1, 13, 14)
abbrev pub statements : Loaded → Part → Ending → List ℕ → World → Row
statements p at ending [] w = Ends (ended ending (Normal Undefined)) w
statements p at ending (s ∷ ss) w =
    if is_declaration (form_of p s) then statements p at ending ss w
    else Asks (part at s) w (λ c x. carried ending c x (statements p at ending ss x))

-- after the statement at this place of a list
abbrev pub statement_end : Loaded → Part → Ending → ℕ → Completion → World → Row
statement_end p at ending place c w = carried ending c w (statements p at ending (children_from p at.node (place + 1)) w)

-- of a list with this row: its first statement that is no declaration, and its place; or none, and then the list ends
abbrev pub IsFirst : Loaded → Part → Ending → Option Listed → World → Row → Type 0
IsFirst p at ending first w row =
    MatchOption first (row ≡ Ends (ended ending (Normal Undefined)) w) (λ s. row ≡ Asks (part at s.node) w (statement_end p at ending s.place))

-- 12.1
abbrev pub block_row : Loaded → Part → World → Row
block_row p at w = statements p at ending.Block (children_from p at.node 0) w

-- 12.4
abbrev pub expression_row : Loaded → Part → World → Row
expression_row p at w = value_of (part_at p at 0) w (λ _ x. done x)

-- 12.5
abbrev pub else_row : Part → Option ℕ → World → Row
else_row at None w = done w
else_row at (Some s) w = last (part at s) w

-- the statement that it goes on with, or none
abbrev pub branch_of : Loaded → Part → Value → World → Option ℕ
branch_of p at v w = if boolean_of w.pool v then Some (child p at.node 1) else child_at p at.node 2

-- the row of `if`
abbrev pub if_row : Loaded → Part → World → Row
if_row p at w =
    value_of (part_at p at 0) w (λ v x. if boolean_of x.pool v then last (part_at p at 1) x else else_row at (child_at p at.node 2) x)

-- 12.9
abbrev pub return_end : Completion → World → Row
return_end c w = with_value c w (λ v. Ends (Returned v) w)

abbrev pub return_of : Part → Option ℕ → World → Row
return_of at None w = Ends (Returned Undefined) w
return_of at (Some e) w = Asks (part at e) w return_end

-- the row of `return`
abbrev pub return_row : Loaded → Part → World → Row
return_row p at w = return_of at (child_at p at.node 0) w

-- LOOPS (12.6). Each turn begins with a part, and so with a unit

-- the loop is open, and waits so
abbrev pub turning : Part → OwnWait → Open
turning at wait = framed (waiting at (Own wait)) []

-- whether a loop goes on after its statement: `break` leaves it, and `continue` ends the statement alone (12.7, 12.8)
abbrev pub goes_on : Completion → World → Row → Row
goes_on (Normal v) w again = again
goes_on (Thrown v) w again = Ends (Thrown v) w
goes_on (Returned v) w again = Ends (Returned v) w
goes_on Broken w again = done w
goes_on Continued w again = again
goes_on (Referred r) w again = again
goes_on (Method f this) w again = again

-- whether it goes on after its test
abbrev pub tested : Completion → World → Row → Row
tested c w again = with_value c w (λ v. if boolean_of w.pool v then again else done w)

-- 12.6.1
abbrev pub do_row : Loaded → Part → World → Row
do_row p at w = Again (part_at p at 0) w (turning at wait.DoBody)

abbrev pub do_body : Loaded → Part → Completion → World → Row
do_body p at c w = goes_on c w (Again (part_at p at 1) w (turning at wait.DoTest))

abbrev pub do_test : Loaded → Part → Completion → World → Row
do_test p at c w = tested c w (do_row p at w)

-- 12.6.2
abbrev pub while_row : Loaded → Part → World → Row
while_row p at w = Again (part_at p at 0) w (turning at wait.WhileTest)

abbrev pub while_test : Loaded → Part → Completion → World → Row
while_test p at c w = tested c w (Again (part_at p at 1) w (turning at wait.WhileBody))

abbrev pub while_body : Loaded → Part → Completion → World → Row
while_body p at c w = goes_on c w (while_row p at w)

-- 12.6.3: each of test and update may be absent
abbrev pub for_statement : Loaded → Part → World → Row
for_statement p at w = Again (part_at p at 3) w (turning at wait.ForBody)

abbrev pub for_turn_by : Loaded → Part → Option ℕ → World → Row
for_turn_by p at None w = for_statement p at w
for_turn_by p at (Some test) w = Again (part at test) w (turning at wait.ForTest)

abbrev pub for_turn : Loaded → Part → World → Row
for_turn p at w = for_turn_by p at (child_at p at.node 1) w

abbrev pub for_test : Loaded → Part → Completion → World → Row
for_test p at c w = tested c w (for_statement p at w)

abbrev pub for_update_by : Loaded → Part → Option ℕ → World → Row
for_update_by p at None w = for_turn p at w
for_update_by p at (Some update) w = Again (part at update) w (turning at wait.ForUpdate)

abbrev pub for_body : Loaded → Part → Completion → World → Row
for_body p at c w = goes_on c w (for_update_by p at (child_at p at.node 2) w)

abbrev pub for_update : Loaded → Part → Completion → World → Row
for_update p at c w = with_value c w (λ _. for_turn p at w)

-- DECLARATIONS (12.2)

abbrev pub is_for : Form → Bool
is_for form.For = true
is_for f = false

-- the node whose children are the declarators: `var` itself, or what a `for` begins with
abbrev pub declarators_in : Loaded → Part → ℕ
declarators_in p at = if is_for (form_of p at.node) then child p at.node 0 else at.node

-- what follows the declarators: a `for` begins its turns
abbrev pub declared : Loaded → Part → World → Row
declared p at w = if is_for (form_of p at.node) then for_turn p at w else done w

-- goes on after an initialiser, whose value is written to its name
abbrev pub initialised : Loaded → Part → ℕ → Completion → World → (World → Row) → Row
initialised p at d c w go = with_value c w (λ v. with_written (written w at.scope (scoping p d) v) w go)

abbrev pub initialiser : Loaded → Part → ℕ → Option ℕ → World → (World → Row) → Row
initialiser p at d None w go = go w
initialiser p at d (Some e) w go = Asks (part at e) w (λ c x. initialised p at d c x go)

-- the initialisers from left to right
abbrev pub declarations : Loaded → Part → List ℕ → World → Row
declarations p at [] w = declared p at w
declarations p at (d ∷ ds) w = initialiser p at d (child_at p d 0) w (declarations p at ds)

-- after the initialiser of the declarator at this place
abbrev pub initialiser_end : Loaded → Part → ℕ → Completion → World → Row
initialiser_end p at place c w =
    initialised p at (child p (declarators_in p at) place) c w (declarations p at (children_from p (declarators_in p at) (place + 1)))

-- the row of `var`
abbrev pub var_row : Loaded → Part → World → Row
var_row p at w = declarations p at (children_from p (declarators_in p at) 0) w

-- 12.6.3: what a `for` begins with: `var` or an expression
abbrev pub is_bindings : Form → Bool
is_bindings form.Bindings = true
is_bindings f = false

abbrev pub for_started : Loaded → Part → Completion → World → Row
for_started p at c w = with_value c w (λ _. for_turn p at w)

abbrev pub for_row_by : Loaded → Part → Option ℕ → World → Row
for_row_by p at None w = for_turn p at w
for_row_by p at (Some start) w = if is_bindings (form_of p start) then var_row p at w else Asks (part at start) w (for_started p at)

-- the row of `for`
abbrev pub for_row : Loaded → Part → World → Row
for_row p at w = for_row_by p at (child_at p at.node 0) w
