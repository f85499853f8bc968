-- Calls (ECMA-262 11.2.3, 13.2.1).
use Rattle.std.specs.Prelude.{ℕ, ◌+◌, ◌-◌, ◌==◌, if◌then◌else◌, List, [], ◌∷◌, ◌++◌, drop, length, Option, None, Some, slice_index_or}
use Rattle.rip_values.specs.declared.builtin.Builtin.{Builtin}
use Rattle.rip_values.specs.declared.builtin.BuiltinHome.{BuiltinHome}
use Rattle.rip_values.specs.declared.builtin.BuiltinHome.TheVariants as home
use Rattle.rip_base.specs.declared.value.Fault.TheVariants.{NotInProfile}
use Rattle.rip_base.specs.declared.value.Limit.TheVariants.{Cells, Depth}
use Rattle.rip_base.specs.declared.value.Value.{Value}
use Rattle.rip_base.specs.declared.value.Value.TheVariants.{Undefined, Null, Bool as Boolean, Num, NaN, Text, Object}
use Rattle.rip_values.specs.Builtins.{home_of, is_function, number_of}
use Rattle.rip_heap.specs.declared.class.Class.TheVariants.{ThrownTypeError}
use Rattle.rip_heap.specs.World.{World, charging, code_of, object_at}
use Rattle.rip_ops.specs.Calls.{builtin_of}
use Rattle.rip_builtins.specs.Builtins.{builtin}
use Rattle.rip_eval_rows.specs.declared.completion.Completion.{Completion}
use Rattle.rip_eval_rows.specs.declared.completion.Completion.TheVariants.{Normal, Thrown, Returned, Broken, Continued, Referred, Method}
use Rattle.rip_eval_rows.specs.declared.completion.Stop.TheVariants.{Fault as AtFault, Limit as AtLimit}
use Rattle.rip_eval_rows.specs.declared.frame.Ending.{Ending}
use Rattle.rip_eval_rows.specs.declared.frame.Ending.TheVariants as ending
use Rattle.rip_eval_rows.specs.declared.part.Inner.{Inner}
use Rattle.rip_eval_rows.specs.declared.part.Part.{Part}
use Rattle.rip_eval_rows.specs.declared.part.Role.TheVariants as role
use Rattle.rip_eval_rows.specs.Frame.{inside}
use Rattle.rip_eval_rows.specs.Row.{Row, Asks, Ends, Halts, value_of, with_value}
use Rattle.rip_eval_language.specs.declared.callee.Answerer.{Answerer}
use Rattle.rip_eval_language.specs.declared.callee.Answerer.TheVariants.{Evaluator, BuiltinTable, HostItself}
use Rattle.rip_eval_language.specs.declared.callee.Invocable.{Invocable}
use Rattle.rip_eval_language.specs.declared.callee.Invocable.TheVariants.{OfScript, OfBuiltin, NotCallable}
use Rattle.rip_eval_language.specs.Reading.{Loaded, children_from, inner_at, part}
use Rattle.rip_eval_language.specs.Rows.Expressions.{gives, with_outcome}
use Rattle.rip_eval_language.specs.Rows.Functions.{body, function_entered}
use Rattle.rip_eval_language.specs.Rows.Host.{asks_call}
use Rattle.rip_eval_language.specs.Rows.Literals.{with_room}
use Rattle.rip_eval_language.specs.Rows.Names.{throws}
use Rattle.rip_eval_language.specs.Rows.Statements.{statements}

-- WHAT CAN BE CALLED

abbrev pub builtin_callable : Option Builtin → Invocable
builtin_callable None = NotCallable
builtin_callable (Some b) = if is_function b then OfBuiltin b else NotCallable

abbrev pub object_callable : ℕ → Option (ℕ × ℕ) → Invocable
object_callable n (Some code) = OfScript code.0 code.1
object_callable n None = builtin_callable (builtin_of n)

-- what a value is as a callee: a function of the script with its node and its scope, a built-in function, or none
abbrev pub callable : World → Value → Invocable
callable w (Object n) = object_callable n (code_of (object_at w n))
callable w Undefined = NotCallable
callable w Null = NotCallable
callable w (Boolean b) = NotCallable
callable w (Num z) = NotCallable
callable w NaN = NotCallable
callable w (Text span) = NotCallable

-- FUNCTIONS OF THE SCRIPT (13.2.1)

-- the function runs: one of depth less is left for it
abbrev pub running : ℕ → ℕ → Value → Inner
running f scope this = record { node = f; scope = scope; this = this; role = role.Value }

abbrev pub body_row : Loaded → Part → ℕ → Value → Ending → Option (ℕ × World) → World → Row
body_row p at f this ending None w = Halts (AtLimit Cells) w
body_row p at f this ending (Some made) w = statements p (inside at (running f made.0 this)) ending (body p f) made.1

-- a function of the script is entered: the depth that it takes, and then its cells
abbrev pub enters : Loaded → Part → ℕ → ℕ → Value → List Value → Ending → World → Row
enters p at f scope this args ending w =
    if at.room - 1 == 0 then Halts (AtLimit Depth) w else body_row p at f this ending (function_entered p f scope args w) w

-- BUILT-IN FUNCTIONS

-- who answers the call of a built-in function, by what it is a member of
abbrev pub answerer_at : BuiltinHome → Answerer
answerer_at home.Global = BuiltinTable
answerer_at home.Math = BuiltinTable
answerer_at home.Object = BuiltinTable
answerer_at home.Function = Evaluator
answerer_at home.Array = BuiltinTable
answerer_at home.Text = BuiltinTable
answerer_at home.Ripley = HostItself
answerer_at home.Document = HostItself
answerer_at home.Node = HostItself
answerer_at home.Event = HostItself

-- who answers the call of a built-in function
abbrev pub answerer_of : Builtin → Answerer
answerer_of b = answerer_at (home_of b)

-- the arguments of a built-in function are charged as one step, and its own work is another
abbrev pub charged : ℕ → World → (World → Row) → Row
charged n w go = with_room (charging n w (λ x. x)) w go

-- `call` is a call of functions of the script alone: on undefined and null it is a TypeError
abbrev pub call_on_other : Value → World → Row
call_on_other Undefined w = throws ThrownTypeError w
call_on_other Null w = throws ThrownTypeError w
call_on_other (Boolean b) w = Halts (AtFault NotInProfile) w
call_on_other (Num z) w = Halts (AtFault NotInProfile) w
call_on_other NaN w = Halts (AtFault NotInProfile) w
call_on_other (Text span) w = Halts (AtFault NotInProfile) w
call_on_other (Object n) w = Halts (AtFault NotInProfile) w

-- the call that `call` makes, with its first argument as `this`, and the others as the arguments (15.3.4.4)
abbrev pub call_through : Loaded → Part → Invocable → Value → List Value → World → Row
call_through p at (OfScript f scope) this args w = enters p at f scope (slice_index_or args 0 Undefined) (drop 1 args) ending.Call w
call_through p at (OfBuiltin b) this args w = call_on_other this w
call_through p at NotCallable this args w = call_on_other this w

abbrev pub answered_by : Loaded → Part → Answerer → Builtin → Value → List Value → World → Row
answered_by p at Evaluator b this args w = call_through p at (callable w this) this args w
answered_by p at BuiltinTable b this args w = with_outcome (builtin w b this args) w gives
answered_by p at HostItself b this args w = asks_call (number_of b) this args w gives

abbrev pub builtin_called : Loaded → Part → Builtin → Value → List Value → World → Row
builtin_called p at b this args w = charged (length args) w (answered_by p at (answerer_of b) b this args)

-- CALLS (11.2.3)

abbrev pub called_by : Loaded → Part → Invocable → Value → List Value → World → Row
called_by p at (OfScript f scope) this args w = enters p at f scope this args ending.Call w
called_by p at (OfBuiltin b) this args w = builtin_called p at b this args w
called_by p at NotCallable this args w = throws ThrownTypeError w

-- the call of a value on `this`; one that is no function is a TypeError
abbrev pub called : Loaded → Part → Value → Value → List Value → World → Row
called p at f this args w = called_by p at (callable w f) this args w

-- the arguments from left to right, behind those so far, and then the call
abbrev pub arguments : Loaded → Part → Value → Value → List Value → List ℕ → World → Row
arguments p at f this args [] w = called p at f this args w
arguments p at f this args (a ∷ rest) w = value_of (part at a) w (λ v x. arguments p at f this (args ++ v ∷ []) rest x)

-- after the argument at this place, where these stand before it
abbrev pub argument_end : Loaded → Part → ℕ → Value → Value → List Value → Completion → World → Row
argument_end p at place f this args c w =
    with_value c w (λ v. arguments p at f this (args ++ v ∷ []) (children_from p at.node (place + 2)) w)

-- goes on with what a callee is: a value, on undefined; or a member, on its base
abbrev pub with_callee : Completion → World → (Value → Value → Row) → Row
with_callee (Normal f) w go = go f Undefined
with_callee (Method f this) w go = go f this
with_callee (Thrown v) w go = Ends (Thrown v) w
with_callee (Returned v) w go = Ends (Returned v) w
with_callee Broken w go = Ends Broken w
with_callee Continued w go = Ends Continued w
with_callee (Referred r) w go = Ends (Referred r) w

-- the child that is called
abbrev pub callee : Loaded → Part → Inner
callee p at = record (inner_at p at 0) { role = role.Callee }

-- after the callee: the arguments, and the call
abbrev pub callee_end : Loaded → Part → Completion → World → Row
callee_end p at c w = with_callee c w (λ f this. arguments p at f this [] (children_from p at.node 1) w)

-- the row of a call
abbrev pub call_row : Loaded → Part → World → Row
call_row p at w = Asks (inside at (callee p at)) w (callee_end p at)
