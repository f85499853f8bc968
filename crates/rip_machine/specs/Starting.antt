-- How a run begins: that of a script, or of a function that is called from outside (ECMA-262 10.4, 13.2.1, 14).
use Rattle.std.specs.Prelude.{ℕ, ◌+◌, ◌==◌, if◌then◌else◌, List, length, Option, None, Some}
use Rattle.rip_values.specs.declared.builtin.Builtin.{Builtin}
use Rattle.rip_base.specs.declared.value.Limit.{Limit}
use Rattle.rip_base.specs.declared.value.Limit.TheVariants.{Cells, Depth}
use Rattle.rip_base.specs.declared.value.Value.{Value}
use Rattle.rip_base.specs.declared.value.Value.TheVariants.{Object}
use Rattle.rip_heap.specs.declared.class.Class.TheVariants.{ThrownTypeError}
use Rattle.rip_heap.specs.World.{World, charging}
use Rattle.rip_tree.specs.Program.{root_of}
use Rattle.rip_eval_rows.specs.declared.frame.Ending.TheVariants as ending
use Rattle.rip_eval_rows.specs.declared.part.Part.{Part}
use Rattle.rip_eval_rows.specs.declared.part.Role.TheVariants as role
use Rattle.rip_eval_rows.specs.Frame.{inside}
use Rattle.rip_eval_rows.specs.Row.{Row}
use Rattle.rip_eval_rows.specs.Run.{world_at}
use Rattle.rip_eval_rows.specs.Started.{Started, ScriptOf, CallOf}
use Rattle.rip_eval_language.specs.declared.callee.Invocable.{Invocable}
use Rattle.rip_eval_language.specs.declared.callee.Invocable.TheVariants.{OfScript, OfBuiltin, NotCallable}
use Rattle.rip_machine.specs.declared.outcome.Start.{Start}
use Rattle.rip_machine.specs.declared.outcome.Start.TheVariants as start
use Rattle.rip_eval_language.specs.Reading.{Loaded}
use Rattle.rip_eval_language.specs.Rows.Calls.{answered_by, answerer_of, callable, running}
use Rattle.rip_eval_language.specs.Rows.Functions.{body, function_entered}
use Rattle.rip_eval_language.specs.Rows.Names.{throws}
use Rattle.rip_eval_language.specs.Rows.Scripts.{script_entered, script_row}
use Rattle.rip_eval_language.specs.Rows.Statements.{statements}

-- what a start comes to: the run of a row, in this world; or a limit that its own charge would pass
pub data Beginning : Type 0 where
  Runs : Row → World → Beginning
  Exceeds : Limit → Beginning

-- a script stands at its first statement, where its functions fit (10.4.1, 14)
abbrev pub script_begun : Loaded → ℕ → ℕ → Option World → Beginning
script_begun p depth root None = Exceeds Cells
script_begun p depth root (Some x) = Runs (script_row p root depth x) x

-- the place outside all code where a function is called, so that one of the script takes a depth of 1, as one that `call`
-- calls there does (15.3.4.4)
abbrev pub outside : ℕ → Value → Part
outside depth this = record { node = 0; scope = 0; this = this; room = depth + 1; role = role.Value }

-- the part of a function that is called from outside: it takes a depth of 1, and its statements have what is left
abbrev pub function_part : ℕ → ℕ → Value → ℕ → Part
function_part f scope this depth = inside (outside depth this) (running f scope this)

-- a function stands at its first statement, where what entering it costs fits (13.2.1)
abbrev pub function_begun : Loaded → ℕ → ℕ → Value → Option (ℕ × World) → Beginning
function_begun p depth f this None = Exceeds Cells
function_begun p depth f this (Some made) =
    Runs (statements p (function_part f made.0 this depth) ending.Call (body p f) made.1) made.1

-- a built-in function stands at its own work, where the charge of its arguments fits
abbrev pub builtin_begun : Loaded → ℕ → Builtin → Value → List Value → Option World → Beginning
builtin_begun p depth b this args None = Exceeds Cells
builtin_begun p depth b this args (Some x) =
    Runs (answered_by p (outside depth this) (answerer_of b) b this args x) x

-- the depth of a function of the script is judged first; what is no function throws a TypeError (11.2.3)
abbrev pub call_begun : Loaded → ℕ → Value → List Value → Invocable → World → Beginning
call_begun p depth this args (OfScript f scope) w =
    if depth == 0 then Exceeds Depth else function_begun p depth f this (function_entered p f scope args w)
call_begun p depth this args (OfBuiltin b) w = builtin_begun p depth b this args (charging (length args) w (λ x. x))
call_begun p depth this args NotCallable w = Runs (throws ThrownTypeError w) (world_at (throws ThrownTypeError w))

-- what a start comes to, where so much depth is left for the run
abbrev pub begun_by : Loaded → ℕ → Started → World → Beginning
begun_by p depth (ScriptOf n) w = script_begun p depth (root_of p.code.grove n) (script_entered p n w)
begun_by p depth (CallOf f this args) w = call_begun p depth this args (callable w (Object f)) w

-- what a run is of that `start` is asked for
abbrev pub started_of : Start → Started
started_of (start.Script n) = ScriptOf n
started_of (start.Function f this args) = CallOf f this args.now

-- how many arguments are given to what is started
abbrev pub arguments_in : Started → ℕ
arguments_in (ScriptOf n) = 0
arguments_in (CallOf f this args) = length args

-- what a start comes to, where so much depth is left for the run
abbrev pub begun : Loaded → ℕ → Start → World → Beginning
begun p depth s w = begun_by p depth (started_of s) w
