-- What a run of a script comes to, in the terms of the evaluator.
use Rattle.std.specs.Prelude.{◌≡◌, ◌⊎◌, ℕ, [], length, None, Some, Ok, Err}
use Rattle.rip_base.specs.declared.value.Limit.{Limit}
use Rattle.rip_base.specs.declared.value.Limit.TheVariants.{Cells}
use Rattle.rip_base.specs.declared.value.Refused.TheVariants.{Limit as At}
use Rattle.rip_base.specs.declared.value.Value.TheVariants.{Undefined}
use Rattle.rip_tree.specs.Program.{Code}
use Rattle.rip_heap.specs.Scopes.{new_scope}
use Rattle.rip_heap.specs.World.{World, empty_world}
use Rattle.rip_heap.specs.declared.host.EmptyHost.{EmptyHost}
use Rattle.rip_heap.specs.declared.host.HostDone.TheVariants.{Fault}
use Rattle.rip_base.specs.declared.value.Fault.TheVariants.{NotInProfile}
use Rattle.rip_eval_rows.specs.declared.completion.Completion.TheVariants.{Normal}
use Rattle.rip_eval_rows.specs.declared.next.Control.TheVariants.{Give}
use Rattle.rip_eval_rows.specs.Run.{Calling}
use Rattle.rip_machine.specs.Law.{Resumes, Standing, Starts, loaded}
use Rattle.rip_machine.specs.Loading.{Loads}
use Rattle.rip_machine.specs.Starting.{Beginning, begun}
use Rattle.rip_eval_language.specs.Table.{table}
use Rattle.rip_eval_rows.specs.declared.outcome.Outcome.{Outcome}
use Rattle.rip_eval_rows.specs.declared.outcome.Outcome.TheVariants as outcome
use Rattle.rip_machine.specs.declared.outcome.Start.TheVariants.{Script}
use Rattle.rip_eval_rows.specs.declared.outcome.Turned.TheVariants.{Done}
use Rattle.rip_script.specs.declared.evaluate.End.{End}
use Rattle.rip_script.specs.declared.evaluate.End.TheVariants as end
use Rattle.rip_script.specs.declared.evaluate.Ended.{Ended}
use Rattle.rip_script.specs.declared.words.RunLimits.{RunLimits}

-- the longest text that a run may make, in units
abbrev pub text_limit : ℕ
text_limit = 65535

-- BEFORE THE RUN

-- the heap before anything is made
abbrev pub world_at_first : RunLimits → World
world_at_first limits = empty_world (record { cells = limits.cells; units = limits.units; text = text_limit })

-- the evaluator before a program is loaded
abbrev pub machine_at_first : RunLimits → Standing
machine_at_first limits = record { control = Give (Normal Undefined); frames = []; fuel = 0; spent = 0; depth = limits.depth; literals = []; value_room = 1 }

-- the world has the top scope, scope 0, and nothing else
abbrev pub HasTopScope : RunLimits → Code → World → Type 0
HasTopScope limits code w = new_scope (world_at_first limits) None (length code.top) ≡ Some (0, w)

-- what the start of the only script of a program comes to
abbrev pub script_begins : Code → Standing → World → Beginning
script_begins code m w = begun (loaded code m) m.depth (Script 1) w

-- nothing stands behind the objects of the host
abbrev pub no_host : Calling EmptyHost
no_host = λ host w request. (Fault NotInProfile, w, host)

-- the host that has nothing
abbrev pub empty_host : EmptyHost
empty_host = record {}

-- the program is loaded into that world
pub record IsLoaded (limits : RunLimits) (code : Code) (w : World) (m : Standing) : Type 0 where
  pub before : World
  pub scope : HasTopScope limits code before
  pub loads : Loads code before (machine_at_first limits) (Ok tt) w m

-- the script, the only one of its program, stands at its beginning with all its fuel
pub record IsStarted (limits : RunLimits) (code : Code) (w : World) (m : Standing) : Type 0 where
  pub before : World
  pub idle : Standing
  pub is_loaded : IsLoaded limits code before idle
  pub starts : Starts (table (loaded code idle)) (script_begins code idle before) limits.fuel before w idle m (Ok tt)
  pub literals : m.literals ≡ idle.literals
  pub depth : m.depth ≡ idle.depth

-- THE RUN

-- an end of a run in the terms of the evaluator, whose want of memory is none
abbrev pub outcome_of : End → Outcome
outcome_of (end.Value v) = outcome.Value v
outcome_of (end.Thrown v) = outcome.Thrown v
outcome_of (end.Fault fault) = outcome.Fault fault
outcome_of (end.Limit limit) = outcome.Limit limit

-- how a run ended that a limit stopped before it began: it took no fuel
abbrev pub stopped : Limit → World → Ended
stopped limit w = record { end = end.Limit limit; spent = 0; heap = w }

-- the cells of the top scope would pass the limit
pub record LacksScope (limits : RunLimits) (code : Code) (ended : Ended) : Type 0 where
  pub none : new_scope (world_at_first limits) None (length code.top) ≡ None
  pub is : ended ≡ stopped Cells (world_at_first limits)

-- the texts of the program would pass a limit
pub record IsNotLoaded (limits : RunLimits) (code : Code) (ended : Ended) : Type 0 where
  pub w : World
  pub scope : HasTopScope limits code w
  pub limit : Limit
  pub loads : Loads code w (machine_at_first limits) (Err (At limit)) w (machine_at_first limits)
  pub is : ended ≡ stopped limit w

-- what is bound and charged at the beginning of the script would pass a limit
pub record IsNotStarted (limits : RunLimits) (code : Code) (ended : Ended) : Type 0 where
  pub w : World
  pub idle : Standing
  pub is_loaded : IsLoaded limits code w idle
  pub limit : Limit
  pub starts : Starts (table (loaded code idle)) (script_begins code idle w) limits.fuel w w idle idle (Err (At limit))
  pub is : ended ≡ stopped limit w

-- the script ran to its end, with nothing behind the objects of the host, and memory was not wanting
pub record RunsToEnd (limits : RunLimits) (code : Code) (ended : Ended) : Type 0 where
  pub w : World
  pub begun : Standing
  pub is_started : IsStarted limits code w begun
  pub last : Standing
  pub resumes : Resumes no_host (table (loaded code begun)) begun w empty_host limits.fuel last ended.heap empty_host (Done (outcome_of ended.end))
  pub spent : ended.spent ≡ last.spent

-- a run of the program within these limits comes to this
abbrev pub IsEvaluated : RunLimits → Code → Ended → Type 0
IsEvaluated limits code ended = LacksScope limits code ended ⊎ IsNotLoaded limits code ended ⊎ IsNotStarted limits code ended ⊎ RunsToEnd limits code ended
