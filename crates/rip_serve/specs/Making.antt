-- What the parts of serving do.
use Rattle.std.specs.Prelude.{◌≡◌, ℕ, List, length, Some, Result, Ok, Err}
use Rattle.rip_history.specs.Run.{Site, first_state, Coming}
use Rattle.rip_history.specs.Runs.{turns_acts, AreTurns, StopsWith}
use Rattle.rip_server.specs.declared.halt.Halt.{Halt}
use Rattle.rip_server.specs.declared.halt.Halt.TheVariants as halts
use Rattle.rip_server.specs.Turning.{Outer}
use Rattle.rip_server.specs.declared.turn.server.TurnEnd.{TurnEnd}
use Rattle.rip_server.specs.declared.turn.server.TurnEnd.TheVariants.{On, Over}
use Rattle.rip_serve.specs.Serving.{Tells, Ran, BreaksInTurn, Breaks}
use Rattle.rip_serve.specs.declared.serving.Stop.{Stop}
use Rattle.rip_serve.specs.declared.serving.Stop.TheVariants.{Outside, Memory}

-- the status of a run whose last turn ended so: 0 where it is over, 3 where its turns are spent
abbrev pub status_for : TurnEnd → ℕ
status_for Over = 0
status_for On = 3

-- what breaks a turn off stops serving
abbrev pub stop_for : Halt → Stop
stop_for halts.Outside = Outside
stop_for halts.Memory = Memory

-- the turns of a whole run were made, so many; its last line is not put
pub record MakesTurns (site : Site) (most status made : ℕ) (old new : Outer) : Type 0 where
  pub turns : List Coming
  pub count : made ≡ length turns
  pub are_turns : AreTurns site 1 first_state turns
  pub stops : StopsWith site (Some most) turns status
  pub tells : Tells site turns (turns_acts site 1 first_state turns) old new

-- turns are made to the end, or one breaks off
abbrev pub MakesTo : Site → ℕ → Result TurnEnd Halt → ℕ → Outer → Outer → Type 0
MakesTo site most (Ok end) made old new = MakesTurns site most (status_for end) made old new
MakesTo site most (Err halt) made old new = BreaksInTurn site most old new

-- a whole run, or one that breaks off
abbrev pub RunsTo : Site → ℕ → Result TurnEnd Halt → Outer → Outer → Type 0
RunsTo site most (Ok end) old new = Ran site most (status_for end) old new
RunsTo site most (Err halt) old new = Breaks site most old new
