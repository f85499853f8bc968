-- What is done for the input, whether it is refused or accepted.
use Rattle.std.specs.Prelude.{◌≡◌, ◌⊎◌, ℕ, List, Option}
use Rattle.rip_outer.specs.Outside.{Front, also}
use Rattle.rip_server.specs.Turning.{Outer}
use Rattle.rip_serve.specs.Serving.{OnlyPuts, NoFaults, OneFault}
use Rattle.rip_cli.specs.Input.{Refuses}
use Rattle.rip_cli.specs.Service.{Does}
use Rattle.rip_cli.specs.declared.input.Input.{Input}
use Rattle.rip_cli.specs.declared.status.Status.{Status}
use Rattle.rip_cli.specs.declared.status.Status.TheVariants.{Read, BadWords, BadInput, TurnsSpent, Outside, NoMemory}

-- all that is outside, where the sink holds this and failed so often
abbrev pub with_sink : Outer → Option (List ℕ) → ℕ → Outer
with_sink rest held faults = record rest { seen = record rest.seen { held = held }; sink_faults = faults }

-- these bytes were put, or a front of them, and nothing else was done
abbrev pub Puts : List ℕ → Outer → Outer → Type 0
Puts bytes old new = (new.seen.held ≡ also bytes old.seen.held) × OnlyPuts old new

abbrev pub PutsFront : List ℕ → Outer → Outer → Type 0
PutsFront bytes old new = Front bytes old.seen.held new.seen.held × OnlyPuts old new

-- the input is refused, and the line that says so was put, or a front of it
abbrev pub RefusesBy : (List ℕ → Outer → Outer → Type 0) → Input → Outer → Outer → Type 0
RefusesBy Put i old new = (line : List ℕ) × Refuses i line × Put line old new

-- what was done for the input
abbrev pub Settles : Status → Input → Outer → Outer → Type 0
Settles Read i old new = Does i Read old new
Settles BadWords i old new = ⊥
Settles BadInput i old new = RefusesBy Puts i old new
Settles TurnsSpent i old new = Does i TurnsSpent old new
Settles Outside i old new = RefusesBy PutsFront i old new ⊎ Does i Outside old new
Settles NoMemory i old new = (new ≡ old) ⊎ RefusesBy PutsFront i old new ⊎ Does i NoMemory old new

-- sink and door failed no more often than before, but once, the last call, where the outside stopped the run
abbrev pub Counts : Status → Outer → Outer → Type 0
Counts Read old new = NoFaults old new
Counts BadWords old new = NoFaults old new
Counts BadInput old new = NoFaults old new
Counts TurnsSpent old new = NoFaults old new
Counts Outside old new = OneFault old new
Counts NoMemory old new = NoFaults old new
