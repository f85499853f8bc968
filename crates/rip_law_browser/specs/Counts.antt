-- The runs of the machine count their units.
use Rattle.rip_eval_rows.specs.Run.{Calling}
use Rattle.rip_tree.specs.Program.{Code}
use Rattle.rip_machine.specs.Law.{Standing}
use Rattle.rip_machine.specs.Plans.{evaluation}
use Rattle.rip_replica.specs.Plays.{CountsUnits}

-- whatever the host answers, the program is and the machine stands at
abbrev pub MachinesCount : Type 0 → Type 0
MachinesCount S = (h : Calling S) (code : Code) (m : Standing) → CountsUnits ((evaluation h code).run m)
