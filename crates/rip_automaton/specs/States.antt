-- The states of the machine.
use Rattle.std.specs.Prelude.{List}
use Rattle.rip_grammar.specs.declared.event.Event.{Event}
use Rattle.rip_automaton.specs.declared.frame.Frame.{Frame}
use Rattle.rip_automaton.specs.declared.mode.Mode.{Mode}

-- what is wanted, the open forms and what has been told, both with the latest first
pub data State : Type 0 where
  At : Mode → List Frame → List Event → State
