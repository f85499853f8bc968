use Rattle.std.proofs.Common.{◌≡◌, List, Option, length}
use Rattle.rip_grammar.specs.declared.event.Event.{Event}
use Rattle.rip_automaton.specs.declared.frame.Frame.{Frame}
use Rattle.rip_automaton.specs.declared.mode.Shape.{Shape}
use Rattle.rip_automaton.specs.States.{State}
use Rattle.rip_automaton.specs.Continuations.{reduce}
use Rattle.rip_parser.proofs.machine.Machine.reduce.Given as goal

abbrev pub invariant-operators : goal.invariant-operators
invariant-operators l = (next : Shape → List Frame → List Event → Option State) → reduce l.level l.fn.shape l.fn.self.stack l.fn.self.events next ≡ reduce l.level l.shape l.self.stack l.self.events next

abbrev pub decreases-operators : goal.decreases-operators
decreases-operators l = length l.self.stack
