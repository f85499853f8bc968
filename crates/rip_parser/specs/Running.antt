-- What the machine's code holds, and what its steps do. No public clause cites this.
use Rattle.std.specs.Prelude.{◌≡◌, ℕ, nat_le, Bool, true, false, List, [], ◌∷◌, Option, Some, None, cond}
use Rattle.rip_grammar.specs.declared.event.Event.{Event}
use Rattle.rip_automaton.specs.declared.frame.Pending.{Pending}
use Rattle.rip_automaton.specs.declared.frame.Frame.{Frame}
use Rattle.rip_automaton.specs.declared.frame.Frame.TheVariants as F
use Rattle.rip_automaton.specs.declared.mode.Mode.{Mode}
use Rattle.rip_automaton.specs.declared.mode.Shape.{Shape}
use Rattle.rip_automaton.specs.Frames.{pending_level}
use Rattle.rip_automaton.specs.States.{State, At}

-- what is wanted, the open forms and what has been told, both with the latest first
pub record Course : Type 0 where
  pub mode : Mode
  pub stack : List Frame
  pub events : List Event

-- the course is in this state, or the lexeme was refused
abbrev pub Takes : Bool → Course → Option State → Type 0
Takes true course state = state ≡ Some (At course.mode course.stack course.events)
Takes false course state = state ≡ None

-- the latest of the open forms
abbrev pub first : List Frame → Option Frame
first [] = None
first (f ∷ st) = Some f

-- the others
abbrev pub others : List Frame → List Frame
others [] = []
others (f ∷ st) = st

-- the latest of the open forms is an operator that holds at least this tightly
abbrev pub ending : ℕ → List Frame → Option Pending
ending n (F.Operator o b ∷ st) = cond (nat_le n (pending_level o)) (Some o) None
ending n st = None

-- operators have ended, with an operand of this shape left, or one of them may not end
abbrev pub Reduces : Option Shape → Course → ((Shape → List Frame → List Event → Option State) → Option State) → Type 0
Reduces None course reduced = (next : Shape → List Frame → List Event → Option State) → reduced next ≡ None
Reduces (Some sh) course reduced = (next : Shape → List Frame → List Event → Option State) → reduced next ≡ next sh course.stack course.events
