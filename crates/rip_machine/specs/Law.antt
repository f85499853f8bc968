-- What is left of a run that stands, and what `start` and `resume` leave of it.
use Rattle.std.specs.Prelude.{◌≡◌, ℕ, List, Result, Ok, Err}
use Rattle.rip_base.specs.declared.value.Refused.{Refused}
use Rattle.rip_base.specs.declared.value.Refused.TheVariants.{Limit as At, Memory as NoRoom}
use Rattle.rip_base.specs.declared.value.Span.{Span}
use Rattle.rip_heap.specs.World.{World}
use Rattle.rip_eval_rows.specs.declared.next.Control.{Control}
use Rattle.rip_eval_rows.specs.declared.outcome.Outcome.{Outcome}
use Rattle.rip_eval_rows.specs.declared.outcome.Turned.{Turned}
use Rattle.rip_eval_rows.specs.Law.{Standing as Run}
use Rattle.rip_eval_rows.specs.Law as law
use Rattle.rip_eval_rows.specs.Row.{Row, Table}
use Rattle.rip_eval_rows.specs.Run.{Answer, Calling}
use Rattle.rip_eval_rows.specs.Stack.{Open}
use Rattle.rip_tree.specs.Program.{Code}
use Rattle.rip_eval_language.specs.Reading.{Loaded}
use Rattle.rip_machine.specs.Starting.{Beginning, Exceeds, Runs}

-- a machine: a run that stands, by its parts; and of each node of the program the span of the text that it is or names
pub record Standing : Type 0 where
  pub control : Control
  pub frames : List Open
  pub fuel : ℕ
  pub spent : ℕ
  pub depth : ℕ
  pub literals : List Span
  pub value_room : ℕ

-- the run of a machine
abbrev pub run : Standing → Run
run m = record { control = m.control; frames = m.frames; fuel = m.fuel; spent = m.spent; depth = m.depth; value_room = m.value_room }

-- a run and the spans of a program's texts
abbrev pub standing : Run → List Span → Standing
standing r literals = record { control = r.control; frames = r.frames; fuel = r.fuel; spent = r.spent; depth = r.depth; literals = literals; value_room = r.value_room }

-- what is left of the run, with k units
abbrev pub left : {S : Type 0} → Calling S → Table → Standing → World → S → ℕ → Answer S
left h t m w s k = law.left h t (run m) w s k

-- how many nodes are entered and not ended, and functions are running, where a machine stands
abbrev pub open_depth : Standing → ℕ
open_depth m = law.open_depth (run m)

-- the most values that are ever beside the open frames of its run
abbrev pub values_of : Standing → ℕ
values_of m = law.values_of (run m)

-- the run ends within n units with this outcome, as the law of runs says
abbrev pub Ends : {S : Type 0} → Calling S → Table → Standing → World → S → ℕ → Standing → World → S → Outcome → Type 0
Ends h t m w s n m' w' s' outcome = law.Ends h t (run m) w s n (run m') w' s' outcome

-- what a machine, a world and a host are after n units, as the law of runs says
abbrev pub Resumes : {S : Type 0} → Calling S → Table → Standing → World → S → ℕ → Standing → World → S → Turned → Type 0
Resumes h t m w s n m' w' s' turned = law.Resumes h t (run m) w s n (run m') w' s' turned

-- a program with the literals that a machine has loaded
abbrev pub loaded : Code → Standing → Loaded
loaded code m = record { code = code; literals = m.literals }

-- the machine stands at the beginning of a run of this row with so much fuel, of which nothing is spent
abbrev pub Begins : Table → Row → ℕ → World → Standing → Type 0
Begins t row fuel w m = law.Begins t row fuel w (run m)

-- what a start leaves of a run, where it comes to this: the run at the beginning of the row, in the world after what the
-- start charged and bound; or all as it was, exactly where a limit would be passed, or where memory is wanting
abbrev pub StartsRun : Table → Beginning → ℕ → World → World → Run → Run → Result (Unit {0}) Refused → Type 0
StartsRun t beginning fuel w x m n (Ok done) = (row : Row) × (beginning ≡ Runs row x) × law.Begins t row fuel x n
StartsRun t beginning fuel w x m n (Err (At limit)) = (beginning ≡ Exceeds limit) × (x ≡ w) × (n ≡ m)
StartsRun t beginning fuel w x m n (Err NoRoom) = (x ≡ w) × (n ≡ m)

-- what `start` leaves, where it comes to this: the machine at the beginning of the row, in the world after what the start
-- charged and bound; or all as it was, exactly where a limit would be passed, or where memory is wanting
abbrev pub Starts : Table → Beginning → ℕ → World → World → Standing → Standing → Result (Unit {0}) Refused → Type 0
Starts t beginning fuel w x m n (Ok done) = (row : Row) × (beginning ≡ Runs row x) × Begins t row fuel x n
Starts t beginning fuel w x m n (Err (At limit)) = (beginning ≡ Exceeds limit) × (x ≡ w) × (n ≡ m)
Starts t beginning fuel w x m n (Err NoRoom) = (x ≡ w) × (n ≡ m)
