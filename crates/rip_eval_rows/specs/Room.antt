-- The room of the values beside open frames.
use Rattle.std.specs.Prelude.{◌≡◌, ℕ, ◌+◌, ◌<◌, ◌⊎◌, Bool, IsTrue, List, [], ◌∷◌, ◌++◌}
use Rattle.rip_base.specs.declared.value.Value.{Value}
use Rattle.rip_eval_rows.specs.declared.completion.Completion.{Completion}
use Rattle.rip_eval_rows.specs.declared.completion.Completion.TheVariants.{Normal, Thrown, Returned, Broken, Continued, Referred, Method}
use Rattle.rip_eval_rows.specs.declared.next.Control.{Control}
use Rattle.rip_eval_rows.specs.declared.next.Control.TheVariants.{Enter, Give, Halted}
use Rattle.rip_eval_rows.specs.Stack.{Open, count_of_values}

-- the most values that are ever beside the open frames of a run with so many units left: those that are there, and one more
-- for each unit, since a part is entered after a value was kept; and one more where a completion is at hand, which may be kept
-- before a unit is taken
abbrev pub most_values : Control → List Open → ℕ → ℕ
most_values (Enter part) frames units = count_of_values frames + units
most_values (Give c) frames units = count_of_values frames + units + 1
most_values (Halted stop room) frames units = count_of_values frames + units + 1

-- memory is wanting where the host may want it, or where there is room for fewer values than these
abbrev pub WantsMemory : Bool → ℕ → ℕ → Type 0
WantsMemory host room values = IsTrue host ⊎ (room < values)

-- these are the values beside a frame and the value of the completion that it was given, if that has one
abbrev pub AreTogether : List Value → Completion → List Value → Type 0
AreTogether values (Normal v) all = all ≡ values ++ v ∷ []
AreTogether values (Thrown v) all = Unit {0}
AreTogether values (Returned v) all = Unit {0}
AreTogether values Broken all = Unit {0}
AreTogether values Continued all = Unit {0}
AreTogether values (Referred r) all = Unit {0}
AreTogether values (Method f this) all = Unit {0}
