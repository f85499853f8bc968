-- The rows of `throw` and `try` (ECMA-262 12.13, 12.14).
use Rattle.std.specs.Prelude.{ℕ, Option, None, Some}
use Rattle.rip_base.specs.declared.value.Limit.TheVariants.{Cells}
use Rattle.rip_base.specs.declared.value.Value.{Value}
use Rattle.rip_heap.specs.Scopes.{new_scope, with_binding}
use Rattle.rip_heap.specs.World.{World}
use Rattle.rip_eval_rows.specs.declared.completion.Completion.{Completion}
use Rattle.rip_eval_rows.specs.declared.completion.Completion.TheVariants.{Normal, Thrown, Returned, Broken, Continued, Referred, Method}
use Rattle.rip_eval_rows.specs.declared.completion.Stop.TheVariants.{Limit as AtLimit}
use Rattle.rip_eval_rows.specs.declared.part.Inner.{Inner}
use Rattle.rip_eval_rows.specs.declared.part.Part.{Part}
use Rattle.rip_eval_rows.specs.Frame.{inner, inside}
use Rattle.rip_eval_rows.specs.Row.{Row, Asks, Ends, Halts, with_value}
use Rattle.rip_eval_language.specs.Reading.{Loaded, child, child_at, part, part_at}

-- 12.13
abbrev pub throw_end : Completion → World → Row
throw_end c w = with_value c w (λ v. Ends (Thrown v) w)

-- the row of `throw`
abbrev pub throw_row : Loaded → Part → World → Row
throw_row p at w = Asks (part_at p at 0) w throw_end

-- `finally` runs last, and its completion counts unless it is normal; then it is the one before it (12.14)
abbrev pub finally_end : Completion → Completion → World → Row
finally_end before (Normal v) w = Ends before w
finally_end before (Thrown v) w = Ends (Thrown v) w
finally_end before (Returned v) w = Ends (Returned v) w
finally_end before Broken w = Ends Broken w
finally_end before Continued w = Ends Continued w
finally_end before (Referred r) w = Ends (Referred r) w
finally_end before (Method f this) w = Ends (Method f this) w

abbrev pub finally_by : Part → Option ℕ → Completion → World → Row
finally_by at None before w = Ends before w
finally_by at (Some block) before w = Asks (part at block) w (finally_end before)

-- `finally`, where there is one, after the completion of what stands before it
abbrev pub finally_row : Loaded → Part → Completion → World → Row
finally_row p at before w = finally_by at (child_at p at.node 2) before w

-- the block of a `catch` clause, in a scope of its own
abbrev pub catch_part : Loaded → Part → ℕ → ℕ → Inner
catch_part p at clause scope = record (inner at (child p clause 0)) { scope = scope }

-- `catch` has a scope of one binding, which is the value that was thrown
abbrev pub caught_in : Loaded → Part → ℕ → Value → Option (ℕ × World) → World → Row
caught_in p at clause v None w = Halts (AtLimit Cells) w
caught_in p at clause v (Some made) w = Asks (inside at (catch_part p at clause made.0)) (with_binding made.1 made.0 0 v) (finally_row p at)

abbrev pub caught_by : Loaded → Part → Option ℕ → Value → World → Row
caught_by p at None v w = finally_row p at (Thrown v) w
caught_by p at (Some clause) v w = caught_in p at clause v (new_scope w (Some at.scope) 1) w

-- after the block of `try`: what was thrown is caught, where there is a clause; then `finally`
abbrev pub try_end : Loaded → Part → Completion → World → Row
try_end p at (Thrown v) w = caught_by p at (child_at p at.node 1) v w
try_end p at (Normal v) w = finally_row p at (Normal v) w
try_end p at (Returned v) w = finally_row p at (Returned v) w
try_end p at Broken w = finally_row p at Broken w
try_end p at Continued w = finally_row p at Continued w
try_end p at (Referred r) w = finally_row p at (Referred r) w
try_end p at (Method f this) w = finally_row p at (Method f this) w

-- 12.14
abbrev pub try_row : Loaded → Part → World → Row
try_row p at w = Asks (part_at p at 0) w (try_end p at)
