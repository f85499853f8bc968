-- What a start answers, once it is known what it comes to.
use Rattle.std.proofs.Common.{◌≡◌, ℕ, ◌==◌, if◌then◌else◌, Bool, true, false, List, [], Some, Result, Ok, Err, refl, ap, sym, ◌∙◌, subst}
use Rattle.std.proofs.lemmas.Bool.{ne_eqb}
use Rattle.rip_base.specs.declared.value.Limit.TheVariants.{Depth}
use Rattle.rip_base.specs.declared.value.Refused.{Refused}
use Rattle.rip_base.specs.declared.value.Refused.TheVariants.{Limit as At, Memory as NoRoom}
use Rattle.rip_base.specs.declared.value.Span.{Span}
use Rattle.rip_base.specs.declared.value.Value.{Value}
use Rattle.rip_heap.specs.World.{World}
use Rattle.rip_eval_rows.specs.declared.completion.Stop.TheVariants.{Limit as AtLimit}
use Rattle.rip_eval_rows.specs.declared.frame.Ending.TheVariants.{Call as CallEnding}
use Rattle.rip_eval_rows.specs.declared.next.Next.{Next}
use Rattle.rip_eval_rows.specs.declared.next.Next.TheVariants.{End, Halt, Ask, Keep, Turn, Call}
use Rattle.rip_eval_rows.specs.declared.part.Part.{Part}
use Rattle.rip_eval_rows.specs.Frame.{inner, inside, waiting}
use Rattle.rip_eval_rows.specs.Law.{Begins, Standing as Run}
use Rattle.rip_eval_rows.specs.Rest.{as_row}
use Rattle.rip_eval_rows.specs.Row.{Asks, Halts, Row, Table}
use Rattle.rip_eval_rows.specs.Run.{world_at}
use Rattle.rip_eval_rows.specs.Stack.{Open, framed}
use Rattle.rip_eval_language.specs.declared.callee.Invocable.{Invocable}
use Rattle.rip_eval_language.specs.declared.callee.Invocable.TheVariants.{OfScript}
use Rattle.rip_machine.specs.Law.{Starts, StartsRun, standing}
use Rattle.rip_eval_language.specs.Reading.{Loaded}
use Rattle.rip_eval_language.specs.Rows.Functions.{body, function_entered}
use Rattle.rip_eval_language.specs.Rows.Statements.{statements}
use Rattle.rip_machine.specs.Starting.{Beginning, Runs, call_begun, function_begun, function_part}

-- the call of a function of the script runs its statements
pub runs_function : (p : Loaded) (depth : ℕ) (this : Value) (args : List Value) (callee : Invocable) (w x : World) (f scope made : ℕ)
    → (depth ≡ 0 → ⊥) → callee ≡ OfScript f scope → function_entered p f scope args w ≡ Some (made, x)
    → call_begun p depth this args callee w ≡ Runs (statements p (function_part f made this depth) CallEnding (body p f) x) x
runs_function p depth this args callee w x f scope made some is entered =
    rw is (rw (ne_eqb depth 0 some) (ap (function_begun p depth f this) entered))

-- the world at which the row of what is done next begins
called_world : (t : Table) (part : Part) (o : Open) (w : World) (full : Bool) → world_at (if full then Halts (AtLimit Depth) w else Asks part w (t.rest o)) ≡ w
called_world t part o w true = refl
called_world t part o w false = refl

pub world_of_next : (t : Table) (at : Part) (next : Next) (values : List Value) (w : World) → world_at (as_row t at next values w) ≡ w
world_of_next t at (End c) values w = refl
world_of_next t at (Halt stop) values w = refl
world_of_next t at (Ask part wait) values w = refl
world_of_next t at (Keep part wait v) values w = refl
world_of_next t at (Turn part wait) values w = refl
world_of_next t at (Call part node wait) values w =
    let a : Part = inside at part in
    called_world t (inside a (inner a node)) (framed (waiting a wait) []) w (a.room == 0)

-- a run that stands where this is done next stands at the beginning of its row
abbrev pub Stood : Next → Part → ℕ → Run → Type 0
Stood next at fuel n = (t : Table) (w : World) → Begins t (as_row t at next [] w) fuel w n

pub stood : (next : Next) (t : Table) (at : Part) (row : World → Row) (fuel : ℕ) (n : Run)
    → ((values : List Value) (w : World) → as_row t at next values w ≡ row w) → Stood next at fuel n → (w : World) → Begins t (row w) fuel w n
stood next t at row fuel n e b w = let B : Row → Type 0 = λ row. Begins t row fuel w n in subst B (e [] w) (b t w)

-- the same of what asks for no part, in this world
pub stood_in : (next : Next) (t : Table) (at : Part) (row : Row) (fuel : ℕ) (n : Run) (x : World)
    → ((t : Table) (at : Part) (values : List Value) → as_row t at next values x ≡ row) → Stood next at fuel n → (x ≡ world_at row) × Begins t row fuel x n
stood_in next t at row fuel n x e b =
    let B : Row → Type 0 = λ row. Begins t row fuel x n in
    (sym (world_of_next t at next [] x) ∙ ap world_at (e t at []), subst B (e t at []) (b t x))

-- what was started of a run was started of its machine
pub starts_machine : (t : Table) (beginning : Beginning) (fuel : ℕ) (w x : World) (m n : Run) (literals : List Span) (r : Result (Unit {0}) Refused)
    → StartsRun t beginning fuel w x m n r → Starts t beginning fuel w x (standing m literals) (standing n literals) r
starts_machine t beginning fuel w x m n literals (Ok done) s = s
starts_machine t beginning fuel w x m n literals (Err (At limit)) s = (s.0, s.1, ap (λ k. standing k literals) s.2)
starts_machine t beginning fuel w x m n literals (Err NoRoom) s = (s.0, ap (λ k. standing k literals) s.1)
