-- Runs of the machine come to their end once, and by their fuel: what plans rest on.
use Rattle.std.specs.Prelude.{ℕ, ◌+◌, ◌-◌, ◌≤◌, min}
use Rattle.rip_heap.specs.World.{World}
use Rattle.rip_eval_rows.specs.declared.completion.Stop.TheVariants.{Limit as AtLimit}
use Rattle.rip_eval_rows.specs.Evaluation.{EndsByFuel, IsEnded, IsLater, RunsOnce, reached}
use Rattle.rip_eval_rows.specs.Row.{Table}
use Rattle.rip_eval_rows.specs.Run.{Calling}
use Rattle.rip_eval_rows.proofs.Later.{of-ended, of-later, reached-later, stopped-later}
use Rattle.rip_tree.specs.Program.{Code}
use Rattle.rip_machine.specs.Law.{Standing, loaded}
use Rattle.rip_machine.specs.Plans.{evaluation}
use Rattle.rip_machine.specs.Run.{run_begun}
use Rattle.rip_machine.specs.Starting.{Beginning, Exceeds, Runs, begun_by}
use Rattle.rip_eval_language.specs.Table.{table}

-- what a start comes to, with more units
pub begun_once : {S : Type 0} (h : Calling S) (t : Table) (depth : ℕ) (b : Beginning) (w : World) (s : S) (fuel u k : ℕ)
    → IsLater (min (u + k) fuel - min u fuel) (reached depth (run_begun h t depth b w s fuel u)) (reached depth (run_begun h t depth b w s fuel (u + k)))
begun_once h t depth (Runs row x) w s fuel u k =
    reached-later depth (min (u + k) fuel - min u fuel) (run_begun h t depth (Runs row x) w s fuel u) (run_begun h t depth (Runs row x) w s fuel (u + k)) (of-later h t depth row s fuel u k)
begun_once h t depth (Exceeds limit) w s fuel u k = stopped-later (AtLimit limit) w s fuel u k

-- more units change no run that has come to its end
pub once : {S : Type 0} (h : Calling S) (code : Code) (m : Standing) → RunsOnce (evaluation h code) m
once h code m start w s fuel u k = begun_once h (table (loaded code m)) m.depth (begun_by (loaded code m) m.depth start w) w s fuel u k

-- what a start comes to, with as many units as fuel
pub begun_ends : {S : Type 0} (h : Calling S) (t : Table) (depth : ℕ) (b : Beginning) (w : World) (s : S) (fuel u : ℕ)
    → fuel ≤ u → IsEnded (reached depth (run_begun h t depth b w s fuel u))
begun_ends h t depth (Runs row x) w s fuel u le = of-ended h t depth depth row s fuel u le
begun_ends h t depth (Exceeds limit) w s fuel u le = tt

-- a run with as many units as fuel comes to its end
pub ends : {S : Type 0} (h : Calling S) (code : Code) (m : Standing) → EndsByFuel (evaluation h code) m
ends h code m start w s fuel u le = begun_ends h (table (loaded code m)) m.depth (begun_by (loaded code m) m.depth start w) w s fuel u le
