-- Runs of the machine, by what their start comes to.
use Rattle.std.proofs.Common.{ℕ, ◌+◌, ◌-◌, min, arith}
use Rattle.rip_heap.specs.World.{World}
use Rattle.rip_eval_rows.specs.Evaluation.{reached}
use Rattle.rip_eval_rows.specs.Row.{Table}
use Rattle.rip_eval_rows.specs.Run.{Calling}
use Rattle.rip_tree.specs.Program.{Code}
use Rattle.rip_machine.specs.Law.{Standing, loaded}
use Rattle.rip_machine.specs.PlanLaws.{ends, once}
use Rattle.rip_machine.specs.Plans.{evaluation}
use Rattle.rip_machine.specs.Run.{run_begun}
use Rattle.rip_machine.specs.Starting.{Beginning, Exceeds, Runs, begun_by}
use Rattle.rip_eval_language.specs.Table.{table}
use Rattle.rip_replica.specs.Plays.{CountsUnits, LeavesAtMost, WantsMore}
use Rattle.rip_replica.proofs.RunUnits.{of-lent, of-wants}

begun_lent : {S : Type 0} (h : Calling S) (t : Table) (depth : ℕ) (b : Beginning) (w : World) (s : S) (fuel u : ℕ) → LeavesAtMost (min u fuel) (reached depth (run_begun h t depth b w s fuel u))
begun_lent h t depth (Runs row x) w s fuel u = of-lent h t depth depth row s fuel u
begun_lent h t depth (Exceeds limit) w s fuel u = omega arith

begun_wants : {S : Type 0} (h : Calling S) (t : Table) (depth : ℕ) (b : Beginning) (w : World) (s : S) (fuel u k : ℕ)
    → WantsMore (min (u + k) fuel - min u fuel) (reached depth (run_begun h t depth b w s fuel u)) (reached depth (run_begun h t depth b w s fuel (u + k)))
begun_wants h t depth (Runs row x) w s fuel u k = of-wants h t depth depth row s fuel u k
begun_wants h t depth (Exceeds limit) w s fuel u k = tt

pub counts : {S : Type 0} (h : Calling S) (code : Code) (m : Standing) → CountsUnits ((evaluation h code).run m)
counts h code m = record {
  once = λ start w s fuel u k. once h code m start w s fuel u k;
  ends = λ start w s fuel u le. ends h code m start w s fuel u le;
  lent = λ start w s fuel u. begun_lent h (table (loaded code m)) m.depth (begun_by (loaded code m) m.depth start w) w s fuel u;
  cut = λ start w s fuel u k. begun_wants h (table (loaded code m)) m.depth (begun_by (loaded code m) m.depth start w) w s fuel u k;
}
