-- A replica at a stage of the server's course.
use Rattle.std.specs.Prelude.{◌≡◌, ℕ, Bool, List, length}
use Rattle.rip_heap.specs.World.{World}
use Rattle.rip_wire.specs.declared.ending.Ending.{Ending}
use Rattle.rip_eval_rows.specs.declared.close.Close.{Close}
use Rattle.rip_eval_rows.specs.Evaluation.{Evaluation}
use Rattle.rip_eval_rows.specs.Plan.{Plan}
use Rattle.rip_history.specs.Parts.{Fact, Given}
use Rattle.rip_history.specs.Stages.{Stage}
use Rattle.rip_replica.specs.declared.replica.Replica.{Replica}
use Rattle.rip_replica.specs.Parts.{Doing}
use Rattle.rip_replica.specs.Plays.{CountsUnits}
use Rattle.rip_replica.specs.Sessions.{IsAt}
use Rattle.rip_replica.specs.Slices.{Agrees}
use Rattle.rip_replica.specs.Standing.{spot}

-- what sessions do is done by these plans, with what items come to, the page after a served call and the endings; and runs
-- count their units
pub record AreDoneBy {A S : Type 0} (doing : ℕ → ℕ → Doing A S) (plans : ℕ → A → ℕ → World → S → Plan S) (fact : A → Fact)
    (serve : ℕ → Given → S → S) (ending : List A → Close → S → Ending) : Type 0 where
  pub planned : (seed time : ℕ) → (doing seed time).plan ≡ plans
  pub agrees : (seed time : ℕ) → Agrees (doing seed time) fact serve ending
  pub counts : (seed time : ℕ) → CountsUnits (doing seed time).run

-- the replica of a session stands at a stage, at the batch of the number of its last
pub record IsAtStage {M I A S : Type 0} (e : Evaluation M S) (doing : ℕ → ℕ → Doing A S) (item_plan under_way : I → A → ℕ → World → S → Plan S)
    (may : S → Bool) (r : Replica M I A S) (st : Stage) : Type 0 where
  pub number : r.number ≡ length st.batches
  pub stands : IsAt e doing may (spot item_plan under_way r) st
