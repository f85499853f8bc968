-- Where a session stands that was opened, and one that was admitted a batch.
use Rattle.std.specs.Prelude.{◌≡◌, [], ◌∷◌}
use Rattle.rip_wire.specs.Batches.{Contents}
use Rattle.rip_eval_rows.specs.Evaluation.{Evaluation}
use Rattle.rip_replica.specs.declared.replica.Place.TheVariants.{First}
use Rattle.rip_replica.specs.Parts.{Doing}
use Rattle.rip_replica.specs.Standing.{Spot}

-- the session stands before the first unit of its opening
pub record IsOpened {M A S : Type 0} (e : Evaluation M S) (d : Doing A S) (at : Spot M A S) : Type 0 where
  pub run : e.run at.going.evaluator ≡ d.run
  pub full : at.going.full ≡ d.full
  pub plan : at.item_plan ≡ d.plan 0
  pub all : at.all ≡ d.opening ∷ []
  pub begun : at.begun ≡ 0
  pub place : at.place ≡ First
  pub world : at.world ≡ d.world
  pub page : at.page ≡ d.page

-- a session that stood at the one spot stands at the other, before the first unit of this batch
pub record IsAdmitted {M A S : Type 0} (d : Doing A S) (b : Contents) (at to : Spot M A S) : Type 0 where
  pub evaluator : to.going.evaluator ≡ at.going.evaluator
  pub full : to.going.full ≡ at.going.full
  pub plan : to.item_plan ≡ d.plan b.number
  pub all : to.all ≡ d.items b
  pub begun : to.begun ≡ 0
  pub place : to.place ≡ First
  pub world : to.world ≡ at.world
  pub page : to.page ≡ at.page
