-- A busy session is cut after the units that its last batch got.
use Rattle.std.proofs.Common.{◌≡◌, ℕ, suc, ◌-◌, Bool, List, ◌++◌, length, slice_get, Some, refl, ap, sym, ◌∙◌, arith}
use Rattle.rip_wire.specs.Batches.{Contents}
use Rattle.rip_eval_rows.specs.Evaluation.{Evaluation}
use Rattle.rip_replica.specs.Going.{depth_in}
use Rattle.rip_replica.specs.Play.{play}
use Rattle.rip_history.specs.Parts.{Given}
use Rattle.rip_history.specs.Stages.{Stage}
use Rattle.rip_replica.specs.declared.replica.Place.{Place}
use Rattle.rip_replica.specs.declared.replica.Place.TheVariants.{First, Between, Within, Idle}
use Rattle.rip_replica.specs.Cuts.{CutAfter, at_first, between, within}
use Rattle.rip_replica.specs.Numbers.{open_at}
use Rattle.rip_replica.specs.Parts.{Doing, last_items, session_behind, stand_at}
use Rattle.rip_replica.specs.Sessions.{IsBusy, behind_batch}
use Rattle.rip_replica.specs.Standing.{Ahead, Behind, IsCut, IsCutIn, Left, Spot}

cut_at : {M A S : Type 0} (e : Evaluation M S) (d : Doing A S) (batches : List Contents) (given : List Given) (next : Behind S) (at : Spot M A S) (place : Place) (base units : ℕ) (ahead : Ahead S)
    → ((gs : List Given) (k : ℕ) → session_behind d batches (given ++ gs) k ≡ ahead.behind gs k) → at.all ≡ last_items d batches
    → Left e d (length batches) next at place base units ahead → IsCut e d (length batches) next at place base units ahead
    → CutAfter d batches given units (open_at place (depth_in e at.going.evaluator at.going.phase)) at.world at.page
cut_at e d batches given next at First base units ahead behind all left cut =
    at_first left.0 refl
    (λ gs. behind gs 0 ∙ left.4 gs ∙ ap (λ c. Some (stand_at c gs at.world at.page)) left.1)
cut_at e d batches given next at Between base units ahead behind all left cut =
    between at.begun refl
    (λ gs. behind gs at.begun ∙ left.4 gs ∙ ap (λ c. Some (stand_at c gs at.world at.page)) (sym left.0))
cut_at e d batches given next at Within base units ahead behind all left cut =
    let held : IsCutIn e d (length batches) next at base units ahead = cut in
    let up : suc (at.begun - 1) ≡ at.begun = omega (arith, held.one) in
    within (at.begun - 1) base held.units held.item held.world held.page
    (ap (λ xs. slice_get xs (at.begun - 1)) (sym all) ∙ held.is)
    (λ gs. behind gs (at.begun - 1) ∙ held.began gs)
    held.count
    (λ changes. ap (λ n. play d.run d.full (d.plan (length batches) held.item n held.world held.page) changes d.full held.units) up ∙ held.held changes)
cut_at e d batches given next at Idle base units ahead behind all left cut = absurd left

pub busy_cut : {M A S : Type 0} (e : Evaluation M S) (doing : ℕ → ℕ → Doing A S) (may : S → Bool) (at : Spot M A S) (st : Stage) → IsBusy e (doing st.seed st.time) may at st
    → CutAfter (doing st.seed st.time) st.batches st.given st.units (open_at at.place (depth_in e at.going.evaluator at.going.phase)) at.world at.page
busy_cut e doing may at st busy =
    let d : Doing _ _ = doing st.seed st.time in
    cut_at e d st.batches st.given (behind_batch d (length st.batches)) at at.place busy.base st.units busy.ahead busy.behind busy.all busy.stands.left busy.cut
