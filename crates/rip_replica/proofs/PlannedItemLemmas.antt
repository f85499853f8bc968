-- The first step of an item is a step of its plan.
use Rattle.std.proofs.Common.{◌≡◌, ℕ, Result, Ok, Err, IfOk, ap, ◌∙◌}
use Rattle.rip_base.specs.declared.report.Report.{Report}
use Rattle.rip_heap.specs.World.{World}
use Rattle.rip_eval_rows.specs.declared.step.Step.{Step}
use Rattle.rip_eval_rows.specs.Plan.{Plan, ahead}
use Rattle.rip_replica.specs.declared.items.session.Item.{Item}
use Rattle.rip_replica.specs.declared.items.session.Item.TheVariants.{Event, Reply}
use Rattle.rip_replica.specs.declared.items.session.UnderWay.{UnderWay}
use Rattle.rip_replica.specs.declared.items.session.UnderWay.TheVariants.{Fresh}
use Rattle.rip_replica.specs.Items.{fine, item_plan, left_of_item, reply_plan}
use Rattle.rip_replica.specs.Rules.{Rules}

pub of_event : {F S E : Type 0} (rules : Rules F S) (batch : ℕ) (what : Item) (report : Report) (number : ℕ) (w x : World) (s r : S) (rest : Item → World → S → Plan S) (result : Result Step E)
    → what ≡ Event report → IfOk result (λ step. (item : Item) → rules.event s w report number fine ≡ ahead (rest item) step x r)
    → IfOk result (λ step. item_plan rules batch what number w s ≡ ahead (rest what) step x r)
of_event rules batch what report number w x s r rest (Ok step) is h = ap (λ i. item_plan rules batch i number w s) is ∙ h what
of_event rules batch what report number w x s r rest (Err e) is h = tt

pub of_reply : {F S : Type 0} (rules : Rules F S) (batch : ℕ) (what : Item) (call : ℕ) (number : ℕ) (w x : World) (s r : S) (rest : Item → World → S → Plan S) (step : Step)
    → what ≡ Reply call → ((item : Item) → reply_plan number (rules.delivered s w batch call) w s ≡ ahead (rest item) step x r)
    → item_plan rules batch what number w s ≡ ahead (rest what) step x r
of_reply rules batch what call number w x s r rest step is h = ap (λ i. item_plan rules batch i number w s) is ∙ h what

-- an item before its first step
pub of_fresh : {F S E : Type 0} (rules : Rules F S) (batch later : ℕ) (flow then : F) (under_way there : UnderWay) (what : Item) (number : ℕ) (w x : World) (s r : S) (result : Result Step E)
    → under_way ≡ Fresh → later ≡ batch → IfOk result (λ step. item_plan rules batch what number w s ≡ ahead (left_of_item rules batch then there what number) step x r)
    → IfOk result (λ step. left_of_item rules batch flow under_way what number w s ≡ ahead (left_of_item rules later then there what number) step x r)
of_fresh rules batch later flow then under_way there what number w x s r (Ok step) is same h = rw (is, same) h
of_fresh rules batch later flow then under_way there what number w x s r (Err e) is same h = tt
