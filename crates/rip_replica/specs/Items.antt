-- What an item does, as a plan over the page that stands behind the script.
use Rattle.std.specs.Prelude.{ℕ, ◌+◌, [], ◌∷◌}
use Rattle.rip_base.specs.declared.report.BadReport.TheVariants.{Number, Due}
use Rattle.rip_base.specs.declared.value.Limit.TheVariants.{Replies}
use Rattle.rip_base.specs.declared.value.Value.TheVariants.{Undefined}
use Rattle.rip_heap.specs.World.{World}
use Rattle.rip_eval_rows.specs.declared.close.Close.TheVariants.{Fine, Refused, Mismatch, Stopped}
use Rattle.rip_eval_rows.specs.declared.completion.Stop.TheVariants.{Limit as AtLimit}
use Rattle.rip_eval_rows.specs.declared.step.Step.{Step}
use Rattle.rip_eval_rows.specs.declared.step.Step.TheVariants as step
use Rattle.rip_eval_rows.specs.Plan.{Plan, Over, Awaits, Runs}
use Rattle.rip_eval_rows.specs.Started.{CallOf}
use Rattle.rip_replica.specs.declared.items.page_host.Position.{Position}
use Rattle.rip_replica.specs.declared.items.page_host.Position.TheVariants as position
use Rattle.rip_replica.specs.declared.items.session.Item.{Item}
use Rattle.rip_replica.specs.declared.items.session.Item.TheVariants.{Event, Call, Reply}
use Rattle.rip_replica.specs.declared.items.session.UnderWay.{UnderWay}
use Rattle.rip_replica.specs.declared.items.session.UnderWay.TheVariants.{Fresh, Flowing, Ending}
use Rattle.rip_replica.specs.Rules.{CallsBack, Delivered, NotDue, ReplyStops, Rules}

-- an item that is over and fine
abbrev pub fine : {S : Type 0} → World → S → Plan S
fine w s = Over Fine w s

-- a reply: where it is not due it ends the session, and so does a fault or a limit; else its callback is called with `this` undefined,
-- and how that comes out counts for nothing
abbrev pub reply_plan : {S : Type 0} → ℕ → Delivered S → World → S → Plan S
reply_plan item NotDue w s = Over (Refused item Due) w s
reply_plan item (ReplyStops stop x r) w s = Over (Stopped item stop) x r
reply_plan item (CallsBack function v x r) w s = Runs item (CallOf function Undefined (v ∷ [])) x r fine

-- a call: where its number is not the next, another call stands at its position or none, or too many replies wait, it ends
-- the session; else it is served by the outside, and is over
abbrev pub call_plan : {S : Type 0} → ℕ → Position → World → S → Plan S
call_plan item position.NotNext w s = Over (Refused item Number) w s
call_plan item position.Other w s = Over (Mismatch item) w s
call_plan item position.TooMany w s = Over (Stopped item (AtLimit Replies)) w s
call_plan item position.Served w s = Awaits w s (λ r. fine w r)

-- what an item of this number does in a batch of this number
abbrev pub item_plan : {F S : Type 0} → Rules F S → ℕ → Item → ℕ → World → S → Plan S
item_plan rules batch (Event report) item w s = rules.event s w report item fine
item_plan rules batch (Call number text) item w s = call_plan item (rules.position s number text) w s
item_plan rules batch (Reply number) item w s = reply_plan item (rules.delivered s w batch number) w s

-- what is left of an item under way: all of it; or its flow; or nothing
abbrev pub left_of_item : {F S : Type 0} → Rules F S → ℕ → F → UnderWay → Item → ℕ → World → S → Plan S
left_of_item rules batch flow Fresh what item w s = item_plan rules batch what item w s
left_of_item rules batch flow Flowing what item w s = rules.flow flow item fine w s
left_of_item rules batch flow Ending what item w s = fine w s

-- a bound of the steps that are left of it
abbrev pub steps_of_item : ℕ → ℕ → UnderWay → ℕ
steps_of_item most flow Fresh = most + 2
steps_of_item most flow Flowing = flow + 1
steps_of_item most flow Ending = 0

-- the first step of a call
abbrev pub call_step : ℕ → Position → Step
call_step item position.NotNext = step.Over (Refused item Number)
call_step item position.Other = step.Over (Mismatch item)
call_step item position.TooMany = step.Over (Stopped item (AtLimit Replies))
call_step item position.Served = step.Await

-- where it stands then
abbrev pub under_way_of : Position → UnderWay
under_way_of position.NotNext = Fresh
under_way_of position.Other = Fresh
under_way_of position.TooMany = Fresh
under_way_of position.Served = Ending
