-- What is answered on the way to the flow of a reported event.
use Rattle.std.specs.Prelude.{◌≡◌, ℕ, false, None, Some, Result, Ok, Err}
use Rattle.rip_base.specs.declared.report.Report.{Report}
use Rattle.rip_base.specs.declared.value.Limit.{Limit}
use Rattle.rip_base.specs.declared.value.Limit.TheVariants.{Cells}
use Rattle.rip_base.specs.declared.value.Refused.{Refused as Refusal}
use Rattle.rip_base.specs.declared.value.Refused.TheVariants.{Limit as At, Memory}
use Rattle.rip_values.specs.declared.fixed.FixedText.TheVariants.{Load}
use Rattle.rip_replica.specs.Items.{fine}
use Rattle.rip_heap.specs.Conversions.{span_of}
use Rattle.rip_heap.specs.World.{World}
use Rattle.rip_events.specs.Flow.{begun as course_begun}
use Rattle.rip_eval_rows.specs.declared.close.Close.TheVariants.{Refused, Stopped}
use Rattle.rip_eval_rows.specs.declared.completion.Stop.TheVariants.{Limit as AtLimit}
use Rattle.rip_eval_rows.specs.Plan.{Over}
use Rattle.rip_host.specs.declared.browser.Browser.{Browser}
use Rattle.rip_host.specs.EventMembers.{bubbles}
use Rattle.rip_host.specs.Flow.{event_opened, flow}
use Rattle.rip_replica.specs.declared.items.page_host.ReportRefused.{ReportRefused}
use Rattle.rip_replica.specs.declared.items.page_host.ReportRefused.TheVariants as report
use Rattle.rip_browser.specs.declared.flow.Flow.{Flow}
use Rattle.rip_browser.specs.Events.{Going, browser_after, event_plan, left_of, type_of, world_after}

-- the event of a legal report is opened where the report has had its effect: there is its object; or its cell would pass
-- the limit, and the effect alone is done; memory is never wanting
abbrev pub OpensAfter : Report → World → Browser → Result ℕ ReportRefused → World → Browser → Type 0
OpensAfter r w s (Ok event) x t =
    event_opened (world_after w s r) (browser_after w s r) (span_of (type_of r.kind)) r.node ≡ Some (event, x, t)
OpensAfter r w s (Err (report.Illegal kind)) x t = ⊥
OpensAfter r w s (Err (report.Limit limit)) x t =
    (event_opened (world_after w s r) (browser_after w s r) (span_of (type_of r.kind)) r.node ≡ None)
    × (limit ≡ Cells) × (x ≡ world_after w s r) × (t ≡ browser_after w s r)
OpensAfter r w s (Err report.Memory) x t = ⊥

-- the flow of this event, before its first station
abbrev pub begun : Browser → World → Report → ℕ → Flow → Flow
begun s w r event f = record f {
  cursor = course_begun s.dom (span_of (type_of r.kind)) r.node (bubbles w.pool (span_of (type_of r.kind))) f.cursor;
  event = event;
  over = false;
}

-- a reported event is answered and leaves this: its flow under way; or it is not legal, or passes a limit, and ends the
-- session. One that is not legal, and want of memory, leave all as it was
abbrev pub Reported : Report → World → Browser → Result (Unit {0}) ReportRefused → World → Browser → Flow → Type 0
Reported r w s (Ok done) x t f = (item : ℕ) (next : Going) → event_plan s w r item next ≡ left_of f item next x t
Reported r w s (Err (report.Illegal kind)) x t f =
    ((item : ℕ) (next : Going) → event_plan s w r item next ≡ Over (Refused item kind) w s) × (x ≡ w) × (t ≡ s)
Reported r w s (Err (report.Limit limit)) x t f =
    (item : ℕ) (next : Going) → event_plan s w r item next ≡ Over (Stopped item (AtLimit limit)) x t
Reported r w s (Err report.Memory) x t f = (x ≡ w) × (t ≡ s)

-- the flow of `load` at this node begins: what is left is the flow, and then the end of the item; or its cell would pass the
-- limit, which ends the session. What is refused leaves all as it was
abbrev pub BeginsLoad : ℕ → ℕ → World → Browser → Result (Unit {0}) Refusal → World → Browser → Flow → Type 0
BeginsLoad item body w s (Ok done) x t f = flow item (span_of Load) body (λ event. fine) w s ≡ left_of f item fine x t
BeginsLoad item body w s (Err (At limit)) x t f =
    (flow item (span_of Load) body (λ event. fine) w s ≡ Over (Stopped item (AtLimit limit)) x t) × (x ≡ w) × (t ≡ s)
BeginsLoad item body w s (Err Memory) x t f = (x ≡ w) × (t ≡ s)
