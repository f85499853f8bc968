-- What a reported event does: it is judged, it has its effect on the form, and its flow takes place (DOM Level 2 Events
-- 1.2; HTML 4.10.5.1.15: a click at a checkbox turns it over before the flow, and a canceled one leaves it as it was).
use Rattle.std.specs.Prelude.{ℕ, ◌+◌, ◌*◌, ◌^◌, Bool, true, false, ◌&&◌, if◌then◌else◌, Option, None, Some}
use Rattle.rip_values.specs.declared.fixed.FixedText.{FixedText}
use Rattle.rip_values.specs.declared.fixed.FixedText.TheVariants as text
use Rattle.rip_base.specs.declared.report.BadReport.{BadReport}
use Rattle.rip_base.specs.declared.report.EventKind.{EventKind}
use Rattle.rip_base.specs.declared.report.EventKind.TheVariants.{Click, Focus, Blur, Submit, Change, Input}
use Rattle.rip_base.specs.declared.report.Report.{Report}
use Rattle.rip_base.specs.declared.value.Limit.TheVariants.{Units}
use Rattle.rip_values.specs.Pool.{Texts}
use Rattle.rip_heap.specs.Conversions.{span_of}
use Rattle.rip_heap.specs.Lending.{with_pool}
use Rattle.rip_heap.specs.World.{World}
use Rattle.rip_dom.specs.Tree.{Tree}
use Rattle.rip_forms.specs.declared.state.FormState.TheVariants.{Checked}
use Rattle.rip_forms.specs.Controls.{is_checkbox, part_of}
use Rattle.rip_forms.specs.Reports.{effect_of, is_past, refusal_of}
use Rattle.rip_forms.specs.Reports.{World as FormWorld}
use Rattle.rip_forms.specs.States.{States, states_with}
use Rattle.rip_eval_rows.specs.declared.close.Close.TheVariants.{Refused, Stopped}
use Rattle.rip_eval_rows.specs.declared.completion.Stop.TheVariants.{Limit as AtLimit}
use Rattle.rip_eval_rows.specs.Plan.{Plan, Over}
use Rattle.rip_host.specs.declared.browser.Browser.{Browser}
use Rattle.rip_host.specs.Flow.{flow, flow_left, flow_steps, is_prevented}
use Rattle.rip_browser.specs.declared.flow.Flow.{Flow}

-- what is done next, in a world and a browser
abbrev pub Going : Type 0
Going = World → Browser → Plan Browser

-- the type that an event of this kind has (DOM Level 2 Events 1.6; `input` is that of HTML)
abbrev pub type_of : EventKind → FixedText
type_of Click = text.Click
type_of Focus = text.Focus
type_of Blur = text.Blur
type_of Submit = text.Submit
type_of Change = text.Change
type_of Input = text.Input

-- THE EFFECT ON THE FORM

abbrev pub with_forms : Browser → States → Browser
with_forms s forms = record s { forms = forms }

-- texts and states of controls after the effect of a report
abbrev pub effect : World → Browser → Report → FormWorld
effect w s r = effect_of s.dom (record { pool = w.pool; states = s.forms }) r

-- the world after it
abbrev pub world_after : World → Browser → Report → World
world_after w s r = with_pool w (effect w s r).pool

-- and the browser
abbrev pub browser_after : World → Browser → Report → Browser
browser_after w s r = with_forms s (effect w s r).states

abbrev pub is_click : EventKind → Bool
is_click Click = true
is_click Focus = false
is_click Blur = false
is_click Submit = false
is_click Change = false
is_click Input = false

-- the checkbox that the event turns over: a click at one does
abbrev pub turned_by : Texts → Tree → Report → Option ℕ
turned_by pool t r = if is_click r.kind && is_checkbox (part_of pool t r.node) then Some r.node else None

-- the browser with this checkbox as it was before the click that turned it over
abbrev pub put_back : ℕ → Browser → Browser
put_back n s = with_forms s (states_with s.forms n (Checked s.forms.before_click))

-- a flow is over: where `preventDefault` was called, a checkbox that the event turned over is put back
abbrev pub settled : Option ℕ → ℕ → Browser → Browser
settled None event s = s
settled (Some n) event s = if is_prevented s event then put_back n s else s

-- what is done after a flow: the checkbox is settled, and then this
abbrev pub settling : Option ℕ → Going → ℕ → Going
settling turned next event w s = next w (settled turned event s)

-- THE EVENT

-- the flow of a report's event, and then this
abbrev pub dispatched : Option ℕ → Report → ℕ → Going → World → Browser → Plan Browser
dispatched turned r item next w s = flow item (span_of (type_of r.kind)) r.node (settling turned next) w s

-- a report is refused, or is legal: then the text that it brings is charged, it has its effect, and its flow takes place
abbrev pub judged : Option BadReport → Browser → World → Report → ℕ → Going → Plan Browser
judged (Some kind) s w r item next = Over (Refused item kind) w s
judged None s w r item next =
    if is_past w.pool r then Over (Stopped item (AtLimit Units)) w s
    else dispatched (turned_by w.pool s.dom r) r item next (world_after w s r) (browser_after w s r)

-- what a reported event does as an item of a number, and then this
abbrev pub event_plan : Browser → World → Report → ℕ → Going → Plan Browser
event_plan s w r item next = judged (refusal_of w.pool s.dom r) s w r item next

-- A FLOW UNDER WAY

-- what is left of a flow, and then this
abbrev pub left_of : Flow → ℕ → Going → World → Browser → Plan Browser
left_of f item next w s = if f.over then next w s else flow_left item f.event f.cursor (settling f.turned next f.event) w s

-- a bound of the calls that are left of it
abbrev pub steps_of : Flow → ℕ
steps_of f = if f.over then 0 else flow_steps f.cursor + 1

-- a bound for each flow when it begins: it has fewer than 2^33 stations, and each takes fewer listeners than 2^64
abbrev pub most_steps : ℕ
most_steps = 2 ^ 64 * 2 ^ 33 + 1
