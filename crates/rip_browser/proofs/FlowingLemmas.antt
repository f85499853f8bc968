-- A flow under way goes on as the cursor does.
use Rattle.std.proofs.Common.{◌≡◌, ℕ, ◌+◌, Bool, true, false, if◌then◌else◌, Option, None, Some, [], ◌∷◌, refl, sym, ap, ◌∙◌, true≢false}
use Rattle.rip_base.specs.declared.value.Value.TheVariants.{Object}
use Rattle.rip_heap.specs.World.{World, first_node}
use Rattle.rip_events.specs.declared.station.Place.{Place}
use Rattle.rip_events.specs.Flow.{Course}
use Rattle.rip_eval_rows.specs.Plan.{Plan, Runs}
use Rattle.rip_eval_rows.specs.Started.{CallOf}
use Rattle.rip_host.specs.declared.browser.Browser.{Browser}
use Rattle.rip_host.specs.Flow.{flow_ahead, flow_left}
use Rattle.rip_browser.specs.Events.{Going, settled, settling}

-- what is left, where the flow is over or not
abbrev pub left_with : Bool → ℕ → Course → Option ℕ → ℕ → Going → World → Browser → Plan Browser
left_with over event c turned item next w s = if over then next w s else flow_left item event c (settling turned next event) w s

pub calls-next : (over : Bool) (event : ℕ) (c d : Course) (turned : Option ℕ) (item : ℕ) (next : Going) (w : World) (s r : Browser) (p : Place) → over ≡ false
    → flow_left item event c (settling turned next event) w s ≡ flow_ahead item event d (Some p) (settling turned next event) w r
    → left_with over event c turned item next w s
    ≡ Runs item (CallOf p.function (Object (first_node + p.node)) (Object event ∷ [])) w r (left_with over event d turned item next)
calls-next true event c d turned item next w s r p e h = absurd (true≢false e)
calls-next false event c d turned item next w s r p e h = h

pub ends-settled : (over : Bool) (event : ℕ) (c d : Course) (turned : Option ℕ) (item : ℕ) (next : Going) (w : World) (s r t : Browser) → over ≡ false
    → flow_left item event c (settling turned next event) w s ≡ flow_ahead item event d None (settling turned next event) w r → t ≡ settled turned event r
    → left_with over event c turned item next w s ≡ next w t
ends-settled true event c d turned item next w s r t e h k = absurd (true≢false e)
ends-settled false event c d turned item next w s r t e h k = h ∙ ap (next w) (sym k)
