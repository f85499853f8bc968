-- The opening goes on by its flow, or is refused.
use Rattle.std.proofs.Common.{◌≡◌, ℕ, Option, None, Some, Result, Ok, Err, refl, sym, ap, ◌∙◌, subst}
use Rattle.rip_base.specs.declared.value.Limit.{Limit}
use Rattle.rip_base.specs.declared.value.Refused.{Refused as Refusal}
use Rattle.rip_base.specs.declared.value.Refused.TheVariants.{Limit as At, Memory}
use Rattle.rip_heap.specs.World.{World}
use Rattle.rip_eval_rows.specs.declared.close.Close.TheVariants.{Stopped}
use Rattle.rip_eval_rows.specs.declared.completion.Stop.TheVariants.{Limit as AtLimit}
use Rattle.rip_eval_rows.specs.declared.step.Step.{Step}
use Rattle.rip_eval_rows.specs.Plan.{Over, ahead}
use Rattle.rip_host.specs.declared.browser.Browser.{Browser}
use Rattle.rip_replica.specs.declared.items.page_host.FlowCall.{FlowCall}
use Rattle.rip_replica.specs.Items.{fine}
use Rattle.rip_replica.specs.Rules.{flow_ahead}
use Rattle.rip_browser.specs.declared.flow.Flow.{Flow}
use Rattle.rip_browser.specs.declared.opening.Start.{Start}
use Rattle.rip_browser.specs.declared.opening.StartStage.{StartStage}
use Rattle.rip_browser.specs.declared.opening.StartStage.TheVariants.{Flowing}
use Rattle.rip_browser.specs.Events.{left_of}
use Rattle.rip_browser.specs.Opening.{left_of_opening, listener_step, load_at}
use Rattle.rip_browser.specs.Steps.{BeginsLoad}

pub calls-listener : (stage : StartStage) (begun : ℕ) (f : Flow) (start : Start) (item : ℕ) (call : FlowCall) (step : Step) (w : World) (s : Browser) → stage ≡ Flowing → step ≡ listener_step item call
    → flow_ahead item (left_of f item fine) fine (Some call) w s ≡ ahead (left_of_opening stage begun f start item) step w s
calls-listener stage begun f start item call step w s e k = rw (e, k) refl

pub load-refused : (result : Result (Unit {0}) Refusal) (refused : Refusal) (limit : Limit) (b : Option ℕ) (item body : ℕ) (w x : World) (s t : Browser) (f : Flow) → result ≡ Err refused → refused ≡ At limit → b ≡ Some body
    → BeginsLoad item body w s result x t f → load_at b item fine w s ≡ Over (Stopped item (AtLimit limit)) x t
load-refused result refused limit b item body w x s t f e k m h =
    let P : Result (Unit {0}) Refusal → Type 0 = λ r. BeginsLoad item body w s r x t f in
    let g : P (Err (At limit)) = subst P (e ∙ ap Err k) h in
    ap (λ o. load_at o item fine w s) m ∙ g.0

pub load-unmade : (result : Result (Unit {0}) Refusal) (refused : Refusal) (item body : ℕ) (w x : World) (s t : Browser) (f : Flow) → result ≡ Err refused → refused ≡ Memory
    → BeginsLoad item body w s result x t f → (x ≡ w) × (t ≡ s)
load-unmade result refused item body w x s t f e k h =
    let P : Result (Unit {0}) Refusal → Type 0 = λ r. BeginsLoad item body w s r x t f in
    let g : P (Err Memory) = subst P (e ∙ ap Err k) h in
    (g.0, g.1)
