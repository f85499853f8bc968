-- How a session opens: the scripts of its page in order, each a run of its own, whose exception ends it alone; and then the
-- flow of `load` at the body of the page. All have one fuel. The charges of the page and of its program stand before: the
-- first that would pass its limit ends the session.
use Rattle.std.specs.Prelude.{ℕ, zero, suc, ◌+◌, ◌-◌, ◌^◌, Option, None, Some}
use Rattle.rip_values.specs.declared.fixed.FixedText.TheVariants.{Load}
use Rattle.rip_heap.specs.Conversions.{span_of}
use Rattle.rip_heap.specs.World.{World}
use Rattle.rip_eval_rows.specs.declared.close.Close.TheVariants.{Stopped}
use Rattle.rip_eval_rows.specs.declared.completion.Stop.TheVariants.{Limit as AtLimit}
use Rattle.rip_eval_rows.specs.declared.step.Opening.TheVariants.{Call}
use Rattle.rip_eval_rows.specs.declared.step.Step.{Step}
use Rattle.rip_eval_rows.specs.declared.step.Step.TheVariants as step
use Rattle.rip_base.specs.declared.value.Value.TheVariants.{Object}
use Rattle.rip_replica.specs.declared.items.page_host.FlowCall.{FlowCall}
use Rattle.rip_eval_rows.specs.Plan.{Plan, Over, Runs}
use Rattle.rip_eval_rows.specs.Started.{ScriptOf}
use Rattle.rip_host.specs.declared.browser.Browser.{Browser}
use Rattle.rip_host.specs.Flow.{flow}
use Rattle.rip_replica.specs.Items.{fine}
use Rattle.rip_browser.specs.declared.flow.Flow.{Flow}
use Rattle.rip_browser.specs.declared.opening.Start.{Start}
use Rattle.rip_browser.specs.declared.opening.Start.TheVariants.{Passes, Loads}
use Rattle.rip_browser.specs.declared.opening.StartStage.{StartStage}
use Rattle.rip_browser.specs.declared.opening.StartStage.TheVariants.{Scripts, Flowing, Ending}
use Rattle.rip_browser.specs.Events.{Going, left_of, most_steps, steps_of}

-- so many scripts from the one of this number on, and then this
abbrev pub scripts : ℕ → ℕ → ℕ → Going → World → Browser → Plan Browser
scripts item zero n next w s = next w s
scripts item (suc k) n next w s = Runs item (ScriptOf n) w s (scripts item k (n + 1) next)

-- the flow of `load` at this node, and then this; where there is none nothing is dispatched
abbrev pub load_at : Option ℕ → ℕ → Going → World → Browser → Plan Browser
load_at None item next w s = next w s
load_at (Some body) item next w s = flow item (span_of Load) body (λ event. next) w s

-- the flow of `load` at the body of the page, also where a script took it out
abbrev pub loading : ℕ → Going → World → Browser → Plan Browser
loading item next w s = load_at s.body item next w s

-- what the one item of the opening does
abbrev pub opening_plan : Start → ℕ → World → Browser → Plan Browser
opening_plan (Passes limit) item w s = Over (Stopped item (AtLimit limit)) w s
opening_plan (Loads count) item w s = scripts item count 1 (loading item fine) w s

-- UNDER WAY

-- what is left where so many scripts were begun
abbrev pub left_of_scripts : Start → ℕ → ℕ → World → Browser → Plan Browser
left_of_scripts (Passes limit) begun item w s = Over (Stopped item (AtLimit limit)) w s
left_of_scripts (Loads count) begun item w s = scripts item (count - begun) (begun + 1) (loading item fine) w s

-- what is left of the opening: scripts and then `load`, or its flow, or nothing
abbrev pub left_of_opening : StartStage → ℕ → Flow → Start → ℕ → World → Browser → Plan Browser
left_of_opening Scripts begun f start item w s = left_of_scripts start begun item w s
left_of_opening Flowing begun f start item w s = left_of f item fine w s
left_of_opening Ending begun f start item w s = fine w s

-- a bound of the steps that are left of it
abbrev pub steps_of_opening : StartStage → ℕ → Flow → ℕ
steps_of_opening Scripts begun f = (2 ^ 32 - begun) + most_steps + 2
steps_of_opening Flowing begun f = steps_of f + 1
steps_of_opening Ending begun f = 0

-- and one for the whole
abbrev pub most_of_opening : ℕ
most_of_opening = 2 ^ 32 + most_steps + 2

-- the call of a listener, as a step
abbrev pub listener_step : ℕ → FlowCall → Step
listener_step item call = step.Run item (Call call.function (Object call.node) (Some (Object call.event)))
