-- What an item of a session does.
use Rattle.std.specs.Prelude.{ℕ, ◌+◌, min}
use Rattle.rip_heap.specs.World.{World}
use Rattle.rip_eval_rows.specs.Plan.{Plan}
use Rattle.rip_replica.specs.Items.{item_plan, left_of_item, steps_of_item}
use Rattle.rip_host.specs.declared.browser.Browser.{Browser}
use Rattle.rip_browser.specs.Events.{most_steps, steps_of}
use Rattle.rip_browser.specs.Opening.{left_of_opening, most_of_opening, opening_plan, steps_of_opening}
use Rattle.rip_browser.specs.Visits.{browser_rules}
use Rattle.rip_session.specs.declared.work.items.PageItems.{PageItems}
use Rattle.rip_session.specs.Tasks.{Task, opens, reports, item_of}

-- an item of a number in a batch of a number
abbrev pub work_plan : ℕ → Task → ℕ → World → Browser → Plan Browser
work_plan batch (opens start) n w s = opening_plan start n w s
work_plan batch (reports r) n w s = item_plan browser_rules batch (item_of r) n w s

-- what is left of the item under way
abbrev pub left_of_work : PageItems → Task → ℕ → World → Browser → Plan Browser
left_of_work p (opens start) n w s = left_of_opening p.opening.stage p.opening.begun p.opening.flow start n w s
left_of_work p (reports r) n w s = left_of_item browser_rules p.batches.batch p.batches.flow p.batches.under_way (item_of r) n w s

-- a bound of the steps that are left of it, whichever it is, and one of the steps of any
abbrev pub steps_of_work : PageItems → ℕ
steps_of_work p = steps_of_opening p.opening.stage p.opening.begun p.opening.flow + steps_of_item most_steps (steps_of p.batches.flow) p.batches.under_way

abbrev pub most_of_work : ℕ
most_of_work = most_of_opening + (most_steps + 2)

-- for how many nodes both flows have room, that of the opening and that of the batches
abbrev pub room_of : PageItems → ℕ
room_of p = min p.opening.flow.nodes p.batches.flow.nodes
