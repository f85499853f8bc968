-- Enough turns for the knocks of a door.
use Rattle.std.specs.Prelude.{◌≡◌, ◌≢◌, ℕ, ◌+◌, ◌*◌, ◌≤◌, List, length, Option, Some}
use Rattle.rip_outer.specs.declared.connections.TraceKnock.{TraceKnock}
use Rattle.rip_app.specs.App.{Loaded}
use Rattle.rip_history.specs.Connections.{Act}
use Rattle.rip_history.specs.Parts.{IsLawful}
use Rattle.rip_history.specs.Run.{Site, first_state, Coming}
use Rattle.rip_history.specs.Runs.{IsRun}
use Rattle.rip_law_server.specs.Asked.{AskNoMore}
use Rattle.rip_law_server.specs.Ending.{BatchesCost, turns_enough}
use Rattle.rip_server.specs.Turning.{Outer}
use Rattle.rip_serve.specs.Serving.{AreKnocks}
use Rattle.rip_serve.specs.declared.serving.Stop.{Stop}
use Rattle.rip_serve.specs.declared.serving.Stop.TheVariants.{TurnsSpent}
use Rattle.rip_session.specs.Application.{meaning_of_app}
use Rattle.rip_serve.specs.Sites.{ServesApp}

-- so many turns are enough for these knocks and the requests that they ask, which are no more than the bytes that come in
-- them, where a batch costs at most so many units
abbrev pub AreEnough : ℕ → List TraceKnock → ℕ → Type 0
AreEnough cost knocks most =
    (requests : ℕ) × AskNoMore knocks requests × (turns_enough cost (length knocks) requests ≤ most)

-- a whole run whose knocks are these, and whose turns are enough for them, has status 0
abbrev pub RunsEndInTime : Type 0
RunsEndInTime =
    (site : Site) (cost most status : ℕ) (ts : List Coming) (acts : List Act) (knocks : List TraceKnock) (left : Option (List TraceKnock))
    → IsLawful site.meaning → BatchesCost site.meaning cost
    → AreKnocks site 1 first_state ts (Some knocks) left → AreEnough cost knocks most
    → IsRun site (Some most) ts status acts → status ≡ 0

-- ---- applications

-- what a batch may cost, where an item may take so much fuel: a unit of no item, and for each of 64 items one and its fuel
abbrev pub batch_cost : ℕ → ℕ
batch_cost fuel = 1 + 64 * (1 + fuel)

-- the batches of each application cost no more
abbrev pub ApplicationsCost : Type 0
ApplicationsCost = (app : Loaded) → BatchesCost (meaning_of_app app) (batch_cost app.manifest.limits.fuel)

-- where an application is served to these knocks, and the turns are enough, serving does not stop because they are spent
abbrev pub ApplicationsEndInTime : Type 0
ApplicationsEndInTime =
    (app : Loaded) (most : ℕ) (how : Stop) (old new : Outer) (knocks : List TraceKnock)
    → old.seen.telling.left ≡ Some knocks → AreEnough (batch_cost app.manifest.limits.fuel) knocks most
    → ServesApp app most how old new → how ≢ TurnsSpent
