-- The limits of the page of a session, wherever it stands.
use Rattle.rip_app.specs.App.{Loaded}
use Rattle.rip_history.specs.Stages.{Stage}
use Rattle.rip_host.specs.declared.browser.Browser.{Browser}
use Rattle.rip_machine.specs.Law.{Standing}
use Rattle.rip_replica.specs.declared.replica.Replica.{Replica}
use Rattle.rip_session.specs.Application.{IsPageWithin, StandsAt, runs_of}
use Rattle.rip_session.specs.Limits.{HasPageLimits}
use Rattle.rip_session.specs.declared.work.items.PageItems.{PageItems}
use Rattle.rip_session.specs.Tasks.{Task}

-- a replica of a session of an application
abbrev pub PageReplica : Type 0
PageReplica = Replica Standing PageItems Task Browser

-- wherever a session stands at a stage, also where it has ended, its page has the manifest's limits of nodes, of the bytes that
-- wait and of the replies that may be undelivered
abbrev pub PagesHaveLimits : Type 0
PagesHaveLimits = (app : Loaded) (r : PageReplica) (st : Stage) → StandsAt app r st → HasPageLimits app.manifest.limits r.host

-- at whatever stage this session stands, also where it has ended, its page and its runs have the limits of the manifest and pass
-- none
abbrev pub PassesNone : PageReplica → Type 0
PassesNone r = (app : Loaded) (st : Stage) → StandsAt app r st → IsPageWithin app.manifest.limits (runs_of app) r
