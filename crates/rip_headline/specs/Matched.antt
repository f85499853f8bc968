-- Which calls the sessions of an application serve, from any seed and moment on.
use Rattle.std.specs.Prelude.{ℕ, List}
use Rattle.rip_app.specs.App.{Loaded}
use Rattle.rip_wire.specs.Batches.{Contents}
use Rattle.rip_history.specs.Parts.{Given}
use Rattle.rip_browser.specs.Visits.{browser_rules}
use Rattle.rip_law_replica.specs.Prefix.{AreNumbered, ServesPrefix, handled, items_of, opened}
use Rattle.rip_law_served.specs.Served.{call_of}
use Rattle.rip_session.specs.Application.{doing_of}

-- the served calls are all that are reported before the session ends, each the call of its number of those that the script
-- made, and where it ends at a call more that one may not be served; and their numbers are 1, 2, 3 and so on: they are the
-- longest prefix
abbrev pub ApplicationsServePrefixes : Type 0
ApplicationsServePrefixes = (app : Loaded) (seed time : ℕ) (bs : List Contents) (gs : List Given) →
    ServesPrefix browser_rules (doing_of app seed time) call_of bs gs
    × AreNumbered call_of 1 (handled (doing_of app seed time) (opened (doing_of app seed time) gs) (items_of (doing_of app seed time) bs))
