-- An application that is served.
use Rattle.std.specs.Prelude.{ℕ}
use Rattle.rip_app.specs.App.{Loaded}
use Rattle.rip_log.specs.Histories.{IsHistory}
use Rattle.rip_history.specs.Run.{Site}
use Rattle.rip_history.specs.Services.{service_of}
use Rattle.rip_server.specs.Turning.{Outer, site_of}
use Rattle.rip_serve.specs.Serving.{Serves, entries_put}
use Rattle.rip_serve.specs.declared.serving.Stop.{Stop}
use Rattle.rip_session.specs.Application.{meaning_of_app}

-- what is served of an application: its sessions do what its scripts do, its functions reply, and so many may live as its
-- limits say
abbrev pub site_of_app : Loaded → Site
site_of_app app = site_of (meaning_of_app app) (service_of app.manifest.functions) app.manifest.limits.sessions app.bytes

-- it is served within so many turns, and each entry of which it puts the text, or a prefix, is in range
pub record ServesApp (app : Loaded) (most : ℕ) (how : Stop) (old new : Outer) : Type 0 where
  pub serves : Serves (site_of_app app) most how old new
  pub in_range : IsHistory (entries_put (site_of_app app) most how old new serves)
