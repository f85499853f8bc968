-- The trace of a plan, in sessions of an application.
use Rattle.std.specs.Prelude.{◌≡◌, ℕ, ◌+◌, ◌*◌, List, []}
use Rattle.rip_eval_rows.specs.declared.close.Close.{Close}
use Rattle.rip_app.specs.App.{Loaded}
use Rattle.rip_history.specs.Services.{Called, service_of}
use Rattle.rip_host.specs.declared.browser.Browser.{Browser}
use Rattle.rip_replica.specs.Parts.{Doing}
use Rattle.rip_session.specs.Tasks.{Task, reports}
use Rattle.rip_client.specs.declared.whole.play.Over.{Over}
use Rattle.rip_session.specs.Application.{doing_of}
use Rattle.rip_law_replica.specs.Truthful.{Seat}
use Rattle.rip_law_served.specs.Honest.{next_in}
use Rattle.rip_gen.specs.Plans.{Plan}
use Rattle.rip_drive.specs.Driving.{Opens, driven}
use Rattle.rip_gen.specs.Work.{AreLinesOf, Sessions}

-- what is done in the session at a place, where the first is at 0: its seed is 3, that of the next is 6, and so on
abbrev pub doing_at : Loaded → ℕ → Doing Task Browser
doing_at app place = doing_of app (3 * (place + 1)) 0

-- the session at a place opens, closes so and stands there
pub record OpensAt (app : Loaded) (place : ℕ) (close : Close) (seat : Seat Browser) : Type 0 where
  pub over : Over
  pub closes : close ≡ over.close
  pub opens : Opens (doing_at app place) over seat.world seat.page
  pub batch : seat.batch ≡ 0
  pub count : seat.count ≡ 1

-- the sessions of an application: each goes as one that is driven, and what gives replies to all is told by what its
-- functions were called for, of which an opening adds none
abbrev pub sessions_of : Loaded → Sessions (Seat Browser) (List Called)
sessions_of app = record {
  goes = λ place. driven (doing_at app place) reports next_in (service_of app.manifest.functions);
  opens = λ place calls close seat behind. OpensAt app place close seat × (behind ≡ calls);
  gives = λ calls. calls ≡ [];
}

-- the trace of a plan: its lines, in sessions of the application
abbrev pub IsTraceOf : Loaded → Plan → List ℕ → Type 0
IsTraceOf app plan text = AreLinesOf (sessions_of app) plan text
