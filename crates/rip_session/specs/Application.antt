-- What the sessions of an application do.
use Rattle.std.specs.Prelude.{◌≡◌, ℕ, false}
use Rattle.rip_limits.specs.declared.limits.Limits.{Limits}
use Rattle.rip_app.specs.App.{Loaded}
use Rattle.rip_history.specs.Parts.{Meaning}
use Rattle.rip_history.specs.Stages.{Stage, is_ended}
use Rattle.rip_eval_rows.specs.Evaluation.{Evaluation}
use Rattle.rip_machine.specs.Law.{Standing}
use Rattle.rip_machine.specs.Plans.{evaluation}
use Rattle.rip_replica.specs.declared.replica.Replica.{Replica}
use Rattle.rip_replica.specs.Numbers.{open_of}
use Rattle.rip_replica.specs.Parts.{Doing, meaning_of}
use Rattle.rip_host.specs.Answers.{answers}
use Rattle.rip_host.specs.declared.browser.Browser.{Browser}
use Rattle.rip_law_replica.specs.AtStage.{IsAtStage}
use Rattle.rip_session.specs.declared.work.items.PageItems.{PageItems}
use Rattle.rip_session.specs.Endings.{ending_of}
use Rattle.rip_session.specs.Plans.{left_of_work, work_plan}
use Rattle.rip_session.specs.Serving.{may_serve, moment_of, served}
use Rattle.rip_session.specs.Tasks.{Task, opens, fact_of, tasks_of}
use Rattle.rip_session.specs.Limits.{HasLimits, HasPageLimits, PassesNoLimit, PassesNoPageLimit}
use Rattle.rip_session.specs.Opening.{opened_of}
use Rattle.rip_session.specs.Rooms.{HasRoomsIn}

-- what runs of its program mean over a browser
abbrev pub runs_of : Loaded → Evaluation Standing Browser
runs_of app = evaluation answers app.program

-- what is done in a session from this seed and at this moment
abbrev pub doing_of : Loaded → ℕ → ℕ → Doing Task Browser
doing_of app seed time = record {
  run = (runs_of app).run (opened_of app seed (moment_of time)).machine;
  full = app.manifest.limits.fuel;
  world = (opened_of app seed (moment_of time)).heap;
  page = (opened_of app seed (moment_of time)).browser;
  opening = opens (opened_of app seed (moment_of time)).start;
  items = tasks_of;
  plan = work_plan;
  fact = fact_of;
  serve = served;
  ending = ending_of;
}

-- what its sessions do
abbrev pub meaning_of_app : Loaded → Meaning
meaning_of_app app = meaning_of (doing_of app)

-- the page of a session, and the runs that are open in it, have these limits and pass none of them
pub record IsPageWithin (limits : Limits) (e : Evaluation Standing Browser) (r : Replica Standing PageItems Task Browser) : Type 0 where
  pub has : HasPageLimits limits r.host
  pub within : PassesNoPageLimit limits (open_of e r) r.host

-- a session of it stands at a stage; its heap has the limits of the manifest, and passes none of them; nor do its page and its
-- runs, while it lives, and then it has its rooms
pub record StandsAt (app : Loaded) (r : Replica Standing PageItems Task Browser) (st : Stage) : Type 0 where
  pub stage : IsAtStage (runs_of app) (doing_of app) (λ items. work_plan items.batches.batch) left_of_work may_serve r st
  pub limits : HasLimits app.manifest.limits r.heap
  pub within : PassesNoLimit app.manifest.limits r.heap
  pub page : is_ended (meaning_of_app app) st ≡ false → IsPageWithin app.manifest.limits (runs_of app) r
  pub rooms : is_ended (meaning_of_app app) st ≡ false → HasRoomsIn (runs_of app) r
