-- Sessions of the application of generated work, as code has them.
use Rattle.std.specs.Prelude.{◌≡◌, ℕ, List, []}
use Rattle.rip_eval_rows.specs.declared.close.Close.{Close}
use Rattle.rip_app.specs.App.{Loaded}
use Rattle.rip_history.specs.Services.{RepliesAs, service_of}
use Rattle.rip_store.specs.declared.store.Store.{Store}
use Rattle.rip_client.specs.declared.whole.play.Over.{Over}
use Rattle.rip_gen.specs.Plans.{Plan}
use Rattle.rip_drive.specs.Actors.{IsOpened}
use Rattle.rip_drive.specs.declared.page_actor.PageActor.{PageActor}
use Rattle.rip_gen.specs.Form.{IsForm}
use Rattle.rip_gen.specs.Trace.{IsTraceOf, doing_at}

-- the store of the application, before any call
unfoldable pub GivesForm : Store → Type 0
GivesForm g = (app : Loaded) → IsForm app → RepliesAs g (service_of app.manifest.functions) []

-- the session at a place was opened, and what its opening closed with
pub record OpenedForm (app : Loaded) (place : ℕ) (close : Close) (a : PageActor) (h : Store) : Type 0 where
  pub over : Over
  pub closes : close ≡ over.close
  pub opened : IsOpened a.app (doing_at app place) over a.session.replica h (service_of app.manifest.functions)

-- it opens so, with a store before any call
unfoldable pub OpensForm : ℕ → Store → Close → PageActor → Store → Type 0
OpensForm place g close a h = (app : Loaded) → IsForm app → RepliesAs g (service_of app.manifest.functions) [] → OpenedForm app place close a h

-- the trace of a plan
pub record IsTraceOfForm (plan : Plan) (text : List ℕ) : Type 0 where
  pub is : (app : Loaded) → IsForm app → IsTraceOf app plan text
