-- A session of an application, as a client plays it.
use Rattle.std.specs.Prelude.{◌≡◌, ℕ, List, [], ◌∷◌, length}
use Rattle.rip_app.specs.App.{Loaded}
use Rattle.rip_host.specs.declared.browser.Browser.{Browser}
use Rattle.rip_machine.specs.Law.{Standing}
use Rattle.rip_history.specs.Parts.{passes}
use Rattle.rip_history.specs.Services.{Called, RepliesAs, Service}
use Rattle.rip_replica.specs.Parts.{Doing}
use Rattle.rip_replica.specs.declared.replica.Replica.{Replica}
use Rattle.rip_session.specs.Application.{runs_of}
use Rattle.rip_store.specs.declared.store.Store.{Store}
use Rattle.rip_wire.specs.Items.{Reported}
use Rattle.rip_session.specs.Plans.{work_plan}
use Rattle.rip_session.specs.Serving.{served}
use Rattle.rip_session.specs.Tasks.{Task, fact_of, reports}
use Rattle.rip_session.specs.declared.work.items.PageItems.{PageItems}
use Rattle.rip_client.specs.Wholes.{IsDoing}
use Rattle.rip_client.specs.declared.whole.play.Over.{Over as Outcome}
use Rattle.rip_client.specs.Truth.{Playing}
use Rattle.rip_client.specs.declared.actor.Over.{Over}
use Rattle.rip_law_replica.specs.Truthful.{IsAny, IsPlayed, Seat}
use Rattle.rip_law_served.specs.Honest.{next_in}
use Rattle.rip_drive.specs.Driving.{Opens, replies_at_once}
use Rattle.rip_drive.specs.declared.page_actor.PageActor.{PageActor}

abbrev pub Replicas : Type 0
Replicas = Replica Standing PageItems Task Browser

-- ---- what is done in it

-- this is done by a replica of the application
unfoldable pub Does : Loaded → Doing Task Browser → Replicas → Type 0
Does app d r = IsDoing d ((runs_of app).run r.runner.evaluator) r.runner.full work_plan fact_of served

-- this is done in it, and all items of its batch were played
pub record Sits (app : Loaded) (d : Doing Task Browser) (r : Replicas) : Type 0 where
  pub does : Does app d r
  pub plans : work_plan r.runner.planner.items.batches.batch ≡ work_plan r.number
  pub begun : r.runner.planner.begun ≡ length r.runner.planner.batch.items

-- where it stands
abbrev pub seat_of : Replicas → Seat Browser
seat_of r = record { world = r.heap; page = r.host; batch = r.number; count = r.runner.planner.begun }

-- ---- how it is opened

-- a replica before the one item of its opening, in which this is done
pub record IsBegun (app : Loaded) (d : Doing Task Browser) (r : Replicas) : Type 0 where
  pub does : Does app d r
  pub plans : work_plan r.runner.planner.items.batches.batch ≡ work_plan r.number
  pub number : r.number ≡ 0
  pub batch : r.runner.planner.batch.items ≡ d.opening ∷ []
  pub opening : fact_of d.opening ≡ passes
  pub begun : r.runner.planner.begun ≡ 0
  pub world : r.heap ≡ d.world
  pub page : r.host ≡ d.page

-- its opening was played
pub record IsOpened (app : Loaded) (d : Doing Task Browser) (over : Outcome) (r : Replicas) (g : Store) (service : Service) : Type 0 where
  pub opens : Opens d over r.heap r.host
  pub sits : Sits app d r
  pub number : r.number ≡ 0
  pub begun : r.runner.planner.begun ≡ 1
  pub replies : RepliesAs g service []

-- the session of a page is opened so, whatever is done in it and whatever service replies
abbrev pub OpensPage : PageActor → Store → Outcome → PageActor → Store → Type 0
OpensPage a g over b h =
    (d : Doing Task Browser) (service : Service) → IsBegun a.app d a.session.replica → RepliesAs g service []
    → IsOpened b.app d over b.session.replica h service

-- ---- how it is played

-- it turned to a batch, which has no item yet
abbrev pub TurnsSo : ℕ → PageActor → PageActor → Type 0
TurnsSo n a b =
    (d : Doing Task Browser) → Sits a.app d a.session.replica
    → Sits b.app d b.session.replica × (seat_of b.session.replica ≡ record (seat_of a.session.replica) { batch = n; count = 0 })

-- it played an item, whatever is done in it and whatever service replies
abbrev pub PlaysSo : Reported → PageActor → Store → Over → PageActor → Store → Type 0
PlaysSo item a g over b h =
    (d : Doing Task Browser) (service : Service) (calls : List Called) → Sits a.app d a.session.replica → RepliesAs g service calls
    → (behind : List Called) × IsPlayed d reports (replies_at_once service) IsAny item (seat_of a.session.replica) calls over (seat_of b.session.replica) behind
    × Sits b.app d b.session.replica × RepliesAs h service behind

-- how it goes
unfoldable pub page_session : Playing PageActor Store
page_session = record {
  turns = TurnsSo;
  plays = PlaysSo;
  next = λ a. next_in a.session.replica.host;
}
