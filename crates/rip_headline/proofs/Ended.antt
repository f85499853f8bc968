-- The page of a session has the limits of the manifest, also where the session has ended.
use Rattle.std.proofs.Common.{◌≡◌, ℕ, ◌≤◌, ◌-◌, Bool, true, false, List, [], ◌++◌, length, Option, Some, None, refl, sym, subst, arith}
use Rattle.rip_app.specs.App.{Loaded}
use Rattle.rip_heap.specs.World.{World}
use Rattle.rip_wire.specs.Batches.{Contents}
use Rattle.rip_history.specs.Parts.{Given, Lacking}
use Rattle.rip_history.specs.Stages.{Stage, is_ended}
use Rattle.rip_host.specs.declared.browser.Browser.{Browser}
use Rattle.rip_replica.specs.Going.{depth_in}
use Rattle.rip_replica.specs.declared.replica.Place.{Place}
use Rattle.rip_replica.specs.declared.replica.Place.TheVariants.{Idle}
use Rattle.rip_replica.specs.Cuts.{EndedBy, StandsEnded}
use Rattle.rip_replica.specs.Numbers.{open_at, open_of}
use Rattle.rip_replica.specs.Parts.{stand_at}
use Rattle.rip_replica.specs.Sessions.{HasEnded}
use Rattle.rip_replica.specs.Standing.{spot}
use Rattle.rip_law_replica.proofs.Done.{ended_has}
use Rattle.rip_session.specs.declared.work.items.PageItems.{PageItems}
use Rattle.rip_session.specs.Plans.{left_of_work, work_plan}
use Rattle.rip_session.specs.Serving.{may_serve}
use Rattle.rip_session.specs.Application.{IsPageWithin, StandsAt, doing_of, meaning_of_app, runs_of}
use Rattle.rip_session.specs.Limits.{HasPageLimits}
use Rattle.rip_session.proofs.LimitLemmas.{page-within}
use Rattle.rip_session.proofs.SessionLemmas.{PassesNoneOfItsOwn}
use Rattle.rip_law_served.proofs.KeepsPlans.{HasPlayed}
use Rattle.rip_headline.specs.Bounded.{PageReplica, PagesHaveLimits}
use Rattle.rip_headline.proofs.Items.{IsBounded, behind_has, item_has}

-- what an item that ended a session left
closed_has : (app : Loaded) (seed time : ℕ) (batches : List Contents) (given : List Given) (w : World) (s : Browser) → EndedBy (doing_of app seed time) batches given w s → IsBounded app s
closed_has app seed time batches given w s e =
    let c = e.closed in
    let before = behind_has app seed time batches (given ++ []) (e.number - 1) (stand_at e.base [] c.world c.page) (c.began []) in
    subst (HasPlayed (IsBounded app)) (c.closes [])
    (item_has app seed time (length batches) e.number c.item c.world c.page [] (let d = doing_of app seed time in d.full) tt before)

left_has : (app : Loaded) (seed time : ℕ) (batches : List Contents) (given : List Given) (lack : Option Lacking) (w : World) (s : Browser)
    → StandsEnded (doing_of app seed time) batches given lack w s → IsBounded app s
left_has app seed time batches given None w s stands = closed_has app seed time batches given w s stands
left_has app seed time batches given (Some lack) w s (cost, behind) =
    behind_has app seed time batches (given ++ []) (lack.item - 1) (stand_at cost [] w s) (behind [])

ended : (app : Loaded) (r : PageReplica) (st : Stage) → StandsAt app r st → is_ended (meaning_of_app app) st ≡ true
    → HasEnded (meaning_of_app app) (doing_of app st.seed st.time) (spot (λ (items : PageItems). work_plan items.batches.batch) left_of_work r) st
ended app r st at is = ended_has (runs_of app) (doing_of app) may_serve (spot (λ (items : PageItems). work_plan items.batches.batch) left_of_work r) st at.stage.stands is

ended_limits : (app : Loaded) (r : PageReplica) (st : Stage) → StandsAt app r st → is_ended (meaning_of_app app) st ≡ true → HasPageLimits app.manifest.limits r.host
ended_limits app r st at is =
    let has = ended app r st at is in
    let bounded = left_has app st.seed st.time st.batches st.given st.lacking r.heap r.host has.stands in
    record { nodes = bounded.0; queue = bounded.1; replies = bounded.2 }

pub pages_have_limits : PagesHaveLimits
pages_have_limits app r st at = by (is_ended (meaning_of_app app) st) refl
  where
    by : (b : Bool) → is_ended (meaning_of_app app) st ≡ b → HasPageLimits app.manifest.limits r.host
    by true is = ended_limits app r st at is
    by false is = (let page = at.page is in page.has)

idle_depth : (app : Loaded) (r : PageReplica) → r.place ≡ Idle → open_of (runs_of app) r ≤ app.manifest.limits.depth
idle_depth app r is =
    let depth = (let n = r.runner in depth_in (runs_of app) n.evaluator n.phase) in
    let none : open_at Idle depth ≤ app.manifest.limits.depth = omega arith in
    subst (λ (p : Place). open_at p depth ≤ app.manifest.limits.depth) (sym is) none

-- a page that passes no limit of its own passes none of the manifest
pub passes_none : (app : Loaded) (r : PageReplica) (st : Stage) → StandsAt app r st → PassesNoneOfItsOwn r.host → IsPageWithin app.manifest.limits (runs_of app) r
passes_none app r st at own = by (is_ended (meaning_of_app app) st) refl
  where
    by : (b : Bool) → is_ended (meaning_of_app app) st ≡ b → IsPageWithin app.manifest.limits (runs_of app) r
    by true is =
        page-within app.manifest.limits (runs_of app) r (ended_limits app r st at is) own.nodes own.waiting own.replies
        (idle_depth app r (let has = ended app r st at is in has.place))
    by false is = at.page is
