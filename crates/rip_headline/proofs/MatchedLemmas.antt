-- No call was served in a session as it is opened.
use Rattle.std.proofs.Common.{◌≡◌, ℕ, ◌+◌, ℤ, Bool, true, false, List, Option, None, Some, refl}
use Rattle.std.specs.Prelude.{nat_le, nat_lt}
use Rattle.rip_app.specs.App.{Loaded}
use Rattle.rip_dom.specs.Opening.{count_of_nodes, count_of_units}
use Rattle.rip_heap.specs.World.{World}
use Rattle.rip_machine.specs.Loading.{cost_of_literals}
use Rattle.rip_wire.specs.Batches.{Contents}
use Rattle.rip_history.specs.Parts.{Given}
use Rattle.rip_browser.specs.Visits.{browser_rules}
use Rattle.rip_host.specs.declared.browser.Browser.{Browser}
use Rattle.rip_law_replica.specs.Prefix.{AreCounted, AreNumbered, ServesPrefix, handled, items_of, opened}
use Rattle.rip_session.specs.Serving.{moment_of}
use Rattle.rip_law_served.specs.Served.{IsOverBrowser, call_of}
use Rattle.rip_law_served.proofs.CountLemmas.{sessions_count, sessions_first}
use Rattle.rip_law_served.proofs.ServedLemmas.{sessions_serve}
use Rattle.rip_session.specs.Application.{doing_of}
use Rattle.rip_session.specs.Opening.{by_scope, opened_of, top_scope, with_page, with_scope}

page_new : (app : Loaded) (w : World) (s : Browser) → browser_rules.taken s ≡ 0 → browser_rules.taken (let o = with_page app w s in o.browser) ≡ 0
page_new app w s h = by (nat_le (w.pool.used + cost_of_literals app.program) w.pool.limit) refl
  where
    by : (t : Bool) → nat_le (w.pool.used + cost_of_literals app.program) w.pool.limit ≡ t → browser_rules.taken (let o = with_page app w s in o.browser) ≡ 0
    by true e = rw e h
    by false e = rw e h

scope_new : (app : Loaded) (w : World) (seed : ℕ) (time : ℤ) → browser_rules.taken (let o = with_scope app w seed time in o.browser) ≡ 0
scope_new app w seed time = by (nat_lt app.manifest.limits.nodes (count_of_nodes app.page.nodes)) refl (nat_lt w.pool.limit (w.pool.used + count_of_units app.page.nodes)) refl
  where
    by : (t : Bool) → nat_lt app.manifest.limits.nodes (count_of_nodes app.page.nodes) ≡ t → (u : Bool) → nat_lt w.pool.limit (w.pool.used + count_of_units app.page.nodes) ≡ u
        → browser_rules.taken (let o = with_scope app w seed time in o.browser) ≡ 0
    by true e u f = rw e refl
    by false e true f = rw (e, f) refl
    by false e false f = rw (e, f) (page_new app _ _ refl)

opened_new : (app : Loaded) (o : Option (ℕ × World)) (seed : ℕ) (time : ℤ) → browser_rules.taken (let x = by_scope app o seed time in x.browser) ≡ 0
opened_new app None seed time = refl
opened_new app (Some scope) seed time = scope_new app scope.1 seed time

over_browser : (app : Loaded) (seed time : ℕ) → IsOverBrowser (doing_of app seed time)
over_browser app seed time = record {
  plan = refl;
  fact = refl;
  serve = refl;
  code = app.program;
  machine = (let o = opened_of app seed (moment_of time) in o.machine);
  run = refl;
  none = opened_new app (top_scope app) seed (moment_of time);
}

pub applications_serve : (app : Loaded) (seed time : ℕ) (bs : List Contents) (gs : List Given)
    → ServesPrefix browser_rules (doing_of app seed time) call_of bs gs
    × AreNumbered call_of 1 (handled (doing_of app seed time) (opened (doing_of app seed time) gs) (items_of (doing_of app seed time) bs))
applications_serve app seed time bs gs = (
  sessions_serve (doing_of app seed time) refl refl bs gs,
  sessions_first (doing_of app seed time) (over_browser app seed time) bs gs,
)

pub applications_count : (app : Loaded) (seed time : ℕ) (bs : List Contents) (gs : List Given)
    → AreCounted browser_rules (doing_of app seed time) call_of (opened (doing_of app seed time) gs) 1 (items_of (doing_of app seed time) bs)
applications_count app seed time bs gs = sessions_count (doing_of app seed time) (over_browser app seed time) bs gs
