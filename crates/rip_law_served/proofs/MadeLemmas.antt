-- Each call that a script made has the text of a call in range, whatever items are played.
use Rattle.std.proofs.Common.{ℕ, zero, suc, Bool, true, false, List, [], ◌∷◌, Option, None, Some, drop}
use Rattle.std.specs.Prelude.{option_map, slice_get, nat_le, nat_lt, if◌then◌else◌, ◌+◌}
use Rattle.std.specs.List.{AllByRecursion}
use Rattle.rip_app.specs.App.{Loaded}
use Rattle.rip_heap.specs.World.{World}
use Rattle.rip_calls.specs.Calls.{Calls, MadeCall, front_text}
use Rattle.rip_eval_rows.specs.Evaluation.{Reached}
use Rattle.rip_eval_rows.specs.Started.{Started}
use Rattle.rip_replica.specs.Play.{play}
use Rattle.rip_replica.specs.Items.{call_plan}
use Rattle.rip_replica.specs.declared.items.page_host.Position.{Position}
use Rattle.rip_replica.specs.declared.items.page_host.Position.TheVariants as position
use Rattle.rip_tree.specs.Program.{Code}
use Rattle.rip_machine.specs.Law.{Standing, loaded}
use Rattle.rip_machine.specs.Loading.{cost_of_literals}
use Rattle.rip_machine.specs.Plans.{evaluation}
use Rattle.rip_machine.specs.Starting.{begun_by}
use Rattle.rip_eval_language.specs.Table.{table}
use Rattle.rip_dom.specs.Opening.{count_of_nodes, count_of_units}
use Rattle.rip_host.specs.Answers.{answers}
use Rattle.rip_host.specs.declared.browser.Browser.{Browser}
use Rattle.rip_host.specs.declared.replies.WaitingReply.{WaitingReply}
use Rattle.rip_browser.specs.Calls.{position_of}
use Rattle.rip_wire.specs.Calls.{IsCallText, call_text}
use Rattle.rip_wire.specs.Items.{event, call, reply}
use Rattle.rip_calls.specs.Calls.{number_at}
use Rattle.rip_log.specs.Parts.{IsNoneOrCallText}
use Rattle.rip_history.specs.Parts.{Given}
use Rattle.rip_session.specs.Plans.{work_plan}
use Rattle.rip_session.specs.Serving.{served}
use Rattle.rip_session.specs.Tasks.{Task, opens, reports}
use Rattle.rip_law_browser.specs.Laws.{AreMadeInRange}
use Rattle.rip_law_browser.proofs.KeepsCalls.{calls_stay_in_range}
use Rattle.rip_law_browser.proofs.KeepsRuns.{HasReached, begun_has}
use Rattle.rip_law_served.proofs.KeepsPlans.{Shows, HasPlayed, event_has, opening_has, play_has, reply_has}
use Rattle.rip_session.specs.Opening.{by_scope, opened_of, top_scope, with_page}
use Rattle.rip_session.specs.declared.opening.Opened.{Opened}

abbrev Made : Calls → List WaitingReply → Type 0
Made calls waiting = AreMadeInRange calls

-- each call that the script of a browser made is in range
abbrev pub HasMade : Browser → Type 0
HasMade = Shows Made

-- ---- the call that is next

dropped : (k : ℕ) (ms : List MadeCall) → AllByRecursion (λ (m : MadeCall). IsCallText m.text) ms → AllByRecursion (λ (m : MadeCall). IsCallText m.text) (drop k ms)
dropped zero ms all = all
dropped (suc k) [] all = tt
dropped (suc k) (m ∷ ms) all = dropped k ms all.1

pub front_in : (c : Calls) → AreMadeInRange c → IsNoneOrCallText (front_text c)
front_in c all = by (drop c.taken c.made) (dropped c.taken c.made all)
  where
    by : (ms : List MadeCall) → AllByRecursion (λ (m : MadeCall). IsCallText m.text) ms → IsNoneOrCallText (option_map (λ (m : MadeCall). m.text) (slice_get ms 0))
    by [] all = tt
    by (m ∷ ms) all = all.0

-- ---- runs and items

pub runs_keep : (code : Code) (m : Standing) (start : Started) (w : World) (s : Browser) (fuel u : ℕ) → HasMade s → HasReached HasMade (let e = evaluation answers code in e.run m start w s fuel u)
runs_keep code m start w s fuel u h =
    begun_has HasMade answers calls_stay_in_range (table (loaded code m)) m.depth (begun_by (loaded code m) m.depth start w) w s fuel u h

module _ (run : Started → World → Browser → ℕ → ℕ → Reached Browser) (keeps : (start : Started) (w : World) (s : Browser) (fuel u : ℕ) → HasMade s → HasReached HasMade (run start w s fuel u)) (full batch n : ℕ) where
  call_keeps : (p : Position) (g : Given) (w : World) (s : Browser) → HasMade s → HasPlayed HasMade (play run full (call_plan n p w s) (served batch g ∷ []) full full)
  call_keeps position.NotNext g w s h = h
  call_keeps position.Other g w s h = h
  call_keeps position.TooMany g w s h = h
  call_keeps position.Served g w s h = h

  pub works_keep : (a : Task) (g : Given) (w : World) (s : Browser) → HasMade s → HasPlayed HasMade (play run full (work_plan batch a n w s) (served batch g ∷ []) full full)
  works_keep (opens start) g w s h = play_has HasMade run keeps full (work_plan batch (opens start) n w s) (served batch g ∷ []) full full (opening_has Made n start w s h)
  works_keep (reports (event kind node text place)) g w s h =
      play_has HasMade run keeps full (work_plan batch (reports (event kind node text place)) n w s) (served batch g ∷ []) full full
      (event_has Made s w (record { kind = kind; node = node; text = text; place = place }) n h)
  works_keep (reports (call number name args)) g w s h = call_keeps (position_of s (number_at number) (call_text name args)) g w s h
  works_keep (reports (reply number)) g w s h =
      play_has HasMade run keeps full (work_plan batch (reports (reply number)) n w s) (served batch g ∷ []) full full (reply_has Made n s w batch number h h)

-- ---- the opening: no call was made

abbrev Begins : Opened → Type 0
Begins o = HasMade o.browser

if_begins : (b : Bool) (x y : Opened) → Begins x → Begins y → Begins (if b then x else y)
if_begins true x y h g = h
if_begins false x y h g = g

page_begins : (app : Loaded) (w : World) (s : Browser) → HasMade s → Begins (with_page app w s)
page_begins app w s h = if_begins (nat_le ((let p = w.pool in p.used) + cost_of_literals app.program) (let p = w.pool in p.limit)) _ _ h h

scope_begins : (app : Loaded) (o : Option (ℕ × World)) (seed : ℕ) (time : _) → Begins (by_scope app o seed time)
scope_begins app None seed time = tt
scope_begins app (Some scope) seed time =
    let w = scope.1 in
    let limits = app.manifest.limits in
    if_begins (nat_lt limits.nodes (count_of_nodes app.page.nodes)) _ _ tt
    (if_begins (nat_lt (let p = w.pool in p.limit) ((let p = w.pool in p.used) + count_of_units app.page.nodes)) _ _ tt (page_begins app _ _ tt))

pub session_begins : (app : Loaded) (seed : ℕ) (time : _) → Begins (opened_of app seed time)
session_begins app seed time = scope_begins app (top_scope app) seed time
