-- How items close: a close names its own item, and only a reported call is a mismatch.
use Rattle.std.proofs.Common.{◌≡◌, ℕ, zero, suc, ◌+◌, ◌-◌, min, Bool, true, false, List, [], ◌∷◌, Option, None, Some, length, refl, if◌then◌else◌}
use Rattle.std.specs.Prelude.{⊤}
use Rattle.rip_base.specs.declared.report.BadReport.{BadReport}
use Rattle.rip_base.specs.declared.report.Report.{Report}
use Rattle.rip_base.specs.declared.value.Span.{Span}
use Rattle.rip_heap.specs.World.{World}
use Rattle.rip_events.specs.declared.station.Station.{Station}
use Rattle.rip_events.specs.Flow.{stations}
use Rattle.rip_forms.specs.Reports.{is_past, refusal_of}
use Rattle.rip_calls.specs.Calls.{number_at}
use Rattle.rip_eval_rows.specs.declared.close.Close.{Close}
use Rattle.rip_eval_rows.specs.declared.close.Close.TheVariants.{Fine, Refused, Mismatch, Stopped}
use Rattle.rip_eval_rows.specs.declared.completion.Stop.{Stop}
use Rattle.rip_eval_rows.specs.Evaluation.{Reached, Passes, Breaks, Pauses}
use Rattle.rip_eval_rows.specs.Plan.{Plan, Over, Takes, Awaits, Runs}
use Rattle.rip_eval_rows.specs.Started.{Started}
use Rattle.rip_replica.specs.Play.{Played, Closes, Holds, after_run, play}
use Rattle.rip_replica.specs.declared.items.page_host.Position.{Position}
use Rattle.rip_replica.specs.declared.items.page_host.Position.TheVariants as position
use Rattle.rip_replica.specs.Items.{call_plan, fine, reply_plan}
use Rattle.rip_replica.specs.Rules.{CallsBack, Delivered, NotDue, ReplyStops}
use Rattle.rip_host.specs.declared.browser.Browser.{Browser}
use Rattle.rip_host.specs.EventMembers.{bubbles}
use Rattle.rip_host.specs.Flow.{along, called, calls_at, event_opened, flow, flow_of, is_stopped, over, reached, standing, unless_stopped}
use Rattle.rip_browser.specs.declared.opening.Start.{Start}
use Rattle.rip_browser.specs.declared.opening.Start.TheVariants.{Passes as PassesLimit, Loads}
use Rattle.rip_browser.specs.Calls.{position_of}
use Rattle.rip_browser.specs.Events.{Going, browser_after, event_plan, judged, settled, settling, turned_by, world_after}
use Rattle.rip_browser.specs.Opening.{load_at, loading, opening_plan, scripts}
use Rattle.rip_browser.specs.Replies.{delivered}
use Rattle.rip_wire.specs.Calls.{call_text}
use Rattle.rip_wire.specs.Items.{event, call, reply}
use Rattle.rip_session.specs.Plans.{work_plan}
use Rattle.rip_session.specs.Tasks.{Task, opens, reports}

-- the item reports a call
abbrev pub is_call : Task → Bool
is_call (opens start) = false
is_call (reports (event kind node text place)) = false
is_call (reports (call number name args)) = true
is_call (reports (reply number)) = false

-- a close of the item of this number, which reports a call or does not
abbrev pub IsOf : ℕ → Bool → Close → Type 0
IsOf n calls Fine = ⊤
IsOf n calls (Refused item kind) = item ≡ n
IsOf n calls (Mismatch item) = (item ≡ n) × (calls ≡ true)
IsOf n calls (Stopped item stop) = item ≡ n

-- each close of a plan is such a one, whatever its runs do and the outside changes
abbrev ClosesSo : {S : Type 0} → (Close → Type 0) → Plan S → Type 0
ClosesSo P (Over close w s) = P close
ClosesSo P (Takes w s plan) = ClosesSo P plan
ClosesSo P (Awaits w s go) = (r : _) → ClosesSo P (go r)
ClosesSo P (Runs item start w s go) = ((stop : Stop) → P (Stopped item stop)) × ((x : World) (r : _) → ClosesSo P (go x r))

abbrev pub PlayedSo : {S : Type 0} → (Close → Type 0) → Played S → Type 0
PlayedSo P (Closes close gs fuel u w s) = P close
PlayedSo P (Holds open_depth w s) = ⊤

-- ---- a plan that is played

after-closes : {S : Type 0} (P : Close → Type 0) (item : ℕ) (a : Reached S) (gs : List (S → S)) (fuel u : ℕ) (go : ℕ → ℕ → World → S → Played S)
    → ((stop : Stop) → P (Stopped item stop)) → ((e v : ℕ) (x : World) (r : S) → PlayedSo P (go e v x r)) → PlayedSo P (after_run item a gs fuel u go)
after-closes P item (Passes v w s) gs fuel u go stops goes = goes (fuel - min u fuel + v) (u - min u fuel + v) w s
after-closes P item (Breaks stop v w s) gs fuel u go stops goes = stops stop
after-closes P item (Pauses depth w s) gs fuel u go stops goes = tt

play-closes : {S : Type 0} (P : Close → Type 0) (run : Started → World → S → ℕ → ℕ → Reached S) (full : ℕ) (plan : Plan S) (gs : List (S → S)) (fuel u : ℕ)
    → ClosesSo P plan → PlayedSo P (play run full plan gs fuel u)
play-closes P run full (Over close w s) gs fuel u so = so
play-closes P run full (Takes w s plan) gs fuel zero so = tt
play-closes P run full (Takes w s plan) gs fuel (suc u) so = play-closes P run full plan gs full u so
play-closes P run full (Awaits w s go) [] fuel u so = tt
play-closes P run full (Awaits w s go) (g ∷ gs) fuel u so = play-closes P run full (go (g s)) gs fuel u (so (g s))
play-closes P run full (Runs item start w s go) gs fuel u so =
    after-closes P item (run start w s fuel u) gs fuel u _ so.0 (λ e v x r. play-closes P run full (go x r) gs e v (so.1 x r))

module _ (n : ℕ) (calls : Bool) where
  abbrev So : Plan Browser → Type 0
  So plan = ClosesSo (IsOf n calls) plan

  abbrev Goes : Going → Type 0
  Goes next = (w : World) (s : Browser) → So (next w s)

  -- ---- the flow of an event

  called-so : (object : ℕ) (at : Station) (f : Option ℕ) (go : Going) (w : World) (s : Browser) → Goes go → So (called n object at f go w s)
  called-so object at None go w s so = so w s
  called-so object at (Some f) go w s so = (λ stop. refl, so)

  calls-so : (object : ℕ) (kind : Span) (at : Station) (k m : ℕ) (go : Going) → Goes go → Goes (calls_at n object kind at k m go)
  calls-so object kind at zero m go so w s = so w s
  calls-so object kind at (suc k) m go so w s =
      called-so object at (standing w.pool kind s.listeners at m) (calls_at n object kind at k (suc m) go) w s (calls-so object kind at k (suc m) go so)

  unless-so : (b : Bool) (p q : Plan Browser) → So p → So q → So (unless_stopped b p q)
  unless-so true p q x y = x
  unless-so false p q x y = y

  along-so : (object : ℕ) (kind : Span) (ahead : List Station) (done : Going) → Goes done → Goes (along n object kind ahead done)
  along-so object kind [] done so w s = so w (reached object None s)
  along-so object kind (at ∷ ahead) done so w s =
      unless-so (is_stopped s object) (over object done w s) (calls_at n object kind at (length s.listeners.registered) 0 (along n object kind ahead done) w s)
      (so w (reached object None s))
      (calls-so object kind at (length s.listeners.registered) 0 (along n object kind ahead done) (along-so object kind ahead done so) w s)

  flow-by-so : (kind : Span) (target : ℕ) (done : ℕ → Going) (w : World) (s : Browser) (o : Option (ℕ × World × Browser))
      → ((object : ℕ) → Goes (done object)) → So (flow_of n kind target done w s o)
  flow-by-so kind target done w s None so = refl
  flow-by-so kind target done w s (Some o) so =
      along-so o.0 kind (stations o.2.dom target (bubbles o.1.pool kind)) (done o.0) (so o.0) o.1 o.2

  flow-so : (kind : Span) (target : ℕ) (done : ℕ → Going) → ((object : ℕ) → Goes (done object)) → Goes (flow n kind target done)
  flow-so kind target done so w s = flow-by-so kind target done w s (event_opened w s kind target) so

  -- ---- events and replies

  fine-so : Goes fine
  fine-so w s = tt

  past-so : (b : Bool) (p q : Plan Browser) → So p → So q → So (if b then p else q)
  past-so true p q x y = x
  past-so false p q x y = y

  judged-so : (o : Option BadReport) (s : Browser) (w : World) (r : Report) (next : Going) → Goes next → So (judged o s w r n next)
  judged-so (Some kind) s w r next so = refl
  judged-so None s w r next so =
      past-so (is_past w.pool r) _ _ refl
      (flow-so _ r.node (settling (turned_by w.pool s.dom r) next) (λ object y t. so y (settled (turned_by w.pool s.dom r) object t)) (world_after w s r) (browser_after w s r))

  event-so : (s : Browser) (w : World) (r : Report) → So (event_plan s w r n fine)
  event-so s w r = judged-so (refusal_of w.pool s.dom r) s w r fine fine-so

  reply-so : (d : Delivered Browser) (w : World) (s : Browser) → So (reply_plan n d w s)
  reply-so NotDue w s = refl
  reply-so (ReplyStops stop x r) w s = refl
  reply-so (CallsBack f v x r) w s = (λ stop. refl, fine-so)

  -- ---- the opening

  scripts-so : (k m : ℕ) (next : Going) → Goes next → Goes (scripts n k m next)
  scripts-so zero m next so w s = so w s
  scripts-so (suc k) m next so w s = (λ stop. refl, scripts-so k (m + 1) next so)

  load-so : (o : Option ℕ) (next : Going) → Goes next → Goes (load_at o n next)
  load-so None next so w s = so w s
  load-so (Some body) next so w s = flow-so _ body (λ object. next) (λ object. so) w s

  opening-so : (start : Start) (w : World) (s : Browser) → So (opening_plan start n w s)
  opening-so (PassesLimit limit) w s = refl
  opening-so (Loads count) w s = scripts-so count 1 (loading n fine) (λ y t. load-so t.body fine fine-so y t) w s

-- ---- calls

call-so : (n : ℕ) (p : Position) (w : World) (s : Browser) → ClosesSo (IsOf n true) (call_plan n p w s)
call-so n position.NotNext w s = refl
call-so n position.Other w s = (refl, refl)
call-so n position.TooMany w s = refl
call-so n position.Served w s = λ r. tt

-- ---- all items

works-so : (batch n : ℕ) (a : Task) (w : World) (s : Browser) → ClosesSo (IsOf n (is_call a)) (work_plan batch a n w s)
works-so batch n (opens start) w s = opening-so n false start w s
works-so batch n (reports (event kind node text place)) w s = event-so n false s w (record { kind = kind; node = node; text = text; place = place })
works-so batch n (reports (call number name args)) w s = call-so n (position_of s (number_at number) (call_text name args)) w s
works-so batch n (reports (reply number)) w s = reply-so n false (delivered s w batch number) w s

pub works_close : (run : Started → World → Browser → ℕ → ℕ → Reached Browser) (full batch n : ℕ) (a : Task) (w : World) (s : Browser) (gs : List (Browser → Browser))
    → PlayedSo (IsOf n (is_call a)) (play run full (work_plan batch a n w s) gs full full)
works_close run full batch n a w s gs = play-closes (IsOf n (is_call a)) run full (work_plan batch a n w s) gs full full (works-so batch n a w s)
