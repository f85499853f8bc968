-- No item that reports no call changes the limits of a page.
use Rattle.std.proofs.Common.{◌≡◌, ℕ, zero, suc, ◌+◌, Bool, true, false, List, [], ◌∷◌, length, Option, Some, None, Ok, Err, if◌then◌else◌}
use Rattle.rip_base.specs.declared.report.BadReport.{BadReport}
use Rattle.rip_base.specs.declared.report.Report.{Report}
use Rattle.rip_base.specs.declared.value.Limit.TheVariants.{Units}
use Rattle.rip_base.specs.declared.value.Span.{Span}
use Rattle.rip_base.specs.declared.value.Value.{Value}
use Rattle.rip_limits.specs.declared.limits.Limits.{Limits}
use Rattle.rip_heap.specs.Conversions.{span_of}
use Rattle.rip_heap.specs.Objects.{new_of}
use Rattle.rip_heap.specs.World.{World}
use Rattle.rip_heap.specs.declared.class.Class.TheVariants.{Event as EventClass}
use Rattle.rip_eval_rows.specs.declared.close.Close.TheVariants.{Stopped}
use Rattle.rip_eval_rows.specs.declared.completion.Stop.TheVariants.{Limit as AtLimit}
use Rattle.rip_eval_rows.specs.Plan.{Plan, Over}
use Rattle.rip_convert.specs.Values.{Made, made_value}
use Rattle.rip_events.specs.Flow.{stations}
use Rattle.rip_events.specs.declared.station.Station.{Station}
use Rattle.rip_forms.specs.Reports.{is_past, refusal_of}
use Rattle.rip_host.specs.declared.browser.Browser.{Browser}
use Rattle.rip_host.specs.declared.events.Event.{Event}
use Rattle.rip_host.specs.declared.replies.WaitingReply.{WaitingReply}
use Rattle.rip_host.specs.EventMembers.{bubbles}
use Rattle.rip_host.specs.Events.{event_of}
use Rattle.rip_host.specs.Flow.{along, called, calls_at, changed_by, flow, flow_of, is_prevented, is_stopped, moved_to, opened_by, over, reached, standing, unless_stopped}
use Rattle.rip_host.specs.Replies.{due}
use Rattle.rip_replica.specs.Items.{fine, reply_plan}
use Rattle.rip_browser.specs.declared.opening.Start.{Start}
use Rattle.rip_browser.specs.declared.opening.Start.TheVariants.{Passes as PassesLimit, Loads}
use Rattle.rip_browser.specs.Events.{Going, browser_after, dispatched, event_plan, judged, put_back, settled, settling, turned_by, type_of, world_after}
use Rattle.rip_browser.specs.Opening.{load_at, loading, opening_plan, scripts}
use Rattle.rip_browser.specs.Replies.{delivered, delivery, handed, taken_out}
use Rattle.rip_law_served.proofs.KeepsPlans.{HasPlan}

-- the page has these limits of nodes, of bytes that wait and of replies that may be undelivered
abbrev pub Bounded : Limits → Browser → Type 0
Bounded limits s = (s.dom.limit ≡ limits.nodes) × (s.calls.limit ≡ limits.queue) × (s.undelivered.most ≡ limits.replies)

module _ (l : Limits) where
  abbrev Next : Going → Type 0
  Next next = (x : World) (r : Browser) → Bounded l r → HasPlan (Bounded l) (next x r)

  if_page : (b : Bool) (s t : Browser) → Bounded l s → Bounded l t → Bounded l (if b then s else t)
  if_page true s t h g = h
  if_page false s t h g = g

  if_plan : (b : Bool) (x y : Plan Browser) → HasPlan (Bounded l) x → HasPlan (Bounded l) y → HasPlan (Bounded l) (if b then x else y)
  if_plan true x y h g = h
  if_plan false x y h g = g

  fine_has : Next fine
  fine_has x r h = h

  -- ---- flows

  changed_keeps : (f : Event → Event) (s : Browser) (o : Option Event) → Bounded l s → Bounded l (changed_by f s o)
  changed_keeps f s None h = h
  changed_keeps f s (Some e) h = h

  reached_keeps : (object : ℕ) (at : Option Station) (s : Browser) → Bounded l s → Bounded l (reached object at s)
  reached_keeps object at s h = changed_keeps (moved_to at) s (event_of (let e = s.events in e.events) object) h

  called_has : (item event : ℕ) (at : Station) (o : Option ℕ) (go : Going) (w : World) (s : Browser) → Next go → Bounded l s → HasPlan (Bounded l) (called item event at o go w s)
  called_has item event at None go w s next h = next w s h
  called_has item event at (Some f) go w s next h = (reached_keeps event (Some at) s h, next)

  calls_has : (item event : ℕ) (kind : Span) (at : Station) (m n : ℕ) (go : Going) → Next go → Next (calls_at item event kind at m n go)
  calls_has item event kind at zero n go next w s h = next w s h
  calls_has item event kind at (suc m) n go next w s h =
      called_has item event at (standing w.pool kind s.listeners at n) (calls_at item event kind at m (suc n) go) w s (calls_has item event kind at m (suc n) go next) h

  unless_has : (b : Bool) (x y : Plan Browser) → HasPlan (Bounded l) x → HasPlan (Bounded l) y → HasPlan (Bounded l) (unless_stopped b x y)
  unless_has true x y h g = h
  unless_has false x y h g = g

  along_has : (item event : ℕ) (kind : Span) (ats : List Station) (done : Going) → Next done → Next (along item event kind ats done)
  along_has item event kind [] done next w s h = next w (reached event None s) (reached_keeps event None s h)
  along_has item event kind (at ∷ ats) done next w s h =
      unless_has (is_stopped s event) (over event done w s) (calls_at item event kind at (length (let n = s.listeners in n.registered)) 0 (along item event kind ats done) w s)
      (next w (reached event None s) (reached_keeps event None s h))
      (calls_has item event kind at (length (let n = s.listeners in n.registered)) 0 (along item event kind ats done) (along_has item event kind ats done next) w s h)

  opened_has : (item : ℕ) (kind : Span) (target : ℕ) (done : ℕ → Going) (w : World) (s : Browser) (o : Option (ℕ × World)) → ((event : ℕ) → Next (done event)) → Bounded l s
      → HasPlan (Bounded l) (flow_of item kind target done w s (opened_by s kind target o))
  opened_has item kind target done w s None next h = h
  opened_has item kind target done w s (Some made) next h =
      along_has item made.0 kind (stations s.dom target (bubbles (let x = made.1 in x.pool) kind)) (done made.0) (next made.0) made.1 _ h

  flow_has : (item : ℕ) (kind : Span) (target : ℕ) (done : ℕ → Going) → ((event : ℕ) → Next (done event)) → Next (flow item kind target done)
  flow_has item kind target done next w s h = opened_has item kind target done w s (new_of w EventClass) next h

  -- ---- events

  settled_keeps : (o : Option ℕ) (event : ℕ) (s : Browser) → Bounded l s → Bounded l (settled o event s)
  settled_keeps None event s h = h
  settled_keeps (Some n) event s h = if_page (is_prevented s event) (put_back n s) s h h

  judged_has : (o : Option BadReport) (s : Browser) (w : World) (r : Report) (item : ℕ) → Bounded l s → HasPlan (Bounded l) (judged o s w r item fine)
  judged_has (Some kind) s w r item h = h
  judged_has None s w r item h =
      let turned = turned_by w.pool s.dom r in
      if_plan (is_past w.pool r) (Over (Stopped item (AtLimit Units)) w s) (dispatched turned r item fine (world_after w s r) (browser_after w s r)) h
      (flow_has item (span_of (type_of r.kind)) r.node (settling turned fine) (λ event x t p. settled_keeps turned event t p) (world_after w s r) (browser_after w s r) h)

  pub event_has : (s : Browser) (w : World) (r : Report) (item : ℕ) → Bounded l s → HasPlan (Bounded l) (event_plan s w r item fine)
  event_has s w r item h = judged_has (refusal_of w.pool s.dom r) s w r item h

  -- ---- replies

  handed_has : (item callback : ℕ) (m : Made Value) (w : World) (s r : Browser) → Bounded l r → HasPlan (Bounded l) (reply_plan item (handed callback m r) w s)
  handed_has item callback (Ok v, x) w s r h = (h, fine_has)
  handed_has item callback (Err limit, x) w s r h = h

  due_has : (item : ℕ) (o : Option WaitingReply) (s : Browser) (w : World) (batch number : ℕ) → Bounded l s → HasPlan (Bounded l) (reply_plan item (delivery o s w batch number) w s)
  due_has item None s w batch number h = h
  due_has item (Some r) s w batch number h = handed_has item r.callback (made_value r.reply w) w s (taken_out number batch r s) h

  pub reply_has : (s : Browser) (w : World) (item batch number : ℕ) → Bounded l s → HasPlan (Bounded l) (reply_plan item (delivered s w batch number) w s)
  reply_has s w item batch number h = due_has item (due number batch s.undelivered.replies) s w batch number h

  -- ---- the opening

  scripts_has : (item m n : ℕ) (next : Going) → Next next → Next (scripts item m n next)
  scripts_has item zero n next has w s h = has w s h
  scripts_has item (suc m) n next has w s h = (h, scripts_has item m (n + 1) next has)

  load_has : (item : ℕ) (o : Option ℕ) (next : Going) → Next next → Next (load_at o item next)
  load_has item None next has w s h = has w s h
  load_has item (Some body) next has w s h = flow_has item _ body (λ event. next) (λ event. has) w s h

  loading_has : (item : ℕ) → Next (loading item fine)
  loading_has item w s h = load_has item s.body fine fine_has w s h

  pub opening_has : (start : Start) (item : ℕ) (w : World) (s : Browser) → Bounded l s → HasPlan (Bounded l) (opening_plan start item w s)
  opening_has (PassesLimit limit) item w s h = h
  opening_has (Loads count) item w s h = scripts_has item count 1 (loading item fine) (loading_has item) w s h
