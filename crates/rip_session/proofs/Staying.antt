-- The limits of a browser's document and of its calls stay, whatever its session does.
use Rattle.std.proofs.Common.{◌≡◌, ℕ, zero, suc, ◌+◌, ◌-◌, Bool, true, false, List, [], ◌∷◌, length, Option, None, Some, Ok, Err, if◌then◌else◌, refl, ◌∙◌}
use Rattle.rip_base.specs.declared.report.BadReport.{BadReport}
use Rattle.rip_base.specs.declared.report.Report.{Report}
use Rattle.rip_base.specs.declared.value.Limit.TheVariants.{Units}
use Rattle.rip_base.specs.declared.value.Span.{Span}
use Rattle.rip_base.specs.declared.value.Value.{Value}
use Rattle.rip_heap.specs.Conversions.{span_of}
use Rattle.rip_heap.specs.Host.{Request}
use Rattle.rip_heap.specs.Objects.{new_of}
use Rattle.rip_heap.specs.World.{World}
use Rattle.rip_heap.specs.declared.class.Class.TheVariants.{Event as EventClass}
use Rattle.rip_wire.specs.Items.{event, reply}
use Rattle.rip_convert.specs.Values.{Made, made_value}
use Rattle.rip_events.specs.Flow.{Course, stations}
use Rattle.rip_events.specs.declared.station.Station.{Station}
use Rattle.rip_forms.specs.Reports.{is_past, refusal_of}
use Rattle.rip_eval_rows.specs.declared.close.Close.TheVariants.{Stopped}
use Rattle.rip_eval_rows.specs.declared.completion.Stop.TheVariants.{Limit as AtLimit}
use Rattle.rip_eval_rows.specs.Evaluation.{Reached, Passes, Breaks, Pauses}
use Rattle.rip_eval_rows.specs.Plan.{Plan, Over}
use Rattle.rip_replica.specs.SchedulerNumbers.{host_begun, host_reached}
use Rattle.rip_tree.specs.Program.{Code}
use Rattle.rip_machine.specs.Law.{loaded}
use Rattle.rip_machine.specs.Plans.{evaluation}
use Rattle.rip_eval_language.specs.Table.{table}
use Rattle.rip_host.specs.Answers.{answers}
use Rattle.rip_host.specs.EventMembers.{bubbles}
use Rattle.rip_host.specs.Events.{event_of}
use Rattle.rip_host.specs.Flow.{along, called, calls_at, changed_by, flow, flow_left, flow_of, is_prevented, is_stopped, left_here, moved_to, opened_by, over, reached, standing, unless_stopped}
use Rattle.rip_host.specs.Replies.{due}
use Rattle.rip_host.specs.declared.browser.Browser.{Browser}
use Rattle.rip_host.specs.declared.events.Event.{Event}
use Rattle.rip_host.specs.declared.replies.WaitingReply.{WaitingReply}
use Rattle.rip_replica.specs.Items.{call_plan, fine, item_plan, left_of_item, reply_plan}
use Rattle.rip_replica.specs.declared.items.page_host.Position.{Position}
use Rattle.rip_replica.specs.declared.items.page_host.Position.TheVariants as position
use Rattle.rip_replica.specs.declared.items.session.Item.{Item}
use Rattle.rip_replica.specs.declared.items.session.Item.TheVariants as item
use Rattle.rip_replica.specs.declared.items.session.UnderWay.{UnderWay}
use Rattle.rip_replica.specs.declared.items.session.UnderWay.TheVariants as under
use Rattle.rip_browser.specs.Calls.{position_of}
use Rattle.rip_browser.specs.Events.{Going, browser_after, dispatched, judged, left_of, put_back, settled, settling, turned_by, type_of, world_after}
use Rattle.rip_browser.specs.Opening.{left_of_opening, left_of_scripts, load_at, loading, scripts}
use Rattle.rip_browser.specs.Replies.{delivery, handed, taken_out}
use Rattle.rip_browser.specs.Visits.{browser_rules}
use Rattle.rip_browser.specs.declared.flow.Flow.{Flow}
use Rattle.rip_browser.specs.declared.opening.Start.{Start}
use Rattle.rip_browser.specs.declared.opening.Start.TheVariants.{Passes as PassesLimit, Loads}
use Rattle.rip_browser.specs.declared.opening.StartStage.{StartStage}
use Rattle.rip_browser.specs.declared.opening.StartStage.TheVariants as stage
use Rattle.rip_replica.specs.Numbers.{KeepsSteps}
use Rattle.rip_session.specs.declared.work.items.PageItems.{PageItems}
use Rattle.rip_session.specs.Plans.{left_of_work}
use Rattle.rip_session.specs.Tasks.{Task, opens, reports, item_of}
use Rattle.rip_law_browser.proofs.KeepsAnswers.{limits_stay}
use Rattle.rip_law_browser.proofs.KeepsRuns.{HasReached, left_has}

-- what a page shows by its limits
abbrev pub shown : (ℕ → ℕ → ℕ → ℕ) → Browser → ℕ
shown f s = f (let t = s.dom in t.limit) (let c = s.calls in c.limit) (let u = s.undelivered in u.most)

module _ (f : ℕ → ℕ → ℕ → ℕ) where
  -- no plan that begins so changes it before its first step
  abbrev Stays : Going → Type 0
  Stays go = (w : World) (s : Browser) → shown f (host_begun (go w s)) ≡ shown f s

  if_begun : (b : Bool) (p q : Plan Browser) (k : ℕ) → shown f (host_begun p) ≡ k → shown f (host_begun q) ≡ k → shown f (host_begun (if b then p else q)) ≡ k
  if_begun true p q k h g = h
  if_begun false p q k h g = g

  if_shown : (b : Bool) (s t : Browser) (k : ℕ) → shown f s ≡ k → shown f t ≡ k → shown f (if b then s else t) ≡ k
  if_shown true s t k h g = h
  if_shown false s t k h g = g

  -- ---- flows

  changed_stays : (change : Event → Event) (s : Browser) (o : Option Event) → shown f (changed_by change s o) ≡ shown f s
  changed_stays change s None = refl
  changed_stays change s (Some e) = refl

  reached_stays : (object : ℕ) (at : Option Station) (s : Browser) → shown f (reached object at s) ≡ shown f s
  reached_stays object at s = changed_stays (moved_to at) s (event_of (let e = s.events in e.events) object)

  called_stays : (n object : ℕ) (at : Station) (o : Option ℕ) (go : Going) (w : World) (s : Browser) → Stays go → shown f (host_begun (called n object at o go w s)) ≡ shown f s
  called_stays n object at None go w s stays = stays w s
  called_stays n object at (Some function) go w s stays = reached_stays object (Some at) s

  calls_stay : (n object : ℕ) (kind : Span) (at : Station) (m k : ℕ) (go : Going) → Stays go → Stays (calls_at n object kind at m k go)
  calls_stay n object kind at zero k go stays w s = stays w s
  calls_stay n object kind at (suc m) k go stays w s =
      called_stays n object at (standing w.pool kind s.listeners at k) (calls_at n object kind at m (suc k) go) w s (calls_stay n object kind at m (suc k) go stays)

  over_stays : (object : ℕ) (done : Going) → Stays done → Stays (over object done)
  over_stays object done stays w s = stays w (reached object None s) ∙ reached_stays object None s

  unless_begun : (b : Bool) (p q : Plan Browser) (k : ℕ) → shown f (host_begun p) ≡ k → shown f (host_begun q) ≡ k → shown f (host_begun (unless_stopped b p q)) ≡ k
  unless_begun true p q k h g = h
  unless_begun false p q k h g = g

  along_stays : (n object : ℕ) (kind : Span) (ats : List Station) (done : Going) → Stays done → Stays (along n object kind ats done)
  along_stays n object kind [] done stays w s = over_stays object done stays w s
  along_stays n object kind (at ∷ ats) done stays w s =
      unless_begun (is_stopped s object) (over object done w s) (calls_at n object kind at (length (let l = s.listeners in l.registered)) 0 (along n object kind ats done) w s) (shown f s)
      (over_stays object done stays w s)
      (calls_stay n object kind at (length (let l = s.listeners in l.registered)) 0 (along n object kind ats done) (along_stays n object kind ats done stays) w s)

  opened_stays : (n : ℕ) (kind : Span) (target : ℕ) (done : ℕ → Going) (w : World) (s : Browser) (o : Option (ℕ × World)) → ((object : ℕ) → Stays (done object))
      → shown f (host_begun (flow_of n kind target done w s (opened_by s kind target o))) ≡ shown f s
  opened_stays n kind target done w s None stays = refl
  opened_stays n kind target done w s (Some made) stays =
      along_stays n made.0 kind (stations s.dom target (bubbles (let x = made.1 in x.pool) kind)) (done made.0) (stays made.0) made.1 _

  flow_stays : (n : ℕ) (kind : Span) (target : ℕ) (done : ℕ → Going) → ((object : ℕ) → Stays (done object)) → Stays (flow n kind target done)
  flow_stays n kind target done stays w s = opened_stays n kind target done w s (new_of w EventClass) stays

  here_stays : (n object : ℕ) (kind : Span) (next mark : ℕ) (o : Option Station) (go : Going) → Stays go → Stays (left_here n object kind next mark o go)
  here_stays n object kind next mark None go stays w s = stays w s
  here_stays n object kind next mark (Some at) go stays w s = calls_stay n object kind at (mark - next) next go stays w s

  flow_left_stays : (n object : ℕ) (c : Course) (done : Going) → Stays done → Stays (flow_left n object c done)
  flow_left_stays n object c done stays w s =
      here_stays n object c.kind c.next c.mark c.here (along n object c.kind c.ahead done) (along_stays n object c.kind c.ahead done stays) w s

  -- ---- events

  settled_stays : (o : Option ℕ) (object : ℕ) (s : Browser) → shown f (settled o object s) ≡ shown f s
  settled_stays None object s = refl
  settled_stays (Some n) object s = if_shown (is_prevented s object) (put_back n s) s (shown f s) refl refl

  settling_stays : (o : Option ℕ) (next : Going) (object : ℕ) → Stays next → Stays (settling o next object)
  settling_stays o next object stays w s = stays w (settled o object s) ∙ settled_stays o object s

  fine_stays : Stays fine
  fine_stays w s = refl

  judged_stays : (o : Option BadReport) (s : Browser) (w : World) (r : Report) (n : ℕ) (next : Going) → Stays next → shown f (host_begun (judged o s w r n next)) ≡ shown f s
  judged_stays (Some kind) s w r n next stays = refl
  judged_stays None s w r n next stays =
      if_begun (is_past w.pool r) (Over (Stopped n (AtLimit Units)) w s) (dispatched (turned_by w.pool s.dom r) r n next (world_after w s r) (browser_after w s r)) (shown f s) refl
      (flow_stays n (span_of (type_of r.kind)) r.node (settling (turned_by w.pool s.dom r) next) (λ object. settling_stays (turned_by w.pool s.dom r) next object stays)
      (world_after w s r) (browser_after w s r))

  left_stays : (flowing : Flow) (n : ℕ) (next : Going) → Stays next → Stays (left_of flowing n next)
  left_stays flowing n next stays w s =
      if_begun flowing.over (next w s) (flow_left n flowing.event flowing.cursor (settling flowing.turned next flowing.event) w s) (shown f s) (stays w s)
      (flow_left_stays n flowing.event flowing.cursor (settling flowing.turned next flowing.event) (settling_stays flowing.turned next flowing.event stays) w s)

  -- ---- calls and replies

  call_stays : (n : ℕ) (p : Position) (w : World) (s : Browser) → shown f (host_begun (call_plan n p w s)) ≡ shown f s
  call_stays n position.NotNext w s = refl
  call_stays n position.Other w s = refl
  call_stays n position.TooMany w s = refl
  call_stays n position.Served w s = refl

  handed_stays : (n callback : ℕ) (m : Made Value) (w : World) (s r : Browser) → shown f (host_begun (reply_plan n (handed callback m r) w s)) ≡ shown f r
  handed_stays n callback (Ok v, x) w s r = refl
  handed_stays n callback (Err limit, x) w s r = refl

  due_stays : (n : ℕ) (o : Option WaitingReply) (s : Browser) (w : World) (batch number : ℕ) → shown f (host_begun (reply_plan n (delivery o s w batch number) w s)) ≡ shown f s
  due_stays n None s w batch number = refl
  due_stays n (Some r) s w batch number = handed_stays n r.callback (made_value r.reply w) w s (taken_out number batch r s)

  item_stays : (batch : ℕ) (i : Item) (n : ℕ) (w : World) (s : Browser) → shown f (host_begun (item_plan browser_rules batch i n w s)) ≡ shown f s
  item_stays batch (item.Event report) n w s = judged_stays (refusal_of w.pool s.dom report) s w report n fine fine_stays
  item_stays batch (item.Call number text) n w s = call_stays n (position_of s number text) w s
  item_stays batch (item.Reply number) n w s = due_stays n (due number batch s.undelivered.replies) s w batch number

  left_item_stays : (batch : ℕ) (flowing : Flow) (u : UnderWay) (i : Item) (n : ℕ) (w : World) (s : Browser) → shown f (host_begun (left_of_item browser_rules batch flowing u i n w s)) ≡ shown f s
  left_item_stays batch flowing under.Fresh i n w s = item_stays batch i n w s
  left_item_stays batch flowing under.Flowing i n w s = left_stays flowing n fine fine_stays w s
  left_item_stays batch flowing under.Ending i n w s = refl

  -- ---- the opening

  scripts_stay : (n m k : ℕ) (next : Going) → Stays next → Stays (scripts n m k next)
  scripts_stay n zero k next stays w s = stays w s
  scripts_stay n (suc m) k next stays w s = refl

  load_stays : (n : ℕ) (o : Option ℕ) (next : Going) → Stays next → Stays (load_at o n next)
  load_stays n None next stays w s = stays w s
  load_stays n (Some body) next stays w s = flow_stays n _ body (λ object. next) (λ object. stays) w s

  loading_stays : (n : ℕ) → Stays (loading n fine)
  loading_stays n w s = load_stays n s.body fine fine_stays w s

  left_scripts_stay : (start : Start) (begun n : ℕ) (w : World) (s : Browser) → shown f (host_begun (left_of_scripts start begun n w s)) ≡ shown f s
  left_scripts_stay (PassesLimit limit) begun n w s = refl
  left_scripts_stay (Loads count) begun n w s = scripts_stay n (count - begun) (begun + 1) (loading n fine) (loading_stays n) w s

  left_opening_stays : (st : StartStage) (begun : ℕ) (flowing : Flow) (start : Start) (n : ℕ) (w : World) (s : Browser)
      → shown f (host_begun (left_of_opening st begun flowing start n w s)) ≡ shown f s
  left_opening_stays stage.Scripts begun flowing start n w s = left_scripts_stay start begun n w s
  left_opening_stays stage.Flowing begun flowing start n w s = left_stays flowing n fine fine_stays w s
  left_opening_stays stage.Ending begun flowing start n w s = refl

  -- ---- all items, and runs

  work_stays : (p : PageItems) (a : Task) (n : ℕ) (w : World) (s : Browser) → shown f (host_begun (left_of_work p a n w s)) ≡ shown f s
  work_stays p (opens start) n w s = left_opening_stays (let o = p.opening in o.stage) (let o = p.opening in o.begun) (let o = p.opening in o.flow) start n w s
  work_stays p (reports r) n w s = left_item_stays (let b = p.batches in b.batch) (let b = p.batches in b.flow) (let b = p.batches in b.under_way) (item_of r) n w s

  answers_stay : (s : Browser) (w : World) (r : Request) → shown f (let a = answers s w r in a.2) ≡ shown f s
  answers_stay s w r = let stay = limits_stay s w r in λ i. f (stay.0 i) (stay.1 i) (stay.2 i)

  reached_shown : (r : Reached Browser) (k : ℕ) → HasReached (λ (s : Browser). shown f s ≡ k) r → shown f (host_reached r) ≡ k
  reached_shown (Passes u w s) k h = h
  reached_shown (Breaks stop u w s) k h = h
  reached_shown (Pauses depth w s) k h = h

  pub steps_stay : (code : Code) → KeepsSteps (evaluation answers code) left_of_work (shown f)
  steps_stay code = record {
    runs = λ m w s k. reached_shown (let e = evaluation answers code in e.left m w s k) (shown f s)
        (left_has (λ (t : Browser). shown f t ≡ shown f s) answers (λ t x r p. answers_stay t x r ∙ p) (table (loaded code m)) m.depth m.control m.frames w s m.fuel k refl);
    steps = work_stays;
  }
