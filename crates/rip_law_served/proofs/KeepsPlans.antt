-- What each run keeps, a plan keeps; and what a page shows by its calls and the replies that wait, the items keep that report
-- no call.
use Rattle.std.proofs.Common.{ℕ, zero, suc, ◌+◌, ◌-◌, min, Bool, true, false, List, [], ◌∷◌, length, Option, Some, None, Ok, Err, if◌then◌else◌}
use Rattle.rip_base.specs.declared.report.BadReport.{BadReport}
use Rattle.rip_base.specs.declared.report.Report.{Report}
use Rattle.rip_base.specs.declared.value.Limit.TheVariants.{Units}
use Rattle.rip_base.specs.declared.value.Span.{Span}
use Rattle.rip_base.specs.declared.value.Value.{Value}
use Rattle.rip_heap.specs.Conversions.{span_of}
use Rattle.rip_heap.specs.Objects.{new_of}
use Rattle.rip_heap.specs.World.{World}
use Rattle.rip_heap.specs.declared.class.Class.TheVariants.{Event as EventClass}
use Rattle.rip_eval_rows.specs.declared.close.Close.TheVariants.{Stopped}
use Rattle.rip_eval_rows.specs.declared.completion.Stop.TheVariants.{Limit as AtLimit}
use Rattle.rip_eval_rows.specs.Evaluation.{Reached, Passes, Breaks, Pauses}
use Rattle.rip_eval_rows.specs.Plan.{Plan, Over, Takes, Awaits, Runs}
use Rattle.rip_eval_rows.specs.Started.{Started}
use Rattle.rip_replica.specs.Play.{Played, Closes, Holds, after_run, play}
use Rattle.rip_convert.specs.Values.{Made, made_value}
use Rattle.rip_events.specs.Flow.{stations}
use Rattle.rip_events.specs.declared.station.Station.{Station}
use Rattle.rip_forms.specs.Reports.{is_past, refusal_of}
use Rattle.rip_calls.specs.Calls.{Calls}
use Rattle.rip_host.specs.declared.browser.Browser.{Browser}
use Rattle.rip_host.specs.declared.events.Event.{Event}
use Rattle.rip_host.specs.declared.replies.WaitingReply.{WaitingReply}
use Rattle.rip_host.specs.EventMembers.{bubbles}
use Rattle.rip_host.specs.Events.{event_of}
use Rattle.rip_host.specs.Flow.{along, called, calls_at, changed_by, flow, flow_of, is_prevented, is_stopped, moved_to, opened_by, over, reached, standing, unless_stopped}
use Rattle.rip_host.specs.Replies.{due, without_due}
use Rattle.rip_replica.specs.Items.{fine, reply_plan}
use Rattle.rip_browser.specs.declared.opening.Start.{Start}
use Rattle.rip_browser.specs.declared.opening.Start.TheVariants.{Passes as PassesLimit, Loads}
use Rattle.rip_browser.specs.Events.{Going, browser_after, dispatched, event_plan, judged, settled, settling, turned_by, type_of, world_after, put_back}
use Rattle.rip_browser.specs.Opening.{load_at, loading, opening_plan, scripts}
use Rattle.rip_browser.specs.Replies.{delivered, delivery, handed, taken_out}
use Rattle.rip_law_browser.proofs.KeepsRuns.{HasReached}

-- ---- plans

abbrev pub HasPlan : {S : Type 0} → (S → Type 0) → Plan S → Type 0
HasPlan P (Over close w s) = P s
HasPlan P (Takes w s plan) = ⊥
HasPlan P (Awaits w s go) = ⊥
HasPlan P (Runs item start w s go) = P s × ((x : World) (r : _) → P r → HasPlan P (go x r))

abbrev pub HasPlayed : {S : Type 0} → (S → Type 0) → Played S → Type 0
HasPlayed P (Closes close gs fuel u w s) = P s
HasPlayed P (Holds open_depth w s) = P s

after_has : {S : Type 0} (P : S → Type 0) (item : ℕ) (a : Reached S) (gs : List (S → S)) (fuel u : ℕ) (go : ℕ → ℕ → World → S → Played S) → HasReached P a
    → ((e v : ℕ) (x : World) (r : S) → P r → HasPlayed P (go e v x r)) → HasPlayed P (after_run item a gs fuel u go)
after_has P item (Passes v w s) gs fuel u go h g = g (fuel - min u fuel + v) (u - min u fuel + v) w s h
after_has P item (Breaks stop v w s) gs fuel u go h g = h
after_has P item (Pauses depth w s) gs fuel u go h g = h

pub play_has : {S : Type 0} (P : S → Type 0) (run : Started → World → S → ℕ → ℕ → Reached S) → ((start : Started) (w : World) (s : S) (fuel u : ℕ) → P s → HasReached P (run start w s fuel u))
    → (full : ℕ) (plan : Plan S) (gs : List (S → S)) (fuel u : ℕ) → HasPlan P plan → HasPlayed P (play run full plan gs fuel u)
play_has P run keeps full (Over close w s) gs fuel u h = h
play_has P run keeps full (Takes w s plan) gs fuel u h = absurd h
play_has P run keeps full (Awaits w s go) gs fuel u h = absurd h
play_has P run keeps full (Runs item start w s go) gs fuel u h =
    after_has P item (run start w s fuel u) gs fuel u _ (keeps start w s fuel u h.0) (λ e v x r p. play_has P run keeps full (go x r) gs e v (h.1 x r p))

-- ---- pages that show something of their calls

-- a page shows this by its calls and the replies that wait
abbrev pub Shown : Type 1
Shown = Calls → List WaitingReply → Type 0

abbrev pub Shows : Shown → Browser → Type 0
Shows Q s = Q s.calls s.undelivered.replies

abbrev Next : Shown → Going → Type 0
Next Q next = (x : World) (r : Browser) → Shows Q r → HasPlan (Shows Q) (next x r)

changed_keeps : (Q : Shown) (f : Event → Event) (s : Browser) (o : Option Event) → Shows Q s → Shows Q (changed_by f s o)
changed_keeps Q f s None h = h
changed_keeps Q f s (Some e) h = h

reached_keeps : (Q : Shown) (object : ℕ) (at : Option Station) (s : Browser) → Shows Q s → Shows Q (reached object at s)
reached_keeps Q object at s h = changed_keeps Q (moved_to at) s (event_of (let e = s.events in e.events) object) h

called_has : (Q : Shown) (item event : ℕ) (at : Station) (o : Option ℕ) (go : Going) (w : World) (s : Browser) → Next Q go → Shows Q s → HasPlan (Shows Q) (called item event at o go w s)
called_has Q item event at None go w s next h = next w s h
called_has Q item event at (Some f) go w s next h = (reached_keeps Q event (Some at) s h, next)

calls_has : (Q : Shown) (item event : ℕ) (kind : Span) (at : Station) (m n : ℕ) (go : Going) → Next Q go → Next Q (calls_at item event kind at m n go)
calls_has Q item event kind at zero n go next w s h = next w s h
calls_has Q item event kind at (suc m) n go next w s h =
    called_has Q item event at (standing w.pool kind s.listeners at n) (calls_at item event kind at m (suc n) go) w s (calls_has Q item event kind at m (suc n) go next) h

unless_has : (Q : Shown) (b : Bool) (x y : Plan Browser) → HasPlan (Shows Q) x → HasPlan (Shows Q) y → HasPlan (Shows Q) (unless_stopped b x y)
unless_has Q true x y h g = h
unless_has Q false x y h g = g

along_has : (Q : Shown) (item event : ℕ) (kind : Span) (ats : List Station) (done : Going) → Next Q done → Next Q (along item event kind ats done)
along_has Q item event kind [] done next w s h = next w (reached event None s) (reached_keeps Q event None s h)
along_has Q item event kind (at ∷ ats) done next w s h =
    unless_has Q (is_stopped s event) (over event done w s) (calls_at item event kind at (length (let l = s.listeners in l.registered)) 0 (along item event kind ats done) w s)
    (next w (reached event None s) (reached_keeps Q event None s h))
    (calls_has Q item event kind at (length (let l = s.listeners in l.registered)) 0 (along item event kind ats done) (along_has Q item event kind ats done next) w s h)

opened_has : (Q : Shown) (item : ℕ) (kind : Span) (target : ℕ) (done : ℕ → Going) (w : World) (s : Browser) (o : Option (ℕ × World)) → ((event : ℕ) → Next Q (done event)) → Shows Q s
    → HasPlan (Shows Q) (flow_of item kind target done w s (opened_by s kind target o))
opened_has Q item kind target done w s None next h = h
opened_has Q item kind target done w s (Some made) next h =
    along_has Q item made.0 kind (stations s.dom target (bubbles (let x = made.1 in x.pool) kind)) (done made.0) (next made.0) made.1 _ h

flow_has : (Q : Shown) (item : ℕ) (kind : Span) (target : ℕ) (done : ℕ → Going) (w : World) (s : Browser) → ((event : ℕ) → Next Q (done event)) → Shows Q s → HasPlan (Shows Q) (flow item kind target done w s)
flow_has Q item kind target done w s next h = opened_has Q item kind target done w s (new_of w EventClass) next h

-- ---- events

if_counts : (Q : Shown) (b : Bool) (s t : Browser) → Shows Q s → Shows Q t → Shows Q (if b then s else t)
if_counts Q true s t h g = h
if_counts Q false s t h g = g

settled_keeps : (Q : Shown) (o : Option ℕ) (event : ℕ) (s : Browser) → Shows Q s → Shows Q (settled o event s)
settled_keeps Q None event s h = h
settled_keeps Q (Some n) event s h = if_counts Q (is_prevented s event) (put_back n s) s h h

if_plan : (Q : Shown) (b : Bool) (x y : Plan Browser) → HasPlan (Shows Q) x → HasPlan (Shows Q) y → HasPlan (Shows Q) (if b then x else y)
if_plan Q true x y h g = h
if_plan Q false x y h g = g

fine_has : (Q : Shown) → Next Q fine
fine_has Q x r h = h

judged_has : (Q : Shown) (o : Option BadReport) (s : Browser) (w : World) (r : Report) (item : ℕ) (next : Going) → Next Q next → Shows Q s → HasPlan (Shows Q) (judged o s w r item next)
judged_has Q (Some kind) s w r item next has h = h
judged_has Q None s w r item next has h =
    if_plan Q (is_past w.pool r) (Over (Stopped item (AtLimit Units)) w s) (dispatched (turned_by w.pool s.dom r) r item next (world_after w s r) (browser_after w s r)) h
    (flow_has Q item (span_of (type_of r.kind)) r.node (settling (turned_by w.pool s.dom r) next) (world_after w s r) (browser_after w s r)
    (λ event x t p. has x (settled (turned_by w.pool s.dom r) event t) (settled_keeps Q (turned_by w.pool s.dom r) event t p)) h)

pub event_has : (Q : Shown) (s : Browser) (w : World) (r : Report) (item : ℕ) → Shows Q s → HasPlan (Shows Q) (event_plan s w r item fine)
event_has Q s w r item h = judged_has Q (refusal_of w.pool s.dom r) s w r item fine (fine_has Q) h

-- ---- replies

pub handed_has : (Q : Shown) (item callback : ℕ) (m : Made Value) (w : World) (s r : Browser) → Shows Q r → HasPlan (Shows Q) (reply_plan item (handed callback m r) w s)
handed_has Q item callback (Ok v, x) w s r h = (h, fine_has Q)
handed_has Q item callback (Err limit, x) w s r h = h

-- where one is delivered, the page shows it without that too
pub due_has : (Q : Shown) (item : ℕ) (o : Option WaitingReply) (s : Browser) (w : World) (batch number : ℕ) → Shows Q s → Q s.calls (without_due number batch s.undelivered.replies)
    → HasPlan (Shows Q) (reply_plan item (delivery o s w batch number) w s)
due_has Q item None s w batch number h g = h
due_has Q item (Some r) s w batch number h g = handed_has Q item r.callback (made_value r.reply w) w s (taken_out number batch r s) g

pub reply_has : (Q : Shown) (item : ℕ) (s : Browser) (w : World) (batch number : ℕ) → Shows Q s → Q s.calls (without_due number batch s.undelivered.replies)
    → HasPlan (Shows Q) (reply_plan item (delivered s w batch number) w s)
reply_has Q item s w batch number h g = due_has Q item (due number batch s.undelivered.replies) s w batch number h g

-- ---- the opening

scripts_has : (Q : Shown) (item m n : ℕ) (next : Going) → Next Q next → Next Q (scripts item m n next)
scripts_has Q item zero n next has w s h = has w s h
scripts_has Q item (suc m) n next has w s h = (h, scripts_has Q item m (n + 1) next has)

load_has : (Q : Shown) (item : ℕ) (o : Option ℕ) (next : Going) → Next Q next → Next Q (load_at o item next)
load_has Q item None next has w s h = has w s h
load_has Q item (Some body) next has w s h = flow_has Q item _ body (λ event. next) w s (λ event. has) h

loading_has : (Q : Shown) (item : ℕ) (next : Going) → Next Q next → Next Q (loading item next)
loading_has Q item next has w s h = load_has Q item s.body next has w s h

pub opening_has : (Q : Shown) (item : ℕ) (start : Start) (w : World) (s : Browser) → Shows Q s → HasPlan (Shows Q) (opening_plan start item w s)
opening_has Q item (PassesLimit limit) w s h = h
opening_has Q item (Loads count) w s h = scripts_has Q item count 1 (loading item fine) (loading_has Q item fine (fine_has Q)) w s h
