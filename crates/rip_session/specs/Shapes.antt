-- The plans of items have the shapes of what the items come to: a call alone waits or ends with a mismatch, and no other takes a
-- unit but for fuel.
use Rattle.std.proofs.Common.{◌≡◌, ℕ, zero, suc, ◌+◌, ◌-◌, ◌<◌, ◌≤◌, ◌^◌, Bool, true, false, not, ◌&&◌, ◌||◌, ◌==◌, List, [], ◌∷◌, Option, None, Some, drop, length, refl, sym, ap, subst}
use Rattle.std.specs.Prelude.{is_none, is_some, min, nat_lt, option_map, slice_get, if◌then◌else◌}
use Rattle.std.proofs.Math.Nat.{min-le_right, suc-le-suc_iff, zero-lt-suc}
use Rattle.std.proofs.lemmas.Bool.{and_from, eqb-true, lt-ltb, true≢false}
use Rattle.rip_base.specs.declared.report.BadReport.{BadReport}
use Rattle.rip_base.specs.declared.report.Report.{Report}
use Rattle.rip_base.specs.declared.value.Span.{Span}
use Rattle.rip_heap.specs.World.{World}
use Rattle.rip_events.specs.declared.station.Station.{Station}
use Rattle.rip_calls.specs.Calls.{MadeCall, front_callback, front_text, number_at}
use Rattle.rip_eval_rows.specs.declared.close.Close.TheVariants.{Mismatch}
use Rattle.rip_eval_rows.specs.Plan.{IsPlain, Plan}
use Rattle.rip_replica.specs.declared.items.page_host.Position.{Position}
use Rattle.rip_replica.specs.declared.items.page_host.Position.TheVariants as position
use Rattle.rip_replica.specs.Items.{call_plan, fine, reply_plan}
use Rattle.rip_replica.specs.Rules.{CallsBack, Delivered, NotDue, ReplyStops}
use Rattle.rip_host.specs.declared.browser.Browser.{Browser}
use Rattle.rip_host.specs.Waiting.{is_full}
use Rattle.rip_host.specs.Flow.{along, called, calls_at, event_opened, flow, flow_of, is_stopped, over, reached, standing, unless_stopped}
use Rattle.rip_host.specs.EventMembers.{bubbles}
use Rattle.rip_events.specs.Flow.{stations}
use Rattle.rip_forms.specs.Reports.{is_past, refusal_of}
use Rattle.rip_browser.specs.declared.opening.Start.{Start}
use Rattle.rip_browser.specs.declared.opening.Start.TheVariants.{Passes, Loads}
use Rattle.rip_browser.specs.Calls.{is_text, position_of}
use Rattle.rip_browser.specs.Events.{Going, browser_after, event_plan, judged, settled, settling, turned_by, world_after}
use Rattle.rip_browser.specs.Opening.{load_at, loading, opening_plan, scripts}
use Rattle.rip_browser.specs.Replies.{delivered}
use Rattle.rip_replica.specs.Parts.{is_fine}
use Rattle.rip_replica.specs.Plays.{IsCallPlan, IsItemPlan, IsStill, StandsStill}
use Rattle.rip_wire.specs.Calls.{call_text}
use Rattle.rip_wire.specs.Items.{event, call, reply}
use Rattle.rip_history.specs.Parts.{ends_at_mismatch}
use Rattle.rip_session.specs.Endings.{ending_of}
use Rattle.rip_session.specs.Plans.{work_plan}
use Rattle.rip_session.specs.Serving.{may_serve}
use Rattle.rip_session.specs.Tasks.{Task, opens, reports, fact_of}

-- PLAIN PLANS

abbrev pub GoesPlain : Going → Type 0
GoesPlain next = (w : World) (s : Browser) → IsPlain (next w s)

fine-plain : GoesPlain fine
fine-plain w s = tt

called-plain : (item object : ℕ) (at : Station) (f : Option ℕ) (go : Going) (w : World) (s : Browser) → GoesPlain go → IsPlain (called item object at f go w s)
called-plain item object at None go w s h = h w s
called-plain item object at (Some f) go w s h = h

calls-plain : (item object : ℕ) (kind : Span) (at : Station) (k n : ℕ) (go : Going) → GoesPlain go → GoesPlain (calls_at item object kind at k n go)
calls-plain item object kind at zero n go h w s = h w s
calls-plain item object kind at (suc k) n go h w s =
    called-plain item object at (standing w.pool kind s.listeners at n) (calls_at item object kind at k (suc n) go) w s (calls-plain item object kind at k (suc n) go h)

unless-plain : (b : Bool) (p q : Plan Browser) → IsPlain p → IsPlain q → IsPlain (unless_stopped b p q)
unless-plain true p q x y = x
unless-plain false p q x y = y

along-plain : (item object : ℕ) (kind : Span) (ahead : List Station) (done : Going) → GoesPlain done → GoesPlain (along item object kind ahead done)
along-plain item object kind [] done h w s = h w (reached object None s)
along-plain item object kind (at ∷ ahead) done h w s =
    unless-plain (is_stopped s object) (over object done w s) (calls_at item object kind at (length s.listeners.registered) 0 (along item object kind ahead done) w s)
    (h w (reached object None s))
    (calls-plain item object kind at (length s.listeners.registered) 0 (along item object kind ahead done) (along-plain item object kind ahead done h) w s)

flow-by-plain : (item : ℕ) (kind : Span) (target : ℕ) (done : ℕ → Going) (w : World) (s : Browser) (o : Option (ℕ × World × Browser))
    → ((object : ℕ) → GoesPlain (done object)) → IsPlain (flow_of item kind target done w s o)
flow-by-plain item kind target done w s None h = tt
flow-by-plain item kind target done w s (Some o) h =
    along-plain item o.0 kind (stations o.2.dom target (bubbles o.1.pool kind)) (done o.0) (h o.0) o.1 o.2

flow-plain : (item : ℕ) (kind : Span) (target : ℕ) (done : ℕ → Going) → ((object : ℕ) → GoesPlain (done object)) → GoesPlain (flow item kind target done)
flow-plain item kind target done h w s = flow-by-plain item kind target done w s (event_opened w s kind target) h

legal-plain : (b : Bool) (p q : Plan Browser) → IsPlain p → IsPlain q → IsPlain (if b then p else q)
legal-plain true p q x y = x
legal-plain false p q x y = y

judged-plain : (o : Option BadReport) (s : Browser) (w : World) (r : Report) (item : ℕ) (next : Going) → GoesPlain next → IsPlain (judged o s w r item next)
judged-plain (Some kind) s w r item next h = tt
judged-plain None s w r item next h =
    legal-plain (is_past w.pool r) _ _ tt
    (flow-plain item _ r.node (settling (turned_by w.pool s.dom r) next) (λ object y t. h y (settled (turned_by w.pool s.dom r) object t)) (world_after w s r) (browser_after w s r))

event-plain : (s : Browser) (w : World) (r : Report) (item : ℕ) → IsPlain (event_plan s w r item fine)
event-plain s w r item = judged-plain (refusal_of w.pool s.dom r) s w r item fine fine-plain

reply-plain : (item : ℕ) (d : Delivered Browser) (w : World) (s : Browser) → IsPlain (reply_plan item d w s)
reply-plain item NotDue w s = tt
reply-plain item (ReplyStops stop x r) w s = tt
reply-plain item (CallsBack f v x r) w s = fine-plain

scripts-plain : (item k n : ℕ) (next : Going) → GoesPlain next → GoesPlain (scripts item k n next)
scripts-plain item zero n next h w s = h w s
scripts-plain item (suc k) n next h w s = scripts-plain item k (n + 1) next h

load-plain : (o : Option ℕ) (item : ℕ) (next : Going) → GoesPlain next → GoesPlain (load_at o item next)
load-plain None item next h w s = h w s
load-plain (Some body) item next h w s = flow-plain item _ body (λ object. next) (λ object. h) w s

opening-plain : (start : Start) (item : ℕ) (w : World) (s : Browser) → IsPlain (opening_plan start item w s)
opening-plain (Passes limit) item w s = tt
opening-plain (Loads count) item w s = scripts-plain item count 1 (loading item fine) (λ y t. load-plain t.body item fine fine-plain y t) w s

-- ENDINGS

-- a mismatch is told as one
pub mismatches_are_told : (tasks : List Task) (item : ℕ) (s : Browser) → ends_at_mismatch (Some (ending_of tasks (Mismatch item) s)) ≡ true
mismatches_are_told tasks item s = refl

-- CALLS

-- the call is served
abbrev is-served : Position → Bool
is-served position.NotNext = false
is-served position.Other = false
is-served position.TooMany = false
is-served position.Served = true

served-parts : (a b c : Bool)
    → (if not a then position.NotNext else if b then (if c then position.TooMany else position.Served) else position.Other) ≡ position.Served
    → (a ≡ true) × (b ≡ true) × (c ≡ false)
served-parts false b c e = absurd (true≢false (sym (ap is-served e)))
served-parts true false c e = absurd (true≢false (sym (ap is-served e)))
served-parts true true true e = absurd (true≢false (sym (ap is-served e)))
served-parts true true false e = (refl, refl, refl)

room-there : (o : Option ℕ) (full : Bool) → (is_some o && full) ≡ false → (is_none o || not full) ≡ true
room-there None full e = refl
room-there (Some f) false e = refl
room-there (Some f) true e = absurd (true≢false e)

waits-there : (made : List MadeCall) (k : ℕ) (text : List ℕ) → is_text (option_map (λ m. m.text) (slice_get (drop k made) 0)) text ≡ true → k < length made
waits-there [] zero text e = absurd (true≢false (sym e))
waits-there [] (suc k) text e = absurd (true≢false (sym e))
waits-there (m ∷ ms) zero text e = zero-lt-suc (length ms)
waits-there (m ∷ ms) (suc k) text e = (let more = suc-le-suc_iff {n = suc k} {m = length ms} in more.1 (waits-there ms k text e))

-- a reported call that stands to be served may be
served-may : (s : Browser) (number : ℕ) (text : List ℕ) → position_of s (number_at number) text ≡ position.Served → may_serve s ≡ true
served-may s number text e =
    let parts : (((number_at number) == (s.calls.taken + 1)) ≡ true) × (is_text (front_text s.calls) text ≡ true) × ((is_some (front_callback s.calls) && is_full s.undelivered) ≡ false) =
    served-parts ((number_at number) == (s.calls.taken + 1)) (is_text (front_text s.calls) text) (is_some (front_callback s.calls) && is_full s.undelivered) e in
    let next : min number (2 ^ 64 - 1) ≡ s.calls.taken + 1 = eqb-true (number_at number) (s.calls.taken + 1) parts.0 in
    let most : s.calls.taken + 1 ≤ 2 ^ 64 - 1 = subst (λ (n : ℕ). n ≤ 2 ^ 64 - 1) next (min-le_right number (2 ^ 64 - 1)) in
    let few : s.calls.taken + 1 < 2 ^ 64 = (let more = suc-le-suc_iff {n = s.calls.taken + 1} {m = 2 ^ 64 - 1} in more.1 most) in
    and_from _ _
    (and_from _ _ (lt-ltb (s.calls.taken + 1) (2 ^ 64) few)
    (lt-ltb s.calls.taken (length s.calls.made) (waits-there s.calls.made s.calls.taken text parts.1)))
    (room-there (front_callback s.calls) (is_full s.undelivered) parts.2)

call-shape : (p : Position) (item : ℕ) (w : World) (s : Browser) → (p ≡ position.Served → may_serve s ≡ true) → IsCallPlan may_serve (call_plan item p w s)
call-shape position.NotNext item w s h = λ e. true≢false (sym (ap is_fine e))
call-shape position.Other item w s h = λ e. true≢false (sym (ap is_fine e))
call-shape position.TooMany item w s h = λ e. true≢false (sym (ap is_fine e))
call-shape position.Served item w s h = (h refl, λ r. refl)

-- ALL ITEMS

pub shapes : (batch : ℕ) (t : Task) (n : ℕ) (w : World) (s : Browser) → IsItemPlan may_serve (fact_of t) (work_plan batch t n w s)
shapes batch (opens start) n w s = opening-plain start n w s
shapes batch (reports (event kind node text place)) n w s = event-plain s w (record { kind = kind; node = node; text = text; place = place }) n
shapes batch (reports (call number name args)) n w s =
    call-shape (position_of s (number_at number) (call_text name args)) n w s (served-may s number (call_text name args))
shapes batch (reports (reply number)) n w s = reply-plain n (delivered s w batch number) w s

-- CALLS THAT ARE NOT SERVED YET

call-still : (p : Position) (item : ℕ) (w : World) (s : Browser) → StandsStill w s (call_plan item p w s)
call-still position.NotNext item w s = (refl, refl)
call-still position.Other item w s = (refl, refl)
call-still position.TooMany item w s = (refl, refl)
call-still position.Served item w s = (refl, refl)

-- a call changes neither the world nor the page before it is served
pub still : (batch : ℕ) (t : Task) (n : ℕ) (w : World) (s : Browser) → IsStill (fact_of t) w s (work_plan batch t n w s)
still batch (opens start) n w s = tt
still batch (reports (event kind node text place)) n w s = tt
still batch (reports (call number name args)) n w s = call-still (position_of s (number_at number) (call_text name args)) n w s
still batch (reports (reply number)) n w s = tt
