-- A browser keeps the replies to served calls in order until they are delivered.
use Rattle.std.proofs.Common.{◌≡◌, ℕ, ◌+◌, ◌-◌, ◌<◌, min, Bool, true, false, eqb, ltb, List, [], ◌∷◌, ◌++◌, map, Option, Some, None, Ok, Err, ℤ, refl, sym, ap, subst, ◌∙◌}
use Rattle.std.specs.Prelude.{find, nat_le, nat_lt, is_some, option_map, if◌then◌else◌}
use Rattle.std.proofs.lemmas.Bool.{and_from, eq-eqb, lt-ltb}
use Rattle.std.proofs.lemmas.List.{map-append}
use Rattle.rip_app.specs.App.{Loaded}
use Rattle.rip_calls.specs.Calls.{Calls, front_callback, front_text, number_at}
use Rattle.rip_data.specs.Datum.{Tree}
use Rattle.rip_dom.specs.Opening.{count_of_nodes, count_of_units}
use Rattle.rip_heap.specs.World.{World}
use Rattle.rip_base.specs.declared.report.EventKind.{EventKind}
use Rattle.rip_base.specs.declared.value.Value.{Value}
use Rattle.rip_convert.specs.Values.{Made, made_value}
use Rattle.rip_host.specs.Answers.{answers}
use Rattle.rip_host.specs.declared.browser.Browser.{Browser}
use Rattle.rip_host.specs.declared.replies.WaitingReply.{WaitingReply}
use Rattle.rip_host.specs.Waiting.{Waiting as Undelivered}
use Rattle.rip_host.specs.Replies.{due, is_due, with_reply, without_due}
use Rattle.rip_replica.specs.Items.{call_plan, fine, reply_plan}
use Rattle.rip_replica.specs.declared.items.page_host.Position.{Position}
use Rattle.rip_replica.specs.declared.items.page_host.Position.TheVariants as position
use Rattle.rip_eval_rows.specs.declared.close.Close.{Close}
use Rattle.rip_eval_rows.specs.declared.close.Close.TheVariants.{Fine, Stopped}
use Rattle.rip_eval_rows.specs.Evaluation.{Reached, Passes, Breaks, Pauses}
use Rattle.rip_eval_rows.specs.Plan.{Plan}
use Rattle.rip_eval_rows.specs.Started.{Started}
use Rattle.rip_replica.specs.Play.{Played, Closes, after_run, play}
use Rattle.rip_machine.specs.Law.{Standing, loaded}
use Rattle.rip_machine.specs.Loading.{cost_of_literals}
use Rattle.rip_machine.specs.Plans.{evaluation}
use Rattle.rip_machine.specs.Starting.{begun_by}
use Rattle.rip_eval_language.specs.Table.{table}
use Rattle.rip_tree.specs.Program.{Code}
use Rattle.rip_browser.specs.Calls.{position_of}
use Rattle.rip_browser.specs.Replies.{delivery, handed, stop_of, taken_out}
use Rattle.rip_wire.specs.Calls.{call_text}
use Rattle.rip_wire.specs.Items.{Reported, event, reply}
use Rattle.rip_history.specs.Parts.{Given}
use Rattle.rip_replica.specs.Parts.{Doing, whole_item}
use Rattle.rip_session.specs.Serving.{moment_of}
use Rattle.rip_session.specs.Tasks.{Task, reports}
use Rattle.rip_client.specs.Truth.{IsReportOf, Waiting}
use Rattle.rip_law_replica.specs.Truthful.{IsFineOrStopped}
use Rattle.rip_session.specs.Application.{doing_of}
use Rattle.rip_session.specs.Opening.{by_scope, opened_of, top_scope, with_page, with_scope}
use Rattle.rip_law_browser.proofs.KeepsAnswers.{replies_stay}
use Rattle.rip_law_served.proofs.KeepsPlans.{HasPlan, HasPlayed, Shows, event_has, handed_has, opening_has, play_has}
use Rattle.rip_law_browser.proofs.KeepsRuns.{HasReached, begun_has}
use Rattle.rip_headline.specs.DueReplies.{Kept, KeepsReplies, kept_behind}
use Rattle.rip_law_served.specs.Honest.{next_in}

-- the replies that wait in a browser
abbrev kept_as : WaitingReply → Kept
kept_as r = record { number = r.number; batch = r.batch }

abbrev pub kept_in : Browser → List Kept
kept_in s = map kept_as s.undelivered.replies

-- ---- what shows only the replies that wait

abbrev Waits : List WaitingReply → Calls → List WaitingReply → Type 0
Waits us calls waiting = waiting ≡ us

runs_keep : (us : List WaitingReply) (code : Code) (m : Standing) (start : Started) (w : World) (s : Browser) (fuel u : ℕ) → Shows (Waits us) s
    → HasReached (Shows (Waits us)) (let e = evaluation answers code in e.run m start w s fuel u)
runs_keep us code m start w s fuel u h =
    begun_has (Shows (Waits us)) answers (λ t x r p. ap (λ (u : Undelivered). u.replies) (replies_stay t x r) ∙ p) (table (loaded code m)) m.depth (begun_by (loaded code m) m.depth start w) w s fuel u h

abbrev machine_of : Loaded → ℕ → ℕ → Standing
machine_of app seed time = (let o = opened_of app seed (moment_of time) in o.machine)

-- a plan in which these wait, wherever it is played, is closed with these
plan_keeps : (app : Loaded) (seed time : ℕ) (us : List WaitingReply) (plan : Plan Browser) (gs : List (Browser → Browser)) (close : Close) (more : List (Browser → Browser)) (fuel left : ℕ) (x : World) (r : Browser)
    → HasPlan (Shows (Waits us)) plan
    → (let d = doing_of app seed time in play d.run d.full plan gs d.full d.full) ≡ Closes close more fuel left x r → r.undelivered.replies ≡ us
plan_keeps app seed time us plan gs close more fuel left x r has is =
    let d = doing_of app seed time in
    subst (HasPlayed (Shows (Waits us))) is
    (play_has (Shows (Waits us)) d.run (λ start w s f u h. runs_keep us app.program (machine_of app seed time) start w s f u h) d.full plan gs d.full d.full has)

-- ---- the opening

page_new : (app : Loaded) (w : World) (s : Browser) → s.undelivered.replies ≡ [] → (let o = with_page app w s in let t = o.browser in t.undelivered.replies) ≡ []
page_new app w s h = by (nat_le (w.pool.used + cost_of_literals app.program) w.pool.limit) refl
  where
    by : (t : Bool) → nat_le (w.pool.used + cost_of_literals app.program) w.pool.limit ≡ t → (let o = with_page app w s in let t = o.browser in t.undelivered.replies) ≡ []
    by true e = rw e h
    by false e = rw e h

scope_new : (app : Loaded) (w : World) (seed : ℕ) (time : ℤ) → (let o = with_scope app w seed time in let t = o.browser in t.undelivered.replies) ≡ []
scope_new app w seed time = by (nat_lt app.manifest.limits.nodes (count_of_nodes app.page.nodes)) refl (nat_lt w.pool.limit (w.pool.used + count_of_units app.page.nodes)) refl
  where
    by : (t : Bool) → nat_lt app.manifest.limits.nodes (count_of_nodes app.page.nodes) ≡ t → (u : Bool) → nat_lt w.pool.limit (w.pool.used + count_of_units app.page.nodes) ≡ u
        → (let o = with_scope app w seed time in let t = o.browser in t.undelivered.replies) ≡ []
    by true e u f = rw e refl
    by false e true f = rw (e, f) refl
    by false e false f = rw (e, f) (page_new app _ _ refl)

opened_new : (app : Loaded) (o : Option (ℕ × World)) (seed : ℕ) (time : ℤ) → (let x = by_scope app o seed time in let t = x.browser in t.undelivered.replies) ≡ []
opened_new app None seed time = refl
opened_new app (Some scope) seed time = scope_new app scope.1 seed time

opening_keeps : (app : Loaded) (seed time : ℕ) (g : Given) (more : List (Browser → Browser)) (fuel left : ℕ) (x : World) (r : Browser)
    → (let d = doing_of app seed time in whole_item d 0 d.opening 1 d.world d.page g) ≡ Closes Fine more fuel left x r → kept_in r ≡ []
opening_keeps app seed time g more fuel left x r is =
    let d = doing_of app seed time in
    let o = opened_of app seed (moment_of time) in
    ap (λ (us : List WaitingReply). map kept_as us)
    (plan_keeps app seed time [] (d.plan 0 d.opening 1 d.world d.page) (d.serve 0 g ∷ []) Fine more fuel left x r
    (opening_has (Waits []) 1 o.start d.world d.page (opened_new app (top_scope app) seed (moment_of time))) is)

-- ---- events

events_keep : (app : Loaded) (seed time batch n : ℕ) (w : World) (s : Browser) (g : Given) (kind : EventKind) (node : ℕ) (text : Option (List ℕ)) (place : Option ℕ)
    (close : Close) (more : List (Browser → Browser)) (fuel left : ℕ) (x : World) (r : Browser)
    → whole_item (doing_of app seed time) batch (reports (event kind node text place)) n w s g ≡ Closes close more fuel left x r → kept_in r ≡ kept_in s
events_keep app seed time batch n w s g kind node text place close more fuel left x r is =
    let d = doing_of app seed time in
    ap (λ (us : List WaitingReply). map kept_as us)
    (plan_keeps app seed time s.undelivered.replies (d.plan batch (reports (event kind node text place)) n w s) (d.serve batch g ∷ []) close more fuel left x r
    (event_has (Waits s.undelivered.replies) s w (record { kind = kind; node = node; text = text; place = place }) n refl) is)

-- ---- calls

same_page : {S : Type 0} (a b : Close) (gs hs : List (S → S)) (f u g v : ℕ) (w x : World) (s r : S) → ◌≡◌ {A = Played S} (Closes a gs f u w s) (Closes b hs g v x r) → s ≡ r
same_page a b gs hs f u g v w x s r e = cc

same_close : {S : Type 0} (a b : Close) (gs hs : List (S → S)) (f u g v : ℕ) (w x : World) (s r : S) → ◌≡◌ {A = Played S} (Closes a gs f u w s) (Closes b hs g v x r) → a ≡ b
same_close a b gs hs f u g v w x s r e = cc

-- a call that closes fine was served
call_leaves : {S : Type 0} (run : Started → World → S → ℕ → ℕ → Reached S) (full n : ℕ) (p : Position) (w x : World) (s r : S) (change : S → S) (more : List (S → S)) (fuel left : ℕ)
    → play run full (call_plan n p w s) (change ∷ []) full full ≡ Closes Fine more fuel left x r → r ≡ change s
call_leaves run full n position.NotNext w x s r change more fuel left is = absurd (let e = same_close _ Fine (change ∷ []) more full full fuel left w x s r is in cc)
call_leaves run full n position.Other w x s r change more fuel left is = absurd (let e = same_close _ Fine (change ∷ []) more full full fuel left w x s r is in cc)
call_leaves run full n position.TooMany w x s r change more fuel left is = absurd (let e = same_close _ Fine (change ∷ []) more full full fuel left w x s r is in cc)
call_leaves run full n position.Served w x s r change more fuel left is = sym (same_page Fine Fine [] more full full fuel left w x (change s) r is)

-- the call that is read off a page has the next number, and a callback where the front has one
record IsFront (s : Browser) (c : Waiting) : Type 0 where
  number : c.number ≡ (let calls = s.calls in calls.taken) + 1
  back : c.calls_back ≡ is_some (front_callback s.calls)

front_by : (s : Browser) (low : Bool) (text : Option (List ℕ)) (c : Waiting)
    → (if low then option_map (λ t. record { number = (let calls = s.calls in calls.taken) + 1; text = t; calls_back = is_some (front_callback s.calls) }) text else None) ≡ Some c → IsFront s c
front_by s false text c e = absurd (none e)
  where
    none : ◌≡◌ {A = Option Waiting} None (Some c) → ⊥
    none e = cc
front_by s true None c e = absurd (none e)
  where
    none : ◌≡◌ {A = Option Waiting} None (Some c) → ⊥
    none e = cc
front_by s true (Some t) c e = record { number = sym (ap (λ (w : Waiting). w.number) same); back = sym (ap (λ (w : Waiting). w.calls_back) same) }
  where
    same : ◌≡◌ {A = Waiting} (record { number = (let calls = s.calls in calls.taken) + 1; text = t; calls_back = is_some (front_callback s.calls) }) c
    same = cc

front_of : (s : Browser) (c : Waiting) → next_in s ≡ Some c → IsFront s c
front_of s c e = front_by s (nat_lt (let calls = s.calls in calls.taken) 18446744073709551615) (front_text s.calls) c e

reply_behind : (c : Waiting) (batch taken : ℕ) (callback : Option ℕ) (time : ℤ) (given : Tree) (us : List WaitingReply)
    → c.number ≡ taken + 1 → c.calls_back ≡ is_some callback
    → map kept_as (with_reply callback (taken + 1) batch time given us) ≡ kept_behind c batch (map kept_as us)
reply_behind c batch taken None time given us number back =
    ap (λ (b : Bool). if b then map kept_as us ++ record { number = c.number; batch = batch } ∷ [] else map kept_as us) (sym back)
reply_behind c batch taken (Some f) time given us number back =
    map-append kept_as us (record { number = taken + 1; batch = batch; callback = f; time = time; reply = given } ∷ [])
    ∙ ap (λ (k : ℕ). map kept_as us ++ record { number = k; batch = batch } ∷ []) (sym number)
    ∙ ap (λ (b : Bool). if b then map kept_as us ++ record { number = c.number; batch = batch } ∷ [] else map kept_as us) (sym back)

calls_keep : (app : Loaded) (seed time batch n : ℕ) (w : World) (s : Browser) (g : Given) (c : Waiting) (item : Reported) (more : List (Browser → Browser)) (fuel left : ℕ) (x : World) (r : Browser)
    → next_in s ≡ Some c → IsReportOf c item → whole_item (doing_of app seed time) batch (reports item) n w s g ≡ Closes Fine more fuel left x r
    → kept_in r ≡ kept_behind c batch (kept_in s)
calls_keep app seed time batch n w s g c item more fuel left x r next told is =
    let d = doing_of app seed time in
    let front = front_of s c next in
    let left_is : r ≡ d.serve batch g s =
    call_leaves d.run d.full n (position_of s (number_at c.number) (call_text told.name told.args)) w x s r (d.serve batch g) more fuel left
    (ap (λ i. play d.run d.full (d.plan batch (reports i) n w s) (d.serve batch g ∷ []) d.full d.full) (sym told.is) ∙ is) in
    ap kept_in left_is ∙ reply_behind c batch (let calls = s.calls in calls.taken) (front_callback s.calls) (moment_of g.time) g.reply s.undelivered.replies front.number front.back

-- ---- replies

run_closes : {S : Type 0} (run : Started → World → S → ℕ → ℕ → Reached S) (full n : ℕ) (a : Reached S) (gs : List (S → S)) (f u : ℕ) (close : Close) (more : List (S → S)) (fuel left : ℕ) (x : World) (r : S)
    → after_run n a gs f u (λ e v y q. play run full (fine y q) gs e v) ≡ Closes close more fuel left x r → IsFineOrStopped close
run_closes run full n (Passes v w s) gs f u close more fuel left x r is =
    subst IsFineOrStopped (same_close Fine close gs more (f - min u f + v) (u - min u f + v) fuel left w x s r is) tt
run_closes run full n (Breaks stop v w s) gs f u close more fuel left x r is =
    subst IsFineOrStopped (same_close (Stopped n stop) close gs more (f - min u f + v) (u - min u f + v) fuel left w x s r is) tt
run_closes run full n (Pauses depth w s) gs f u close more fuel left x r is = absurd cc

handed_closes : (run : Started → World → Browser → ℕ → ℕ → Reached Browser) (full n callback : ℕ) (m : Made Value) (w : World) (s t : Browser) (gs : List (Browser → Browser)) (close : Close) (more : List (Browser → Browser)) (fuel left : ℕ) (x : World) (r : Browser)
    → play run full (reply_plan n (handed callback m t) w s) gs full full ≡ Closes close more fuel left x r → IsFineOrStopped close
handed_closes run full n callback (Ok v, y) w s t gs close more fuel left x r is =
    run_closes run full n _ gs full full close more fuel left x r is
handed_closes run full n callback (Err halt, y) w s t gs close more fuel left x r is =
    subst IsFineOrStopped (same_close (Stopped n (stop_of halt)) close gs more full full fuel left y x t r is) tt

-- the first that waits, where it is due
due_first : (number batch : ℕ) (u : WaitingReply) (us : List WaitingReply) → is_due number batch u ≡ true
    → (due number batch (u ∷ us) ≡ Some u) × (without_due number batch (u ∷ us) ≡ us)
due_first number batch u us is = (
  ap (λ (b : Bool). if b then Some u else find (is_due number batch) us) is,
  ap (λ (b : Bool). if b then us else (u ∷ without_due number batch us)) is,
)

first_goes : (app : Loaded) (seed time batch n : ℕ) (w : World) (s : Browser) (g : Given) (first : Kept) (others : List Kept)
    (close : Close) (more : List (Browser → Browser)) (fuel left : ℕ) (x : World) (r : Browser) (us : List WaitingReply)
    → s.undelivered.replies ≡ us → map kept_as us ≡ first ∷ others → first.batch < batch
    → whole_item (doing_of app seed time) batch (reports (reply first.number)) n w s g ≡ Closes close more fuel left x r
    → IsFineOrStopped close × (kept_in r ≡ others)
first_goes app seed time batch n w s g first others close more fuel left x r [] waits are below is =
    absurd (let e : ◌≡◌ {A = List Kept} [] (first ∷ others) = are in cc)
first_goes app seed time batch n w s g first others close more fuel left x r (u ∷ us) waits are below is = (
  handed_closes d.run d.full n u.callback (made_value u.reply w) w s t gs close more fuel left x r goes,
  ap (λ (vs : List WaitingReply). map kept_as vs)
      (plan_keeps app seed time us plan gs close more fuel left x r (handed_has (Waits us) n u.callback (made_value u.reply w) w s t gone) goes)
      ∙ rest,
)
  where
    d : Doing Task Browser
    d = doing_of app seed time

    gs : List (Browser → Browser)
    gs = d.serve batch g ∷ []

    t : Browser
    t = taken_out first.number batch u s

    plan : Plan Browser
    plan = reply_plan n (handed u.callback (made_value u.reply w) t) w s

    own : kept_as u ≡ first
    own = (let e : kept_as u ∷ map kept_as us ≡ first ∷ others = are in cc)

    rest : map kept_as us ≡ others
    rest = (let e : kept_as u ∷ map kept_as us ≡ first ∷ others = are in cc)

    number : u.number ≡ first.number
    number = ap (λ (k : Kept). k.number) own

    earlier : u.batch < batch
    earlier = subst (λ (k : ℕ). k < batch) (sym (ap (λ (k : Kept). k.batch) own)) below

    is_first : is_due first.number batch u ≡ true
    is_first = and_from (eqb u.number first.number) (ltb u.batch batch) (eq-eqb u.number first.number number) (lt-ltb u.batch batch earlier)

    found : due first.number batch s.undelivered.replies ≡ Some u
    found = ap (due first.number batch) waits ∙ (due_first first.number batch u us is_first).0

    gone : t.undelivered.replies ≡ us
    gone = ap (without_due first.number batch) waits ∙ (due_first first.number batch u us is_first).1

    goes : play d.run d.full plan gs d.full d.full ≡ Closes close more fuel left x r
    goes = ap (λ (o : Option WaitingReply). play d.run d.full (reply_plan n (delivery o s w batch first.number) w s) gs d.full d.full) (sym found) ∙ is

-- ---- the application

pub browser_keeps : (app : Loaded) (seed time : ℕ) → KeepsReplies (doing_of app seed time) reports next_in kept_in
browser_keeps app seed time = record {
  opening = opening_keeps app seed time;
  events = events_keep app seed time;
  calls = calls_keep app seed time;
  replies = λ batch n w s g first others close more fuel left x r are below is.
      first_goes app seed time batch n w s g first others close more fuel left x r s.undelivered.replies refl are below is;
}
