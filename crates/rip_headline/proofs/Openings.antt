-- The opening of a session is fine, or a limit or a fault stops it.
use Rattle.std.proofs.Common.{◌≡◌, ℕ, zero, suc, ◌+◌, ◌-◌, min, Bool, true, false, cond, List, [], ◌∷◌, length, Option, Some, None, refl}
use Rattle.std.proofs.lemmas.Bool.{or_from}
use Rattle.rip_values.specs.declared.fixed.FixedText.TheVariants.{Load}
use Rattle.rip_base.specs.declared.value.Span.{Span}
use Rattle.rip_app.specs.App.{Loaded}
use Rattle.rip_events.specs.Flow.{stations}
use Rattle.rip_events.specs.declared.station.Station.{Station}
use Rattle.rip_heap.specs.Conversions.{span_of}
use Rattle.rip_heap.specs.World.{World}
use Rattle.rip_host.specs.EventMembers.{bubbles}
use Rattle.rip_host.specs.Flow.{along, called, calls_at, event_opened, flow_of, is_stopped, over, reached, standing, unless_stopped}
use Rattle.rip_host.specs.declared.browser.Browser.{Browser}
use Rattle.rip_eval_rows.specs.declared.close.Close.{Close}
use Rattle.rip_eval_rows.specs.declared.close.Close.TheVariants.{Fine, Refused, Mismatch, Stopped}
use Rattle.rip_eval_rows.specs.declared.completion.Stop.TheVariants.{Fault as AtFault, Limit as AtLimit}
use Rattle.rip_eval_rows.specs.Evaluation.{Reached, Passes, Breaks, Pauses}
use Rattle.rip_eval_rows.specs.Plan.{Plan, Over, Takes, Awaits, Runs}
use Rattle.rip_eval_rows.specs.Started.{Started}
use Rattle.rip_replica.specs.Play.{Played, Closes, Holds, after_run, play}
use Rattle.rip_replica.specs.Items.{fine}
use Rattle.rip_browser.specs.declared.opening.Start.{Start}
use Rattle.rip_browser.specs.declared.opening.Start.TheVariants.{Passes as PassesLimit, Loads}
use Rattle.rip_browser.specs.Events.{Going}
use Rattle.rip_browser.specs.Opening.{load_at, loading, opening_plan, scripts}
use Rattle.rip_history.specs.Parts.{Given, finishes}
use Rattle.rip_replica.specs.Parts.{Doing, after_item, first_given, is_fine, part_of, whole_item}
use Rattle.rip_session.specs.Application.{doing_of, meaning_of_app}
use Rattle.rip_session.specs.Opening.{opened_of}
use Rattle.rip_law_replica.specs.Truthful.{IsFineOrStopped, has_lie, is_lie}
use Rattle.rip_session.specs.Endings.{ending_of}
use Rattle.rip_session.specs.Serving.{moment_of}
use Rattle.rip_session.specs.Tasks.{Task}

-- ---- plans that refuse nothing

abbrev IsSafe : Plan Browser → Type 0
IsSafe (Over close w s) = IsFineOrStopped close
IsSafe (Takes w s plan) = ⊥
IsSafe (Awaits w s go) = ⊥
IsSafe (Runs item start w s go) = (x : World) (r : Browser) → IsSafe (go x r)

abbrev IsSafePlayed : Played Browser → Type 0
IsSafePlayed (Closes close gs fuel u w s) = IsFineOrStopped close
IsSafePlayed (Holds open_depth w s) = Unit {0}

run_safe : (item : ℕ) (a : Reached Browser) (gs : List (Browser → Browser)) (fuel u : ℕ) (go : ℕ → ℕ → World → Browser → Played Browser)
    → ((e v : ℕ) (x : World) (r : Browser) → IsSafePlayed (go e v x r)) → IsSafePlayed (after_run item a gs fuel u go)
run_safe item (Passes v w s) gs fuel u go h = h (fuel - min u fuel + v) (u - min u fuel + v) w s
run_safe item (Breaks stop v w s) gs fuel u go h = tt
run_safe item (Pauses depth w s) gs fuel u go h = tt

play_safe : (run : Started → World → Browser → ℕ → ℕ → Reached Browser) (full : ℕ) (plan : Plan Browser) (gs : List (Browser → Browser)) (fuel u : ℕ) → IsSafe plan
    → IsSafePlayed (play run full plan gs fuel u)
play_safe run full (Over close w s) gs fuel u h = h
play_safe run full (Takes w s plan) gs fuel u h = absurd h
play_safe run full (Awaits w s go) gs fuel u h = absurd h
play_safe run full (Runs item start w s go) gs fuel u h =
    run_safe item (run start w s fuel u) gs fuel u _ (λ e v x r. play_safe run full (go x r) gs e v (h x r))

-- ---- the plan of an opening

abbrev GoesSafe : Going → Type 0
GoesSafe next = (w : World) (s : Browser) → IsSafe (next w s)

called_safe : (item object : ℕ) (at : Station) (f : Option ℕ) (go : Going) (w : World) (s : Browser) → GoesSafe go → IsSafe (called item object at f go w s)
called_safe item object at None go w s h = h w s
called_safe item object at (Some f) go w s h = h

calls_safe : (item object : ℕ) (kind : Span) (at : Station) (k n : ℕ) (go : Going) → GoesSafe go → GoesSafe (calls_at item object kind at k n go)
calls_safe item object kind at zero n go h w s = h w s
calls_safe item object kind at (suc k) n go h w s =
    called_safe item object at (standing w.pool kind s.listeners at n) (calls_at item object kind at k (suc n) go) w s (calls_safe item object kind at k (suc n) go h)

unless_safe : (b : Bool) (p q : Plan Browser) → IsSafe p → IsSafe q → IsSafe (unless_stopped b p q)
unless_safe true p q x y = x
unless_safe false p q x y = y

along_safe : (item object : ℕ) (kind : Span) (ahead : List Station) (done : Going) → GoesSafe done → GoesSafe (along item object kind ahead done)
along_safe item object kind [] done h w s = h w (reached object None s)
along_safe item object kind (at ∷ ahead) done h w s =
    unless_safe (is_stopped s object) (over object done w s) (calls_at item object kind at (length s.listeners.registered) 0 (along item object kind ahead done) w s)
    (h w (reached object None s))
    (calls_safe item object kind at (length s.listeners.registered) 0 (along item object kind ahead done) (along_safe item object kind ahead done h) w s)

flow_safe : (item : ℕ) (kind : Span) (target : ℕ) (done : ℕ → Going) (w : World) (s : Browser) (o : Option (ℕ × World × Browser))
    → ((object : ℕ) → GoesSafe (done object)) → IsSafe (flow_of item kind target done w s o)
flow_safe item kind target done w s None h = tt
flow_safe item kind target done w s (Some o) h =
    along_safe item o.0 kind (stations o.2.dom target (bubbles o.1.pool kind)) (done o.0) (h o.0) o.1 o.2

load_safe : (body : Option ℕ) (item : ℕ) (next : Going) → GoesSafe next → GoesSafe (load_at body item next)
load_safe None item next h w s = h w s
load_safe (Some body) item next h w s = flow_safe item (span_of Load) body (λ object. next) w s (event_opened w s (span_of Load) body) (λ object. h)

scripts_safe : (item k n : ℕ) (next : Going) → GoesSafe next → GoesSafe (scripts item k n next)
scripts_safe item zero n next h w s = h w s
scripts_safe item (suc k) n next h w s = scripts_safe item k (n + 1) next h

fine_safe : GoesSafe fine
fine_safe w s = tt

opening_safe : (start : Start) (item : ℕ) (w : World) (s : Browser) → IsSafe (opening_plan start item w s)
opening_safe (PassesLimit limit) item w s = tt
opening_safe (Loads count) item w s = scripts_safe item count 1 (loading item fine) (λ y t. load_safe t.body item fine fine_safe y t) w s

-- ---- a session to which no batch was admitted

no_lie_closed : (all : List Task) (close : Close) (s : Browser) → IsFineOrStopped close → is_lie (finishes (Some (ending_of all close s))) ≡ false
no_lie_closed all Fine s h = refl
no_lie_closed all (Refused item kind) s h = absurd h
no_lie_closed all (Mismatch item) s h = absurd h
no_lie_closed all (Stopped item (AtFault fault)) s h = refl
no_lie_closed all (Stopped item (AtLimit limit)) s h = refl

alone_honest : (app : Loaded) (seed time n cost : ℕ) (q : Played Browser) → IsSafePlayed q
    → has_lie (let d = doing_of app seed time in after_item d 0 (d.opening ∷ []) n cost d.opening q (λ spent x r. part_of 0 (n + 1) spent (finishes None) ∷ [])) ≡ false
alone_honest app seed time n cost (Holds depth w s) safe = refl
alone_honest app seed time n cost (Closes close gs fuel u w s) safe = by (is_fine close)
  where
    d : Doing Task Browser
    d = doing_of app seed time

    c : ℕ
    c = cost + 1 + (d.full - u)

    by : (b : Bool) → has_lie (cond b (part_of 0 n c (d.fact d.opening) ∷ part_of 0 (n + 1) c (finishes None) ∷ []) (part_of 0 n c (finishes (Some (d.ending (d.opening ∷ []) close s))) ∷ [])) ≡ false
    by true = refl
    by false = or_from (is_lie (finishes (Some (ending_of (d.opening ∷ []) close s)))) false (no_lie_closed (d.opening ∷ []) close s safe) refl

pub opening_honest : (app : Loaded) (seed time : ℕ) (gs : List Given) → has_lie (meaning_of_app app seed time [] gs) ≡ false
opening_honest app seed time gs =
    let d : Doing Task Browser = doing_of app seed time in
    alone_honest app seed time 1 1 (whole_item d 0 d.opening 1 d.world d.page (first_given gs))
    (play_safe d.run d.full (d.plan 0 d.opening 1 d.world d.page) (d.serve 0 (first_given gs) ∷ []) d.full d.full
    (opening_safe (let o = opened_of app seed (moment_of time) in o.start) 1 d.world d.page))
