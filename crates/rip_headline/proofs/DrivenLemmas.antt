-- That what is driven is what an honest client tells, and is served.
use Rattle.std.proofs.Common.{◌≡◌, ◌≢◌, ℕ, ◌+◌, false, List, [], ◌∷◌, ◌++◌, take, zero, suc, refl, sym, ap, subst, ◌∙◌, ◌-◌, ◌||◌}
use Rattle.std.proofs.lemmas.List.{append-nil}
use Rattle.std.proofs.lemmas.Grind.{flat_map-append}
use Rattle.std.specs.Prelude.{Option, Some}
use Rattle.rip_app.specs.App.{Loaded}
use Rattle.rip_heap.specs.World.{World}
use Rattle.rip_host.specs.declared.browser.Browser.{Browser}
use Rattle.rip_eval_rows.specs.declared.close.Close.{Close}
use Rattle.rip_eval_rows.specs.declared.close.Close.TheVariants.{Fine, Stopped}
use Rattle.rip_eval_rows.specs.declared.completion.Stop.{Stop}
use Rattle.rip_eval_rows.specs.declared.completion.Stop.TheVariants as stop
use Rattle.rip_eval_rows.specs.Plan.{IsPlain}
use Rattle.rip_replica.specs.Play.{Closes}
use Rattle.rip_wire.specs.Batches.{Contents}
use Rattle.rip_wire.specs.Items.{Reported, event, call, reply}
use Rattle.rip_history.specs.Parts.{finishes, passes, Given}
use Rattle.rip_history.specs.Services.{Called, Service, service_of}
use Rattle.rip_replica.specs.Parts.{Doing, first_given, session_parts, whole_item}
use Rattle.rip_replica.proofs.TurnLemmas.{after_ended}
use Rattle.rip_session.specs.Endings.{ending_of}
use Rattle.rip_session.specs.Plans.{work_plan}
use Rattle.rip_session.specs.Shapes.{shapes}
use Rattle.rip_session.specs.Tasks.{Task, fact_of, reports}
use Rattle.rip_session.specs.Application.{doing_of}
use Rattle.rip_client.specs.Truth.{Waiting}
use Rattle.rip_law_replica.specs.Truthful.{IsLegal, Reports, Seat, given_in_turn, has_lie, is_lie, playing_of}
use Rattle.rip_law_replica.specs.Truthful as truth
use Rattle.rip_law_served.specs.Honest.{next_in}
use Rattle.rip_trace.specs.declared.gestures.LinedGesture.{LinedGesture}
use Rattle.rip_drive.specs.Driving.{AreLegal, Drives, DrivesApp, DrivesSession, End, driven}
use Rattle.rip_drive.specs.Driving as driving
use Rattle.rip_headline.specs.Driven.{DrivenAreServed, DrivenAreTold, IsToldWhole, calls_in, calls_of, client, gestures_of, replies_of, silent}
use Rattle.rip_headline.proofs.Given.{AreTasks, fact_in, plain_any}
use Rattle.rip_headline.proofs.DrivenTold.{gesture_back}
use Rattle.rip_headline.proofs.Replies.{are_served}

-- ---- gestures

stopped_not : (item : ℕ) (why : Stop) → Stopped item why ≢ Fine
stopped_not item why = λ e. cc

calls_both : (one two : List Contents) → calls_of (one ++ two) ≡ calls_of one ++ calls_of two
calls_both one two = flat_map-append (λ (b : Contents). calls_in b.items) one two

reports_of : {A S : Type 0} (d : Doing A S) (task : Reported → A) (next : S → Option Waiting) (service : Service) → AreTasks d task
    → (gestures : List LinedGesture) (a : Seat S) (calls : List Called) (number : ℕ) (waiting : List ℕ) (batches : List Contents) (end : End)
    → Drives (driven d task next service) gestures a calls number waiting batches end → AreLegal end
    → Reports (playing_of d task next given_in_turn IsLegal) (gestures_of gestures) a (replies_of service calls (calls_of batches)) number waiting batches
reports_of d task next service are gestures a calls number waiting batches end (driving.none _ _ _ _) legal = truth.silent a [] number waiting
reports_of d task next service are gestures a calls number waiting batches end (driving.told lined others _ b _ h _ following _ waits first more _ t rest) legal =
    let behind = reports_of d task next service are others b h following waits more end rest legal in
    let there = gesture_back d task next service are lined.gesture a b calls h number following waiting waits Fine first (calls_of more) tt t in
    let onward = subst (λ g. Reports (playing_of d task next given_in_turn IsLegal) (gestures_of others) b g following waits more) (sym (there.2 refl)) behind in
    subst (λ cs. Reports (playing_of d task next given_in_turn IsLegal) (gestures_of gestures) a (replies_of service calls cs) number waiting batches) (sym (calls_both first more))
    (truth.told lined.gesture (gestures_of others) a b (replies_of service calls (calls_of first ++ calls_of more)) there.0 number following waiting waits first more there.1 onward)
reports_of d task next service are gestures a calls number waiting batches end (driving.stops lined others _ b _ h _ following _ waits _ item why t) legal =
    let there = gesture_back d task next service are lined.gesture a b calls h number following waiting waits (Stopped item why) batches [] tt t in
    subst (λ cs. Reports (playing_of d task next given_in_turn IsLegal) (gestures_of gestures) a (replies_of service calls cs) number waiting batches) (append-nil (calls_of batches))
    (truth.ended lined.gesture (gestures_of others) a b (replies_of service calls (calls_of batches ++ [])) there.0 number following waiting waits (Stopped item why) batches (stopped_not item why) there.1)
reports_of d task next service are gestures a calls number waiting batches end (driving.refuses lined others _ _ _ _ _ _ _ _ _ item kind t) legal = absurd legal

-- ---- a session

-- the opening comes out alike, whatever is given
opening_any : {A S : Type 0} (d : Doing A S) (task : Reported → A) → AreTasks d task → (given : List Given) (close : Close) (more : List (S → S)) (fuel left : ℕ) (w : World) (s : S)
    → whole_item d 0 d.opening 1 d.world d.page (first_given []) ≡ Closes close more fuel left w s
    → whole_item d 0 d.opening 1 d.world d.page (first_given given) ≡ Closes close (d.serve 0 (first_given given) ∷ []) fuel left w s
opening_any d task are given close more fuel left w s is =
    plain_any d.run d.full (d.plan 0 d.opening 1 d.world d.page) (d.serve 0 (first_given []) ∷ []) (d.serve 0 (first_given given) ∷ []) more d.full d.full close fuel left w s are.opens is

take_none : (k : ℕ) → ◌≡◌ {A = List Contents} (take k []) []
take_none zero = refl
take_none (suc k) = refl

-- an opening that is stopped is the last
stopped_opening : {A S : Type 0} (d : Doing A S) (item : ℕ) (why : Stop) (given : List Given) (more : List (S → S)) (fuel left : ℕ) (w : World) (s : S) (k : ℕ)
    → ((all : List A) (page : S) → is_lie (finishes (Some (d.ending all (Stopped item why) page))) ≡ false)
    → whole_item d 0 d.opening 1 d.world d.page (first_given given) ≡ Closes (Stopped item why) more fuel left w s
    → has_lie (session_parts d (take k []) given) ≡ false
stopped_opening d item why given more fuel left w s k no_lie is =
    ap (λ bs. has_lie (session_parts d bs given)) (take_none k)
    ∙ ap has_lie (after_ended d 0 (d.opening ∷ []) 1 1 d.opening (whole_item d 0 d.opening 1 d.world d.page (first_given given)) _ (Stopped item why) more fuel left (1 + 1 + (d.full - left)) w s is refl refl)
    ∙ ap (λ b. b || false) (no_lie (d.opening ∷ []) s)

-- ---- an application

no_lie_stopped : (item : ℕ) (why : Stop) (all : List Task) (s : Browser) → is_lie (finishes (Some (ending_of all (Stopped item why) s))) ≡ false
no_lie_stopped item (stop.Fault fault) all s = refl
no_lie_stopped item (stop.Limit limit) all s = refl

are_tasks : (app : Loaded) → AreTasks (doing_of app 3 0) reports
are_tasks app = record {
  facts = facts;
  opening = refl;
  plain = plain;
  opens = shapes 0 (let d = doing_of app 3 0 in d.opening) 1 (let d = doing_of app 3 0 in d.world) (let d = doing_of app 3 0 in d.page);
}
  where
    facts : (item : Reported) → fact_of (reports item) ≡ fact_in item
    facts (event kind node text place) = refl
    facts (call number name args) = refl
    facts (reply number) = refl

    plain : (item : Reported) (batch n : ℕ) (w : World) (s : Browser) → fact_in item ≡ passes → IsPlain (work_plan batch (reports item) n w s)
    plain (event kind node text place) batch n w s e = shapes batch (reports (event kind node text place)) n w s
    plain (call number name args) batch n w s e = cc
    plain (reply number) batch n w s e = shapes batch (reports (reply number)) n w s

pub driven_told : DrivenAreTold
unfolding DrivesApp
driven_told app gestures batches end drives legal = by batches end drives legal
  where
    d : Doing Task Browser
    d = doing_of app 3 0

    service : Service
    service = service_of app.manifest.functions

    by : (batches : List Contents) (end : End) → DrivesSession d reports next_in service gestures batches end → AreLegal end → IsToldWhole app gestures batches
    by batches end (driving.goes_on fuel world page _ _ opens rest) legal =
        let given = replies_of service [] (calls_of batches) in
        client (record {
          more = d.serve 0 (first_given given) ∷ [];
          fuel = opens.fuel;
          left = opens.left;
          world = world;
          page = page;
          opens = opening_any d reports (are_tasks app) given Fine opens.gs opens.fuel opens.left world page opens.is;
          reports = reports_of d reports next_in service (are_tasks app) gestures _ [] 1 [] batches end rest legal;
        })
    by batches end (driving.stops fuel world page item why opens) legal = silent fuel world page item why opens refl

pub driven_served : DrivenAreServed
driven_served app gestures batches end drives legal k = by (driven_told app gestures batches end drives legal)
  where
    d : Doing Task Browser
    d = doing_of app 3 0

    given : List Given
    given = replies_of (service_of app.manifest.functions) [] (calls_of batches)

    by : IsToldWhole app gestures batches → has_lie (session_parts d (take k batches) given) ≡ false
    by (client told) = are_served app 3 0 (gestures_of gestures) given batches told k
    by (silent fuel world page item why opens none) =
        ap (λ bs. has_lie (session_parts d (take k bs) given)) none
        ∙ stopped_opening d item why given (d.serve 0 (first_given given) ∷ []) opens.fuel opens.left world page k (no_lie_stopped item why)
        (opening_any d reports (are_tasks app) given (Stopped item why) opens.gs opens.fuel opens.left world page opens.is)
