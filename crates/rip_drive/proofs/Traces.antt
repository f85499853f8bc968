-- The trace of an application, by what its session comes to.
use Rattle.std.proofs.Common.{◌≡◌, ℕ, List, [], ◌++◌, ap, refl, subst, ◌∙◌}
use Rattle.std.specs.Prelude.{Err, IfErr, Ok, Result}
use Rattle.rip_eval_rows.specs.declared.close.Close.{Close}
use Rattle.rip_eval_rows.specs.declared.close.Close.TheVariants.{Fine, Stopped}
use Rattle.rip_eval_rows.specs.declared.completion.Stop.{Stop}
use Rattle.rip_app.specs.App.{Loaded}
use Rattle.rip_wire.specs.Batches.{Contents}
use Rattle.rip_history.specs.Services.{Called, RepliesAs, Service, service_of}
use Rattle.rip_host.specs.declared.browser.Browser.{Browser}
use Rattle.rip_replica.specs.Parts.{Doing}
use Rattle.rip_trace.specs.Said.{opening_lines}
use Rattle.rip_session.specs.Application.{doing_of}
use Rattle.rip_store.specs.declared.store.Store.{Store}
use Rattle.rip_session.specs.Tasks.{Task, reports}
use Rattle.rip_client.specs.declared.whole.play.Over.{Over as Outcome}
use Rattle.rip_client.specs.Truth.{Playing}
use Rattle.rip_law_served.specs.Honest.{next_in}
use Rattle.rip_trace.specs.declared.gestures.LinedGesture.{LinedGesture}
use Rattle.rip_drive.specs.Actors.{IsBegun, IsOpened, OpensPage, Replicas, Sits, page_session, seat_of}
use Rattle.rip_drive.specs.Drivers.{IsDriven, IsOpenedAndDriven, IsOpenedAndRefused, IsRefused}
use Rattle.rip_drive.specs.Drivers as drivers
use Rattle.rip_drive.specs.Driving.{Drives, DrivesApp, DrivesSession, End, IsRefusal, IsTrace, Opens, batch_lines, driven, end_lines, refused, stopped}
use Rattle.rip_drive.specs.Driving as driving
use Rattle.rip_drive.specs.declared.driver.DriveRefusal.{DriveRefusal}
use Rattle.rip_drive.specs.declared.driver.DriveRefusal.TheVariants as refusal
use Rattle.rip_drive.specs.declared.page_actor.PageActor.{PageActor}
use Rattle.rip_drive.proofs.Played.{follows}
use Rattle.rip_drive.proofs.Simulation.{Follows, gesture_carried}

-- what gestures come to in the one session they come to in the other
drives_carried : {A G B K : Type 0} (x : Playing A G) (y : Playing B K) (seen : A → B) (R : A → G → K → Type 0) → Follows x y seen R
    → (gestures : List LinedGesture) (a : A) (g : G) (k : K) (number : ℕ) (waiting : List ℕ) (batches : List Contents) (end : End)
    → Drives x gestures a g number waiting batches end → R a g k → Drives y gestures (seen a) k number waiting batches end
drives_carried x y seen R follows gestures a g k number waiting batches end (driving.none _ _ _ _) r = driving.none (seen a) k number waiting
drives_carried x y seen R follows gestures a g k number waiting batches end (driving.told lined others _ b _ h _ next _ waits first more _ t drives) r =
    let there = gesture_carried x y seen R follows lined.gesture a b g h k number next waiting waits Fine first t r in
    driving.told lined others (seen a) (seen b) k there.0 number next waiting waits first more end there.1 (drives_carried x y seen R follows others b h there.0 next waits more end drives there.2)
drives_carried x y seen R follows gestures a g k number waiting batches end (driving.stops lined others _ b _ h _ next _ waits _ item stop t) r =
    let there = gesture_carried x y seen R follows lined.gesture a b g h k number next waiting waits _ batches t r in
    driving.stops lined others (seen a) (seen b) k there.0 number next waiting waits batches item stop there.1
drives_carried x y seen R follows gestures a g k number waiting batches end (driving.refuses lined others _ b _ h _ next _ waits _ item kind t) r =
    let there = gesture_carried x y seen R follows lined.gesture a b g h k number next waiting waits _ batches t r in
    driving.refuses lined others (seen a) (seen b) k there.0 number next waiting waits batches item kind there.1

-- a session that was opened fine and is driven
session_driven : (d : Doing Task Browser) (service : Service) (over : Outcome) (a : PageActor) (g : Store) (gestures : List LinedGesture) (batches : List Contents) (end : End)
    → IsOpened a.app d over a.session.replica g service → over.close ≡ Fine → Drives page_session gestures a g 1 [] batches end → DrivesSession d reports next_in service gestures batches end
session_driven d service over a g gestures batches end opened fine drives =
    let r = a.session.replica in
    let y = driven d reports next_in service in
    let opens = subst (λ (c : Close). Opens d (record { close = c; fuel = over.fuel }) r.heap r.host) fine opened.opens in
    let there = drives_carried page_session y (λ (b : PageActor). seat_of b.session.replica) (λ (b : PageActor) (h : Store) (calls : List Called). Sits b.app d b.session.replica × RepliesAs h service calls) (follows d service)
    gestures a g [] 1 [] batches end drives (opened.sits, opened.replies) in
    let batch = subst (λ n. Drives y gestures (record { world = r.heap; page = r.host; batch = n; count = r.runner.planner.begun }) [] 1 [] batches end) opened.number there in
    let count = subst (λ n. Drives y gestures (record { world = r.heap; page = r.host; batch = 0; count = n }) [] 1 [] batches end) opened.begun batch in
    driving.goes_on over.fuel r.heap r.host batches end opens count

trace_driven : (app : Loaded) (over : Outcome) (a : PageActor) (g : Store) (gestures : List LinedGesture) (old text : List ℕ)
    → IsOpened a.app (doing_of app 3 0) over a.session.replica g (service_of app.manifest.functions) → over.close ≡ Fine → old ≡ opening_lines 0
    → IsDriven page_session a g gestures old text → IsTrace app gestures text
unfolding DrivesApp
trace_driven app over a g gestures old text opened fine opening is = record {
  batches = is.batches;
  end = is.end;
  drives = session_driven (doing_of app 3 0) (service_of app.manifest.functions) over a g gestures is.batches is.end opened fine is.drives;
  legal = is.legal;
  is = is.is ∙ ap (λ t. t ++ (batch_lines is.batches ++ end_lines is.end)) opening;
}

refusal_driven : (app : Loaded) (over : Outcome) (a : PageActor) (g : Store) (gestures : List LinedGesture) (r : DriveRefusal)
    → IsOpened a.app (doing_of app 3 0) over a.session.replica g (service_of app.manifest.functions) → over.close ≡ Fine
    → IsRefused page_session a g gestures r → IsRefusal app gestures r
unfolding DrivesApp
refusal_driven app over a g gestures (refusal.Line n) opened fine is =
    (is.0, session_driven (doing_of app 3 0) (service_of app.manifest.functions) over a g gestures is.0 (refused n) opened fine is.1)
refusal_driven app over a g gestures refusal.Memory opened fine is = tt

-- a session that a limit or a fault ended in its opening
trace_stopped : (app made : Loaded) (over : Outcome) (r : Replicas) (g : Store) (gestures : List LinedGesture) (item : ℕ) (stop : Stop) (old text : List ℕ)
    → IsOpened made (doing_of app 3 0) over r g (service_of app.manifest.functions) → over.close ≡ Stopped item stop → old ≡ opening_lines 0
    → text ≡ old ++ end_lines (stopped stop 0) → IsTrace app gestures text
unfolding DrivesApp
trace_stopped app made over r g gestures item stop old text opened stops opening is = record {
  batches = [];
  end = stopped stop 0;
  drives = driving.stops over.fuel r.heap r.host item stop (subst (λ (c : Close). Opens (doing_of app 3 0) (record { close = c; fuel = over.fuel }) r.heap r.host) stops opened.opens);
  legal = tt;
  is = is ∙ ap (λ t. t ++ end_lines (stopped stop 0)) opening;
}

-- the session of an application that was opened and driven
pub trace_of : (app : Loaded) (a : PageActor) (g : Store) (gestures : List LinedGesture) (text : List ℕ)
    → IsBegun a.app (doing_of app 3 0) a.session.replica → RepliesAs g (service_of app.manifest.functions) []
    → IsOpenedAndDriven page_session OpensPage a g gestures text → IsTrace app gestures text
trace_of app a g gestures text begun replies (drivers.goes_on over b h opens fine is) =
    trace_driven app over b h gestures (opening_lines 0) text (opens (doing_of app 3 0) (service_of app.manifest.functions) begun replies) fine refl is
trace_of app a g gestures text begun replies (drivers.stops over b h item stop opens stops is) =
    trace_stopped app b.app over b.session.replica h gestures item stop (opening_lines 0) text (opens (doing_of app 3 0) (service_of app.manifest.functions) begun replies) stops refl is

pub refusal_of : (app : Loaded) (a : PageActor) (g : Store) (gestures : List LinedGesture) (why : DriveRefusal)
    → IsBegun a.app (doing_of app 3 0) a.session.replica → RepliesAs g (service_of app.manifest.functions) []
    → IsOpenedAndRefused page_session OpensPage a g gestures why → IsRefusal app gestures why
refusal_of app a g gestures (refusal.Line n) begun replies is =
    refusal_driven app is.0 is.1 is.2 gestures (refusal.Line n) (is.3 (doing_of app 3 0) (service_of app.manifest.functions) begun replies) is.4 is.5
refusal_of app a g gestures refusal.Memory begun replies is = tt

-- what holds of a refusal where another fact makes it so
pub on-err : {A E : Type 0} {P Q : E → Type 0} (r : Result A E) → ((e : E) → P e → Q e) → IfErr r P → IfErr r Q
on-err (Ok x) f h = h
on-err (Err e) f h = f e h
