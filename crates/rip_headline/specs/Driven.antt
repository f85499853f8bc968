-- That the batches that gestures make are those of an honest client, and are served.
use Rattle.std.specs.Prelude.{◌≡◌, ℕ, false, List, [], ◌∷◌, ◌++◌, map, take}
use Rattle.std.specs.List.{flat_map}
use Rattle.rip_heap.specs.World.{World}
use Rattle.rip_host.specs.declared.browser.Browser.{Browser}
use Rattle.rip_eval_rows.specs.declared.close.Close.TheVariants.{Stopped}
use Rattle.rip_eval_rows.specs.declared.completion.Stop.{Stop}
use Rattle.rip_app.specs.App.{Loaded}
use Rattle.rip_wire.specs.Batches.{Contents}
use Rattle.rip_wire.specs.Items.{Reported, event, call, reply}
use Rattle.rip_wire.specs.declared.gesture.Gesture.{Gesture}
use Rattle.rip_history.specs.Parts.{Given}
use Rattle.rip_history.specs.Services.{Called, Service, service_of}
use Rattle.rip_replica.specs.Serving.{given_to}
use Rattle.rip_session.specs.Application.{doing_of, meaning_of_app}
use Rattle.rip_law_replica.specs.Truthful.{has_lie}
use Rattle.rip_law_served.specs.Honest.{IsReportOf}
use Rattle.rip_trace.specs.declared.gestures.LinedGesture.{LinedGesture}
use Rattle.rip_drive.specs.Driving.{AreLegal, DrivesApp, End, Opens}

-- the call that an item reports, if it reports one
abbrev pub call_in : Reported → List Called
call_in (event kind node text place) = []
call_in (call number name args) = (name, args) ∷ []
call_in (reply number) = []

abbrev pub calls_in : List Reported → List Called
calls_in items = flat_map call_in items

-- the calls that batches report, in order
abbrev pub calls_of : List Contents → List Called
calls_of batches = flat_map (λ (b : Contents). calls_in b.items) batches

-- what a service replies to calls, one after another, at moment 0, where it was called for those before
abbrev pub replies_of : Service → List Called → List Called → List Given
replies_of service before [] = []
replies_of service before (c ∷ calls) = given_to service before 0 c.0 c.1 ∷ replies_of service (before ++ c ∷ []) calls

abbrev pub gestures_of : List LinedGesture → List Gesture
gestures_of gestures = map (λ (l : LinedGesture). l.gesture) gestures

-- these batches are those that an honest client of an application tells of the gestures, from seed 3 and at moment 0, where its
-- calls are given the replies of the application's functions; or there are none, where a limit or a fault ended the session
-- in its opening
pub data IsToldWhole (app : Loaded) (gestures : List LinedGesture) (batches : List Contents) : Type 0 where
  client : IsReportOf app 3 0 (gestures_of gestures) (replies_of (service_of app.manifest.functions) [] (calls_of batches)) batches → IsToldWhole app gestures batches
  silent : (fuel : ℕ) (world : World) (page : Browser) (item : ℕ) (stop : Stop)
      → Opens (doing_of app 3 0) (record { close = Stopped item stop; fuel = fuel }) world page → batches ≡ [] → IsToldWhole app gestures batches

-- the batches that gestures make are those of an honest client
abbrev pub DrivenAreTold : Type 0
DrivenAreTold =
    (app : Loaded) (gestures : List LinedGesture) (batches : List Contents) (end : End)
    → DrivesApp app gestures batches end → AreLegal end → IsToldWhole app gestures batches

-- the session of an application, from seed 3 and at moment 0, that is given any front of the batches which gestures make, and
-- the replies of its functions to the calls in them, is ended by no mismatch and by no bad report
abbrev pub DrivenAreServed : Type 0
DrivenAreServed =
    (app : Loaded) (gestures : List LinedGesture) (batches : List Contents) (end : End)
    → DrivesApp app gestures batches end → AreLegal end
    → (k : ℕ) → has_lie (meaning_of_app app 3 0 (take k batches) (replies_of (service_of app.manifest.functions) [] (calls_of batches))) ≡ false
