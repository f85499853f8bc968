-- Honest clients of an application.
use Rattle.std.specs.Prelude.{◌≡◌, ℕ, ◌+◌, false, nat_lt, if◌then◌else◌, List, take, Option, None, option_map, is_some}
use Rattle.rip_app.specs.App.{Loaded}
use Rattle.rip_calls.specs.Calls.{front_callback, front_text}
use Rattle.rip_host.specs.declared.browser.Browser.{Browser}
use Rattle.rip_wire.specs.Batches.{Contents}
use Rattle.rip_wire.specs.declared.gesture.Gesture.{Gesture}
use Rattle.rip_history.specs.Parts.{Given}
use Rattle.rip_session.specs.Tasks.{reports}
use Rattle.rip_session.specs.Application.{doing_of, meaning_of_app}
use Rattle.rip_client.specs.Truth.{Waiting}
use Rattle.rip_law_replica.specs.Truthful.{IsDueReport, IsReport, has_lie}

-- the call that is to be reported next: the first of those that the script made and that were not reported; the calls behind
-- the number 2^64 - 1 have no number of their own
abbrev pub next_in : Browser → Option Waiting
next_in s =
    if nat_lt s.calls.taken 18446744073709551615
    then option_map (λ text. record { number = s.calls.taken + 1; text = text; calls_back = is_some (front_callback s.calls) }) (front_text s.calls)
    else None

-- the batches that an honest client tells of these gestures, in a session of the application with this seed and time that is
-- given this
abbrev pub IsReportOf : Loaded → ℕ → ℕ → List Gesture → List Given → List Contents → Type 0
IsReportOf app seed time gestures given batches = IsReport (doing_of app seed time) reports next_in gestures given batches

-- and each reply is due where it is told
abbrev pub IsDueReportOf : Loaded → ℕ → ℕ → List Gesture → List Given → List Contents → Type 0
IsDueReportOf app seed time gestures given batches = IsDueReport (doing_of app seed time) reports next_in gestures given batches

-- such a session, given any front of these batches where each reply is due, is ended by no mismatch and by no bad report
abbrev pub HonestAreServed : Type 0
HonestAreServed =
    (app : Loaded) (seed time : ℕ) (gestures : List Gesture) (given : List Given) (batches : List Contents)
    → IsDueReportOf app seed time gestures given batches
    → (k : ℕ) → has_lie (meaning_of_app app seed time (take k batches) given) ≡ false
