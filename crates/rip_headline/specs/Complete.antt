-- Honest clients of an application: their replies are due, their batches are admitted and answered, and no lie ends them.
use Rattle.std.specs.Prelude.{◌≡◌, ◌≢◌, ℕ, false, List, take, Some}
use Rattle.rip_app.specs.App.{Loaded}
use Rattle.rip_wire.specs.Batches.{Contents}
use Rattle.rip_wire.specs.declared.ending.Reason.{Reason}
use Rattle.rip_wire.specs.declared.ending.Reason.TheVariants.{Mismatch, Report}
use Rattle.rip_wire.specs.declared.gesture.Gesture.{Gesture}
use Rattle.rip_history.specs.Parts.{Given}
use Rattle.rip_history.specs.Run.{Site, first_state, Coming}
use Rattle.rip_history.specs.Runs.{AreTurns}
use Rattle.rip_history.specs.Sessions.{IsFrontOf, given_in, opening_in}
use Rattle.rip_history.specs.Standings.{standing_of}
use Rattle.rip_history.specs.declared.standing.Standing.{Standing}
use Rattle.rip_law_history.specs.Legal.{history_of}
use Rattle.rip_law_server.specs.Paced.{IsServed, KeepsPace, batches_told, requests_of}
use Rattle.rip_session.specs.Application.{meaning_of_app}
use Rattle.rip_law_replica.specs.Truthful.{has_lie}
use Rattle.rip_law_served.specs.Honest.{IsDueReportOf, IsReportOf}

-- each reply that an honest client tells is due where it is told
abbrev pub RepliesAreDue : Type 0
RepliesAreDue =
    (app : Loaded) (seed time : ℕ) (gestures : List Gesture) (given : List Given) (batches : List Contents)
    → IsReportOf app seed time gestures given batches → IsDueReportOf app seed time gestures given batches

-- a session, given any front of these batches, is ended by no mismatch and by no bad report
abbrev pub ClientsAreServed : Type 0
ClientsAreServed =
    (app : Loaded) (seed time : ℕ) (gestures : List Gesture) (given : List Given) (batches : List Contents)
    → IsReportOf app seed time gestures given batches
    → (k : ℕ) → has_lie (meaning_of_app app seed time (take k batches) given) ≡ false

-- ---- in a run

-- a session of a run has an honest client: what is told to it are the first of the batches that such a client tells of some
-- gestures, by what the history gives it, each once the one before it is done
pub record IsTruthful (app : Loaded) (site : Site) (ts : List Coming) (n : ℕ) : Type 0 where
  pub seed : ℕ
  pub time : ℕ
  pub gestures : List Gesture
  pub batches : List Contents
  pub opening : opening_in n (history_of site ts) ≡ Some (seed, time)
  pub told : IsReportOf app seed time gestures (given_in n (history_of site ts)) batches
  pub first : IsFrontOf (batches_told n (requests_of site ts)) batches
  pub pace : KeepsPace n 0 (requests_of site ts)

-- the reason is a limit, a fault, want of memory or a close: no lie
abbrev pub IsNoLie : Reason → Type 0
IsNoLie reason = (reason ≢ Mismatch) × (reason ≢ Report)

-- its requests are met, and it ends for no lie
pub record IsComplete (site : Site) (ts : List Coming) (n : ℕ) : Type 0 where
  pub served : IsServed site ts n
  pub ends : (s : Standing) (reason : Reason) → standing_of n (history_of site ts) ≡ Some s → s.ended ≡ Some reason → IsNoLie reason

-- so it is in each run of a server of the application, after any of its turns
abbrev pub TruthfulAreComplete : Type 0
TruthfulAreComplete =
    (app : Loaded) (site : Site) (ts : List Coming) (n : ℕ) → site.meaning ≡ meaning_of_app app
    → AreTurns site 1 first_state ts → IsTruthful app site ts n → IsComplete site ts n
