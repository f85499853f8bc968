-- Honest clients in a history: what was admitted of what they tell ends their sessions for no lie, whatever else they asked.
use Rattle.std.specs.Prelude.{◌≡◌, ℕ, false, List, [], Some}
use Rattle.std.specs.List.{AllByRecursion}
use Rattle.rip_app.specs.App.{Loaded}
use Rattle.rip_wire.specs.Batches.{Contents}
use Rattle.rip_wire.specs.declared.gesture.Gesture.{Gesture}
use Rattle.rip_log.specs.Entries.{Recorded, opened, admitted, served, done, closed, ended}
use Rattle.rip_history.specs.Course.{IsCourse, Told, Turn}
use Rattle.rip_history.specs.Parts.{Given, finishes}
use Rattle.rip_history.specs.Run.{Coming, Site}
use Rattle.rip_history.specs.Services.{Service}
use Rattle.rip_history.specs.Sessions.{IsFrontOf, batches_in, given_in, opening_in}
use Rattle.rip_law_history.specs.Broken.{IsFrontOfRun}
use Rattle.rip_session.specs.Application.{meaning_of_app}
use Rattle.rip_law_replica.specs.Truthful.{is_lie}
use Rattle.rip_law_served.specs.Honest.{IsReportOf}

-- these batches are the first of those that an honest client tells of some gestures, in a session of the application with this seed
-- and time that is given this; or there is none, as where the session did not open fine
pub data AreFirstTold (app : Loaded) (seed time : ℕ) (given : List Given) (first : List Contents) : Type 0 where
  nothing : first ≡ [] → AreFirstTold app seed time given first
  front : (gestures : List Gesture) (batches : List Contents) → IsReportOf app seed time gestures given batches → IsFrontOf first batches
      → AreFirstTold app seed time given first

-- a session of a history has a truthful client: so it is of its batches that were admitted, from its seed and time and by what
-- the history gives it. Of what else was asked for it nothing is said: a batch that was told again, or too early, and was
-- not admitted
pub record IsTruthfulIn (app : Loaded) (history : List Recorded) (n : ℕ) : Type 0 where
  pub seed : ℕ
  pub time : ℕ
  pub opening : opening_in n history ≡ Some (seed, time)
  pub batches : AreFirstTold app seed time (given_in n history) (batches_in n history)

-- an entry does not say that the session was ended by a mismatch or by a bad report
abbrev pub HasNoLie : ℕ → Recorded → Type 0
HasNoLie n (opened turn session id seed time) = Unit {0}
HasNoLie n (admitted turn session batch) = Unit {0}
HasNoLie n (served turn session batch number name args time reply) = Unit {0}
HasNoLie n (done turn session batch how) = session ≡ n → is_lie (finishes how) ≡ false
HasNoLie n (closed turn session) = Unit {0}
HasNoLie n (ended turn status) = Unit {0}

-- so it is of each entry of a legal course of an application, whatever its other sessions do
abbrev pub TruthIsServed : Type 0
TruthIsServed =
    (app : Loaded) (service : Service) (limit : ℕ) (told : Told) (turns : List Turn) (history : List Recorded) (n : ℕ)
    → IsCourse (meaning_of_app app) service limit told turns history
    → IsTruthfulIn app history n → AllByRecursion (HasNoLie n) history

-- so it is of each entry that a run of the application put which broke off, where the client is truthful in the history of which
-- that is a front: by its last turn more may have been admitted and given than was put
abbrev pub BrokenTruthIsServed : Type 0
BrokenTruthIsServed =
    (app : Loaded) (site : Site) (ts : List Coming) (t : Coming) (put : List Recorded) (n : ℕ) → site.meaning ≡ meaning_of_app app
    → (run : IsFrontOfRun site ts t put) → IsTruthfulIn app run.next n → AllByRecursion (HasNoLie n) put
