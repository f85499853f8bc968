-- A number of the page that neither runs, nor items, nor served calls change; and how much of the depth is open.
use Rattle.std.specs.Prelude.{◌≡◌, ℕ, None, Some}
use Rattle.rip_heap.specs.World.{World}
use Rattle.rip_eval_rows.specs.Evaluation.{Evaluation}
use Rattle.rip_eval_rows.specs.Plan.{Plan}
use Rattle.rip_replica.specs.Going.{depth_in}
use Rattle.rip_replica.specs.SchedulerNumbers.{host_begun, host_reached}
use Rattle.rip_history.specs.Parts.{Given}
use Rattle.rip_history.specs.declared.sessions.Progress.{Progress}
use Rattle.rip_history.specs.declared.sessions.Progress.TheVariants as progress
use Rattle.rip_replica.specs.declared.replica.Place.{Place}
use Rattle.rip_replica.specs.declared.replica.Place.TheVariants.{First, Between, Within, Idle}
use Rattle.rip_replica.specs.declared.replica.Replica.{Replica}
use Rattle.rip_replica.specs.declared.replica.Turn.{Turn}
use Rattle.rip_replica.specs.declared.replica.Turn.TheVariants.{On, Busy, Calls, Done, Ends, Lacks}

-- no run that stands changes this number of the page, however far it goes on, and no step of an item
pub record KeepsSteps {M I A S : Type 0} (e : Evaluation M S) (under_way : I → A → ℕ → World → S → Plan S) (number : S → ℕ) : Type 0 where
  pub runs : (m : M) (w : World) (s : S) (k : ℕ) → number (host_reached (e.left m w s k)) ≡ number s
  pub steps : (items : I) (a : A) (n : ℕ) (w : World) (s : S) → number (host_begun (under_way items a n w s)) ≡ number s

-- no call that is served changes it
abbrev pub KeepsServed : {S : Type 0} → (ℕ → Given → S → S) → (S → ℕ) → Type 0
KeepsServed serve number = (batch : ℕ) (g : Given) (s : _) → number (serve batch g s) ≡ number s

-- it is as it was, where the session goes on or its batch is done
abbrev pub HasNumber : Turn → ℕ → ℕ → Type 0
HasNumber (On u) old new = new ≡ old
HasNumber Busy old new = new ≡ old
HasNumber (Calls u) old new = new ≡ old
HasNumber Done old new = new ≡ old
HasNumber (Ends close) old new = Unit {0}
HasNumber Lacks old new = Unit {0}

-- the same after a slice, where the session lives
abbrev pub HasNumberSo : Progress → ℕ → ℕ → Type 0
HasNumberSo progress.Busy old new = new ≡ old
HasNumberSo (progress.Finished None) old new = new ≡ old
HasNumberSo (progress.Finished (Some how)) old new = Unit {0}

-- a session whose batch is done, or that has ended, stands at no batch
abbrev pub StandsIdle : Turn → Place → Type 0
StandsIdle (On u) place = Unit {0}
StandsIdle Busy place = Unit {0}
StandsIdle (Calls u) place = Unit {0}
StandsIdle Done place = place ≡ Idle
StandsIdle (Ends close) place = place ≡ Idle
StandsIdle Lacks place = place ≡ Idle

-- the same after a slice
abbrev pub StandsIdleSo : Progress → Place → Type 0
StandsIdleSo progress.Busy place = Unit {0}
StandsIdleSo (progress.Finished how) place = place ≡ Idle

-- what is open at a place in a batch, where a run that stands has so much open: only within an item there is any
abbrev pub open_at : Place → ℕ → ℕ
open_at First depth = 0
open_at Between depth = 0
open_at Within depth = depth
open_at Idle depth = 0

-- how much of the depth is open in a session
abbrev pub open_of : {M I A S : Type 0} → Evaluation M S → Replica M I A S → ℕ
open_of e r = open_at r.place (depth_in e r.runner.evaluator r.runner.phase)
