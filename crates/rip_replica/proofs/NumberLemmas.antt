-- A number of the page that runs and steps keep.
use Rattle.std.proofs.Common.{◌≡◌, ◌⊎◌, ℕ, Option, None, Some, inl, inr, refl, sym, subst}
use Rattle.rip_heap.specs.World.{World}
use Rattle.rip_wire.specs.declared.ending.Ending.{Ending}
use Rattle.rip_eval_rows.specs.declared.close.Close.{Close}
use Rattle.rip_eval_rows.specs.declared.close.Close.TheVariants.{Fine, Refused, Mismatch, Stopped}
use Rattle.rip_eval_rows.specs.Evaluation.{Evaluation}
use Rattle.rip_eval_rows.specs.Plan.{Plan}
use Rattle.rip_replica.specs.SchedulerNumbers.{host_begun}
use Rattle.rip_replica.specs.SchedulerNumbers as runner
use Rattle.rip_history.specs.declared.sessions.Progress.{Progress}
use Rattle.rip_history.specs.declared.sessions.Progress.TheVariants.{Finished}
use Rattle.rip_replica.specs.declared.replica.Place.{Place}
use Rattle.rip_replica.specs.declared.replica.Place.TheVariants.{Idle}
use Rattle.rip_replica.specs.Numbers.{HasNumber, KeepsSteps, StandsIdle, StandsIdleSo}
use Rattle.rip_replica.specs.Standing.{place_behind, plan_of, planned, turn_behind}

plan_keeps : {A S : Type 0} (under : A → ℕ → World → S → Plan S) (number : S → ℕ) → ((a : A) (n : ℕ) (w : World) (s : S) → number (host_begun (under a n w s)) ≡ number s)
    → (o : Option A) (n : ℕ) (w : World) (s : S) → number (host_begun (plan_of under o n w s)) ≡ number s
plan_keeps under number keeps None n w s = refl
plan_keeps under number keeps (Some a) n w s = keeps a n w s

-- then the steps of a batch keep it
pub steps_keep : {M I A S : Type 0} (e : Evaluation M S) (under : I → A → ℕ → World → S → Plan S) (number : S → ℕ) → KeepsSteps e under number → runner.KeepsNumber e (planned under) number
steps_keep e under number keeps = record {
  runs = keeps.runs;
  steps = λ p w s. plan_keeps (under p.items) number (keeps.steps p.items) _ p.begun w s;
}

-- behind an item that closed so
pub closed_keeps : (close : Close) (u old new : ℕ) → new ≡ old → HasNumber (turn_behind close u) old new
closed_keeps Fine u old new h = h
closed_keeps (Refused item kind) u old new h = tt
closed_keeps (Mismatch item) u old new h = tt
closed_keeps (Stopped item stop) u old new h = tt

pub closed_idle : (close : Close) (u : ℕ) → StandsIdle (turn_behind close u) (place_behind close)
closed_idle Fine u = tt
closed_idle (Refused item kind) u = refl
closed_idle (Mismatch item) u = refl
closed_idle (Stopped item stop) u = refl

-- a session that has ended
pub ended_idle : (progress : Progress) (how : Ending) (place : Place) → progress ≡ Finished (Some how) → place ≡ Idle → StandsIdleSo progress place
ended_idle progress how place is idle =
    let P : Progress → Type 0 = λ p. StandsIdleSo p place in
    subst P (sym is) idle

pub either_idle : (progress : Progress) (how then : Ending) (place : Place) → (progress ≡ Finished (Some how)) ⊎ (progress ≡ Finished (Some then)) → place ≡ Idle → StandsIdleSo progress place
either_idle progress how then place (inl is) idle = ended_idle progress how place is idle
either_idle progress how then place (inr is) idle = ended_idle progress then place is idle
