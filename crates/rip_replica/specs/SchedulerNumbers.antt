-- A number of the host that neither runs nor plans change.
use Rattle.std.specs.Prelude.{◌≡◌, ℕ}
use Rattle.rip_heap.specs.World.{World}
use Rattle.rip_eval_rows.specs.Evaluation.{Evaluation, Reached, Passes, Breaks, Pauses}
use Rattle.rip_eval_rows.specs.Plan.{Plan, Over, Takes, Awaits, Runs}
use Rattle.rip_replica.specs.declared.scheduler.runner.Moved.{Moved}
use Rattle.rip_replica.specs.declared.scheduler.runner.Moved.TheVariants.{On, Rests as Stays}
use Rattle.rip_replica.specs.declared.scheduler.runner.Rested.{Rested}
use Rattle.rip_replica.specs.declared.scheduler.runner.Rested.TheVariants.{Busy, Awaits as Waits, Finished, Unplanned, Unrun}

-- the host where a run stands
abbrev pub host_reached : {S : Type 0} → Reached S → S
host_reached (Passes u w s) = s
host_reached (Breaks stop u w s) = s
host_reached (Pauses open_depth w s) = s

-- the host from which the first step of a plan goes on
abbrev pub host_begun : {S : Type 0} → Plan S → S
host_begun (Over close w s) = s
host_begun (Takes w s plan) = s
host_begun (Awaits w s go) = s
host_begun (Runs item start w s go) = s

-- no run that stands changes this number of the host, however far it goes on, and no step of what a planner means
pub record KeepsNumber {M P S : Type 0} (e : Evaluation M S) (plan : P → World → S → Plan S) (number : S → ℕ) : Type 0 where
  pub runs : (m : M) (w : World) (s : S) (k : ℕ) → number (host_reached (e.left m w s k)) ≡ number s
  pub steps : (p : P) (w : World) (s : S) → number (host_begun (plan p w s)) ≡ number s

-- it is as it was; of a run that wanted memory nothing is said
abbrev pub HasNumber : Rested → ℕ → ℕ → Type 0
HasNumber Busy old new = new ≡ old
HasNumber (Waits u) old new = new ≡ old
HasNumber (Finished close u) old new = new ≡ old
HasNumber (Unplanned u) old new = new ≡ old
HasNumber (Unrun item) old new = Unit {0}

-- the same of one turn
abbrev pub HasNumberSo : Moved → ℕ → ℕ → Type 0
HasNumberSo (On u) old new = new ≡ old
HasNumberSo (Stays rested) old new = HasNumber rested old new
