-- How deep runs nest.
use Rattle.std.specs.Prelude.{ℕ, ◌≤◌, None, Some}
use Rattle.rip_heap.specs.World.{World}
use Rattle.rip_eval_rows.specs.Evaluation.{Reached, Passes, Breaks, Pauses}
use Rattle.rip_eval_rows.specs.Started.{Started}
use Rattle.rip_history.specs.declared.sessions.Progress.{Progress}
use Rattle.rip_history.specs.declared.sessions.Progress.TheVariants.{Busy, Finished}

-- where a run is cut, so much of the depth is open at most
abbrev pub PausesWithin : {S : Type 0} → ℕ → Reached S → Type 0
PausesWithin most (Passes u w s) = Unit {0}
PausesWithin most (Breaks stop u w s) = Unit {0}
PausesWithin most (Pauses depth w s) = depth ≤ most

-- so it is of each run
abbrev pub NestsWithin : {S : Type 0} → ℕ → (Started → World → S → ℕ → ℕ → Reached S) → Type 0
NestsWithin most run = (start : Started) (w : World) (s : _) (fuel u : ℕ) → PausesWithin most (run start w s fuel u)

-- no more is open after a slice, where the session lives
abbrev pub IsWithinSo : Progress → ℕ → ℕ → Type 0
IsWithinSo Busy depth most = depth ≤ most
IsWithinSo (Finished None) depth most = depth ≤ most
IsWithinSo (Finished (Some how)) depth most = Unit {0}
