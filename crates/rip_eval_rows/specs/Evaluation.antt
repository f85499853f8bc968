-- What a plan sees of an evaluator: where its runs stand after so many units.
use Rattle.std.specs.Prelude.{◌≡◌, ℕ, ◌+◌, ◌-◌, ◌≤◌, min, Result, Ok, Err}
use Rattle.rip_base.specs.declared.value.Refused.{Refused}
use Rattle.rip_base.specs.declared.value.Refused.TheVariants.{Limit as At, Memory as NoRoom}
use Rattle.rip_heap.specs.World.{World}
use Rattle.rip_eval_rows.specs.declared.completion.Stop.{Stop}
use Rattle.rip_eval_rows.specs.declared.completion.Stop.TheVariants.{Limit as AtLimit}
use Rattle.rip_eval_rows.specs.declared.evaluator.Advance.{Advance}
use Rattle.rip_eval_rows.specs.declared.evaluator.Advance.TheVariants.{Paused, Passed, Broken, Memory}
use Rattle.rip_eval_rows.specs.Run.{Answer, Completes, Stops, Cuts}
use Rattle.rip_eval_rows.specs.Started.{Started}

-- where a run stands after some units: it has completed, in whatever way, or has met a fault or a limit, each with the
-- units that it did not need; or it is cut, with so much of the depth open
pub data Reached (S : Type 0) : Type 0 where
  Passes : ℕ → World → S → Reached S
  Breaks : Stop → ℕ → World → S → Reached S
  Pauses : ℕ → World → S → Reached S

-- the same of an answer, where the depth is at most this
abbrev pub reached : {S : Type 0} → ℕ → Answer S → Reached S
reached depth (Completes c u w s) = Passes u w s
reached depth (Stops stop room u w s) = Breaks stop u w s
reached depth (Cuts room w s) = Pauses (depth - room) w s

-- what runs mean, where M is the evaluator's type and S the host's
pub record Evaluation (M S : Type 0) : Type 0 where
  -- where the run of a start stands, from this world and this host on, with so much fuel, after so many units
  pub run : M → Started → World → S → ℕ → ℕ → Reached S
  -- where the run that goes on stands after so many units more
  pub left : M → World → S → ℕ → Reached S
  -- the fuel that is left to it, and how much of the depth is open
  pub fuel : M → ℕ
  pub in_use : M → ℕ

-- what the beginning of a run leaves: what is left is that run, for every host; or, exactly where the beginning itself would
-- pass a limit, that run has stopped before its first unit, and the world is as it was; or, where memory is wanting, all is as
-- it was
abbrev pub Begins : {M S : Type 0} → Evaluation M S → Started → ℕ → M → World → M → World → Result (Unit {0}) Refused → Type 0
Begins e start fuel m w m' w' (Ok done) =
    ((s : _) (k : ℕ) → e.left m' w' s k ≡ e.run m start w s fuel k) × (e.fuel m' ≡ fuel)
Begins e start fuel m w m' w' (Err (At limit)) =
    ((s : _) (k : ℕ) → e.run m start w s fuel k ≡ Breaks (AtLimit limit) (min k fuel) w s) × (w' ≡ w)
Begins e start fuel m w m' w' (Err NoRoom) = (w' ≡ w) × (m' ≡ m)

-- what n units of a run leave: it is cut after exactly these, and what is left is what was left, later; or it has come to
-- its end with so many of them, and with more units it ends alike, and needs none of them. Of want of memory nothing is said
abbrev pub Advances : {M S : Type 0} → Evaluation M S → ℕ → M → World → S → M → World → S → Advance → Type 0
Advances e n m w s m' w' s' Paused =
    (e.left m w s n ≡ Pauses (e.in_use m') w' s')
    × ((k : ℕ) → e.left m' w' s' k ≡ e.left m w s (n + k))
    × (e.fuel m' + n ≡ e.fuel m)
Advances e n m w s m' w' s' (Passed used) =
    ((k : ℕ) → e.left m w s (n + k) ≡ Passes (min (n + k) (e.fuel m) - used) w' s') × (used ≤ min n (e.fuel m))
Advances e n m w s m' w' s' (Broken stop used) =
    ((k : ℕ) → e.left m w s (n + k) ≡ Breaks stop (min (n + k) (e.fuel m) - used) w' s') × (used ≤ min n (e.fuel m))
Advances e n m w s m' w' s' Memory = Unit {0}

-- a run that has come to its end stands there also with so many units more, and needs none of them
abbrev pub IsLater : {S : Type 0} → ℕ → Reached S → Reached S → Type 0
IsLater more (Passes u w s) later = later ≡ Passes (u + more) w s
IsLater more (Breaks stop u w s) later = later ≡ Breaks stop (u + more) w s
IsLater more (Pauses open_depth w s) later = Unit {0}

-- the run is not cut
abbrev pub IsEnded : {S : Type 0} → Reached S → Type 0
IsEnded (Passes u w s) = Unit {0}
IsEnded (Breaks stop u w s) = Unit {0}
IsEnded (Pauses open_depth w s) = ⊥

-- more units change no run that has come to its end; units past the fuel are none
abbrev pub RunsOnce : {M S : Type 0} → Evaluation M S → M → Type 0
RunsOnce e m = (start : Started) (w : World) (s : _) (fuel u k : ℕ) →
    IsLater (min (u + k) fuel - min u fuel) (e.run m start w s fuel u) (e.run m start w s fuel (u + k))

-- a run is cut only where units are wanting for its fuel
abbrev pub EndsByFuel : {M S : Type 0} → Evaluation M S → M → Type 0
EndsByFuel e m = (start : Started) (w : World) (s : _) (fuel u : ℕ) → fuel ≤ u → IsEnded (e.run m start w s fuel u)
