-- What is asked of what sessions do.
use Rattle.std.specs.Prelude.{ℕ, Bool}
use Rattle.rip_heap.specs.World.{World}
use Rattle.rip_replica.specs.Parts.{Doing}
use Rattle.rip_replica.specs.Plays.{CountsUnits, IsItemPlan, IsStill}

-- each item has a plan of the shape of what it comes to, where pages of which `may` is true may serve a call
abbrev pub HaveShapes : {A S : Type 0} → (ℕ → ℕ → Doing A S) → (S → Bool) → Type 0
HaveShapes doing may = (seed time batch : ℕ) (a : _) (n : ℕ) (w : World) (s : _)
    → IsItemPlan may ((doing seed time).fact a) ((doing seed time).plan batch a n w s)

-- and runs count their units, and calls change nothing before they are served
pub record IsSound {A S : Type 0} (doing : ℕ → ℕ → Doing A S) (may : S → Bool) : Type 0 where
  pub counts : (seed time : ℕ) → CountsUnits (doing seed time).run
  pub shapes : HaveShapes doing may
  pub still : (seed time batch : ℕ) (a : A) (n : ℕ) (w : World) (s : S) → IsStill ((doing seed time).fact a) w s ((doing seed time).plan batch a n w s)
