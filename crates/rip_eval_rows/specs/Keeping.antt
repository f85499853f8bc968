-- What each run keeps.
use Rattle.std.specs.Prelude.{◌≡◌, ℕ, ◌+◌, ◌<◌, ◌^◌, List}
use Rattle.rip_eval_rows.specs.declared.next.Control.{Control}
use Rattle.rip_eval_rows.specs.Stack.{Open}
use Rattle.rip_eval_rows.specs.Nesting.{IsInside}

-- the units counted and those of the fuel that is left fit 64 bits, and the depth and one more 32; so many frames have
-- room, and the run stays inside; and one value has room beside a frame
pub record IsRun (fuel spent depth most room : ℕ) (control : Control) (frames : List Open) : Type 0 where
  pub counted : spent + fuel < 2 ^ 64
  pub numbered : depth + 1 < 2 ^ 32
  pub reserved : most ≡ depth + 1
  pub inside : IsInside (depth + 1) control frames
  pub some : 0 < room
