-- How open parts nest: each has less depth left than the one around it.
use Rattle.std.specs.Prelude.{ℕ, ◌-◌, ◌<◌, ◌≤◌, List, [], ◌∷◌, length}
use Rattle.rip_eval_rows.specs.declared.next.Control.{Control}
use Rattle.rip_eval_rows.specs.declared.next.Control.TheVariants.{Enter, Give, Halted}
use Rattle.rip_eval_rows.specs.Stack.{Open}

-- the part of the outermost frame has some room, and no more than this; that of each frame further in has one less
abbrev pub AreNested : ℕ → List Open → Type 0
AreNested room [] = Unit {0}
AreNested room (o ∷ os) = (0 < o.frame.at.room) × (o.frame.at.room ≤ room) × AreNested (room - 1) os

-- a run that has room for so many frames: those that are open are nested, and a part that is about to be entered has no
-- more room than frames are left to be put on
abbrev pub IsInside : ℕ → Control → List Open → Type 0
IsInside most (Enter part) frames = AreNested most frames × (part.room ≤ most - length frames)
IsInside most (Give c) frames = AreNested most frames
IsInside most (Halted stop room) frames = AreNested most frames
