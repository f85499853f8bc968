use Rattle.std.proofs.Common.{◌≡◌, ℕ, ◌-◌, length}
use Rattle.std.specs.Prelude.{vec_capacity}
use Rattle.rip_convert.specs.Written.{mark_of}
use Rattle.rip_convert.proofs.marks.Marks.clear.Given as goal

-- those that stand are none
abbrev pub invariant-loop-self : goal.invariant-loop-self
invariant-loop-self l = (n : ℕ) → mark_of l.self-inside.levels.items n ≡ 0

abbrev pub decreases-loop-self : goal.decreases-loop-self
decreases-loop-self l = vec_capacity l.self-inside.levels - length l.self-inside.levels.items
