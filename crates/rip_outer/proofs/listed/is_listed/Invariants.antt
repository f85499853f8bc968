use Rattle.std.proofs.Common.{◌≡◌, ℕ, ◌+◌, ◌<◌, get_or}
use Rattle.rip_outer.proofs.listed.is_listed.Given as goal

-- no number that was passed is that of the next call
abbrev pub invariant-loop-number : goal.invariant-loop-number
invariant-loop-number l = (k : ℕ) → k < l.number-index → get_or l.number-items k 0 ≡ l.calls + 1 → ⊥
