use Rattle.std.proofs.Common.{◌≢◌, ℕ, ◌<◌, get_or}
use Rattle.rip_trace.proofs.text.split_space.Given as goal

-- no byte that was passed is a space
abbrev pub invariant-loop-at : goal.invariant-loop-at
invariant-loop-at l = (k : ℕ) → k < l.at → get_or l.bytes k 0 ≢ 32
