use Rattle.std.proofs.Common.{◌≢◌, ℕ, ◌<◌, get_or}
use Rattle.rip_outer.proofs.pieces.split_first.Given as goal

-- no byte that was passed is a line feed
abbrev pub invariant-loop-place : goal.invariant-loop-place
invariant-loop-place l = (k : ℕ) → k < l.place → get_or l.bytes k 0 ≢ 10
