use Rattle.std.proofs.Common.{◌≡◌, ℕ, ◌<◌, slice_get, slice_index, Some}
use Rattle.rip_calls.proofs.lines.begins_with_line.Given as goal

abbrev pub invariant-loop-place : goal.invariant-loop-place
invariant-loop-place l = (k : ℕ) → k < l.place → slice_get l.bytes.items k ≡ Some (slice_index l.text k)
