use Rattle.std.proofs.Common.{◌≡◌, ◌+◌, length}
use Rattle.rip_http.specs.Heads.{blank}
use Rattle.rip_http.proofs.head.count_blank.Given as goal

abbrev pub invariant-loop-left : goal.invariant-loop-left
invariant-loop-left l = blank l.fn.bytes + length l.left ≡ blank l.left + length l.fn.bytes

abbrev pub decreases-loop-left : goal.decreases-loop-left
decreases-loop-left l = length l.left
