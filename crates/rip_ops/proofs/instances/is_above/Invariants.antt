use Rattle.std.proofs.Common.{◌≡◌, ℕ, ◌≤◌}
use Rattle.rip_ops.specs.Instances.{is_within, is_above}
use Rattle.rip_ops.proofs.instances.is_above.Given as goal

abbrev pub invariant-loop-up : goal.invariant-loop-up
invariant-loop-up l = (k : ℕ) × (l.at ≤ k) × (is_above l.heap l.object l.prototype ≡ is_within k l.heap l.at l.prototype)

abbrev pub decreases-loop-up : goal.decreases-loop-up
decreases-loop-up l = l.at
