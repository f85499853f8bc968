use Rattle.std.proofs.Common.{◌≡◌, length, vec_capacity, ◌+◌}
use Rattle.rip_events.specs.Chained.{AreSameEnds}
use Rattle.rip_events.proofs.listeners.reach.Given as goal

abbrev pub invariant-loop-i : goal.invariant-loop-i
invariant-loop-i l =
    (l._i-end ≡ l.node + 1)
    × (l._i ≡ length l.ends.items)
    × (vec_capacity l.ends ≡ vec_capacity l.fn.ends)
    × AreSameEnds l.fn.ends.items l.ends.items
