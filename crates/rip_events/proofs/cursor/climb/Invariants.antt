use Rattle.std.proofs.Common.{◌≡◌, ◌-◌, ◌+◌, ◌++◌, length, vec_capacity}
use Rattle.rip_dom.specs.Tree.{way_up}
use Rattle.rip_events.specs.Flow.{above, in_phase}
use Rattle.rip_events.proofs.cursor.climb.Given as goal

abbrev pub invariant-loop-i : goal.invariant-loop-i
invariant-loop-i l =
    (l._i-end ≡ length l.dom.nodes)
    × (l.stations.items ++ in_phase l.phase (way_up (l._i-end - l._i) l.dom l.at) ≡ l.fn.stations.items ++ in_phase l.phase (above l.dom l.target))
    × (length l.stations.items ≡ length l.fn.stations.items + l._i)
    × (vec_capacity l.stations ≡ vec_capacity l.fn.stations)
