use Rattle.std.proofs.Common.{◌≡◌, length}
use Rattle.std.specs.Prelude.{drop}
use Rattle.rip_events.specs.Flow.{next_arrival}
use Rattle.rip_events.proofs.calls.arrival.Given as goal

abbrev pub invariant-loop-i : goal.invariant-loop-i
invariant-loop-i l =
    (l.count ≡ length l.all.registered)
    × (next_arrival l.pool l.kind l.all (drop l.from l.stations.items) ≡ next_arrival l.pool l.kind l.all (drop l.i l.stations.items))
