use Rattle.std.proofs.Common.{◌-◌}
use Rattle.rip_convert.specs.Written.{IsBetween}
use Rattle.rip_convert.proofs.order.search.Given as goal

-- the place is between the two
abbrev pub invariant-loop-low : goal.invariant-loop-low
invariant-loop-low l = IsBetween l.heap.pool l.fields.properties l.fields.places l.base l.place l.low l.high

abbrev pub decreases-loop-low : goal.decreases-loop-low
decreases-loop-low l = l.high - l.low
