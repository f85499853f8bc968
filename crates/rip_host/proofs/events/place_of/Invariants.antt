use Rattle.std.proofs.Common.{◌-◌}
use Rattle.rip_host.proofs.EventLemmas.{IsBetween}
use Rattle.rip_host.proofs.events.place_of.Given as goal

abbrev pub invariant-loop-low : goal.invariant-loop-low
invariant-loop-low l = IsBetween l.events.items l.object l.low l.high

abbrev pub decreases-loop-low : goal.decreases-loop-low
decreases-loop-low l = l.high - l.low
