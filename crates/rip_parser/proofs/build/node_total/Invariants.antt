use Rattle.std.proofs.Common.{◌≡◌, ◌+◌, take, reverse}
use Rattle.rip_parser.specs.Building.{node_count}
use Rattle.rip_parser.proofs.build.node_total.Given as goal

abbrev pub invariant-loop-event : goal.invariant-loop-event
invariant-loop-event l = l.total ≡ node_count (reverse (take l.event-index l.events)) + 1
