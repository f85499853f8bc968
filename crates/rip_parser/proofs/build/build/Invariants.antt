use Rattle.std.proofs.Common.{Some, take, reverse}
use Rattle.rip_parser.proofs.Courses.{Builds}
use Rattle.rip_parser.proofs.build.build.Given as goal

abbrev pub invariant-loop-event : goal.invariant-loop-event
invariant-loop-event l = Builds l.script l.tokens l.total (reverse (take l.event-index l.events)) (Some l.builder)
