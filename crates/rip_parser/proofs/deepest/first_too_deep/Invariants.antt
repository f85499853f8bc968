use Rattle.std.proofs.Common.{◌≡◌, [], reverse, None}
use Rattle.rip_parser.specs.Search.{search}
use Rattle.rip_parser.proofs.deepest.first_too_deep.Given as goal

abbrev pub invariant-loop-event : goal.invariant-loop-event
invariant-loop-event l = search (reverse l.event-iterator.iter.rest.now) l.finder ≡ search (reverse l.events) (record { first = None; around = [] })
