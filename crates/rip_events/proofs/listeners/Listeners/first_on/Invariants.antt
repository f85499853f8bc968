use Rattle.std.proofs.Common.{◌≡◌, length, ◌-◌}
use Rattle.rip_events.specs.Listed.{first_number}
use Rattle.rip_events.specs.Chained.{is_on, first_on}
use Rattle.rip_events.proofs.listeners.Listeners.first_on.Given as goal

abbrev pub invariant-loop-n : goal.invariant-loop-n
invariant-loop-n l =
    (l.count ≡ length l.self.registered)
    × (first_on l.self.registered l.node l.from ≡ first_number (length l.self.registered - l.n) l.n (is_on l.self.registered l.node))
