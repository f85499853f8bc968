use Rattle.std.proofs.Common.{◌≡◌, length}
use Rattle.rip_events.specs.Listed.{first_typed, fits_typed}
use Rattle.rip_events.proofs.Chains.{rest, IsAhead}
use Rattle.rip_events.proofs.listeners.Listeners.first_typed.Given as goal

abbrev pub invariant-loop-i : goal.invariant-loop-i
invariant-loop-i l =
    (l._i-end ≡ length l.self.registered)
    × (first_typed l.pool l.wanted l.text l.from l.until l.self ≡ rest l.until (fits_typed l.pool l.wanted l.text l.self) l.at)
    × IsAhead l.self.registered l.wanted.node l._i l.at
