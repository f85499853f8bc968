use Rattle.std.proofs.Common.{arith}
use Rattle.rip_host.proofs.events.Events.put.Goals as goal

pub invariant_of-self : goal.invariant_of-self
invariant_of-self c = (
  c.put_at.ensures.ascending,
  omega (arith, c.put_at.ensures.count, c.self.invariant.1),
  omega (arith, c.put_at.ensures.room, c.self.invariant.2),
  c.self.invariant.3,
)
