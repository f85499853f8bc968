use Rattle.std.specs.Prelude.{◌≤◌}
use Rattle.rip_base.specs.declared.limits.Limits.{Limits}

-- each limit is from 1 to its greatest
pub record AreInRange (limits greatest : Limits) : Type 0 where
  pub fuel : (1 ≤ limits.fuel) × (limits.fuel ≤ greatest.fuel)
  pub cells : (1 ≤ limits.cells) × (limits.cells ≤ greatest.cells)
  pub units : (1 ≤ limits.units) × (limits.units ≤ greatest.units)
  pub nodes : (1 ≤ limits.nodes) × (limits.nodes ≤ greatest.nodes)
  pub depth : (1 ≤ limits.depth) × (limits.depth ≤ greatest.depth)
  pub queue : (1 ≤ limits.queue) × (limits.queue ≤ greatest.queue)
  pub sessions : (1 ≤ limits.sessions) × (limits.sessions ≤ greatest.sessions)
