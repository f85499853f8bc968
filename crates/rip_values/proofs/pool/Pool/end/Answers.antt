use Rattle.std.proofs.Common.{arith}
use Rattle.rip_values.proofs.FixedTableLemmas.{length-fixed_units}
use Rattle.rip_values.proofs.PoolLemmas.{fixed_length}
use Rattle.rip_values.proofs.pool.Pool.end.Goals as goal

pub returns-clause-fixed : goal.returns-clause-fixed
returns-clause-fixed c = omega (arith, length-fixed_units, fixed_length c.self.inside.units.items c.self.invariant.begins, c.len.ensures)
