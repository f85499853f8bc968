use Rattle.std.proofs.Common.{ap, length, arith}
use Rattle.rip_values.proofs.FixedTableLemmas.{length-fixed_units}
use Rattle.rip_values.proofs.PoolLemmas.{IsPool-fixed}
use Rattle.rip_values.proofs.pool.Pool.of.Goals as goal

pub invariant_of-result : goal.invariant_of-result
invariant_of-result c =
    let count = ap length c.requires.fixed in
    IsPool-fixed c.args.units.items c.args.limit _ c.requires.fixed (omega (arith, count, length-fixed_units, c.requires.room))
    (omega (arith, count, length-fixed_units, c.requires.spans))
