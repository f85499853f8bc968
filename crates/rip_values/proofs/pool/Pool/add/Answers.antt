use Rattle.std.proofs.Common.{◌≡◌, ◌++◌, arith, rules}
use Rattle.rip_values.proofs.PoolLemmas.{IsPool-more}
use Rattle.rip_values.proofs.pool.Pool.add.Goals as goal

pub invariant_of-self : goal.invariant_of-self
invariant_of-self c =
    let more : c.extend_from_slice.new.self.items ≡ c.self.inside.units.items ++ c.args.text.now = search rules in
    IsPool-more c.self.inside.units.items c.args.text.now c.extend_from_slice.new.self.items _ c.self.inside.limit _ more c.self.invariant.begins
    (omega arith)
    (omega (arith, c.extend_from_slice.ensures.capacity))
    (omega arith)
