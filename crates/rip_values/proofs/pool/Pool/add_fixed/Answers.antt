use Rattle.std.proofs.Common.{◌≡◌, ◌++◌, ◌∙◌, ap, length, take, arith, rules}
use Rattle.rip_values.specs.FixedTable.{fixed_size}
use Rattle.rip_values.proofs.PoolLemmas.{IsPool-more}
use Rattle.rip_values.proofs.pool.Pool.add_fixed.Goals as goal

pub invariant_of-self-2 : goal.invariant_of-self-2
invariant_of-self-2 c =
    let more : c.extend_from_slice.new.self.items ≡ c.self.inside.units.items ++ c.args.text.now = search rules in
    IsPool-more c.self.inside.units.items c.args.text.now c.extend_from_slice.new.self.items _ c.self.inside.limit _ more c.self.invariant.begins
    (omega arith)
    (omega (arith, c.extend_from_slice.ensures.capacity, c.in_ok-reserve_more.ensures.room))
    (omega arith)

pub invariant_of-self : goal.invariant_of-self
invariant_of-self c =
    let same = ap length c.reserve_more.ensures.same in record {
      begins = ap (take fixed_size) c.reserve_more.ensures.same ∙ c.self.invariant.begins;
      within = c.self.invariant.within;
      room = omega (arith, same, c.self.invariant.room, c.reserve_more.ensures.kept);
      spans = omega (arith, same, c.self.invariant.spans);
    }
