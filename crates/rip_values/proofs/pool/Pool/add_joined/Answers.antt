use Rattle.std.proofs.Common.{◌≡◌, ◌++◌, ◌+◌, ◌-◌, min, ap₂, sym, subst, length, arith, rules}
use Rattle.std.specs.Prelude.{slice_range}
use Rattle.rip_values.specs.Pool.{Texts, joined, with_text}
use Rattle.rip_values.proofs.PoolLemmas.{IsPool-more, joined_units, joined_length, behind_stands}
use Rattle.rip_values.proofs.pool.Pool.add_joined.Goals as goal

first_end : (c : goal.After-self-1) → c.within-first_start.result.1 ≡ min (c.args.first.start + c.args.first.count) (length c.self.inside.units.items)
first_end c = omega (arith, c.self.inside.units.ok)

second_end : (c : goal.After-self-1) → c.within-second_start.result.1 ≡ min (c.args.second.start + c.args.second.count) (length c.self.inside.units.items)
second_end c = omega (arith, c.self.inside.units.ok)

-- the units behind the old ones are the two texts
grown : (c : goal.After-self-1) → c.extend_from_within-2.new.self.items
    ≡ c.self.inside.units.items ++ (slice_range c.self.inside.units.items c.args.first.start (c.args.first.start + c.args.first.count) ++ slice_range c.self.inside.units.items c.args.second.start (c.args.second.start + c.args.second.count))
grown c =
    let units = c.self.inside.units.items in
    let one : c.extend_from_within.new.self.items ≡ units ++ slice_range units c.within-first_start.result.0 c.within-first_start.result.1 = search rules in
    let two : c.extend_from_within-2.new.self.items ≡ c.extend_from_within.new.self.items ++ slice_range c.extend_from_within.new.self.items c.within-second_start.result.0 c.within-second_start.result.1 = search rules in
    joined_units units c.extend_from_within.new.self.items c.extend_from_within-2.new.self.items _ _ _ _ _ _ _ _
    (first_end c) c.within-first_start.ensures.start (second_end c) c.within-second_start.ensures.start one two

counted : (c : goal.After-self-1) → c.within-first_start.result.1 - c.within-first_start.result.0 + (c.within-second_start.result.1 - c.within-second_start.result.0)
    ≡ length (slice_range c.self.inside.units.items c.args.first.start (c.args.first.start + c.args.first.count) ++ slice_range c.self.inside.units.items c.args.second.start (c.args.second.start + c.args.second.count))
counted c = sym (joined_length c.self.inside.units.items _ _ _ _ _ _ _ _ (first_end c) c.within-first_start.ensures.start (second_end c) c.within-second_start.ensures.start)

pub invariant_of-self : goal.invariant_of-self
invariant_of-self c = IsPool-more c.self.inside.units.items _ c.extend_from_within-2.new.self.items _ c.self.inside.limit _ (grown c) c.self.invariant.begins
    (omega arith)
    (omega (arith, counted c, c.extend_from_within.ensures.capacity, c.extend_from_within-2.ensures.capacity))
    (omega (arith, counted c))

pub returns-clause-added : goal.returns-clause-added
returns-clause-added c =
    subst (λ old. ◌≡◌ {A = Texts} (record { units = c.extend_from_within-2.new.self.items; used = c.self.inside.used + (c.within-first_start.result.1 - c.within-first_start.result.0 + (c.within-second_start.result.1 - c.within-second_start.result.0)); limit = c.self.inside.limit; text_limit = c.self.inside.text_limit })
    (with_text old (joined old c.args.first c.args.second) (length (joined old c.args.first c.args.second)))) c.self.view_is
    (ap₂ (λ units used. record { units = units; used = c.self.inside.used + used; limit = c.self.inside.limit; text_limit = c.self.inside.text_limit }) (grown c) (counted c))

pub returns-clause-stands : goal.returns-clause-stands
returns-clause-stands c =
    subst (λ old. slice_range c.extend_from_within-2.new.self.items c.len-3.result (c.len-3.result + (c.within-first_start.result.1 - c.within-first_start.result.0 + (c.within-second_start.result.1 - c.within-second_start.result.0))) ≡ joined old c.args.first c.args.second) c.self.view_is
    (behind_stands c.self.inside.units.items c.extend_from_within-2.new.self.items _ c.len-3.result _ (grown c) (omega (arith, c.self.inside.units.ok)) (counted c))
