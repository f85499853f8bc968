use Rattle.std.proofs.Common.{◌≡◌, ℕ, length, arith, ap, sym, subst}
use Rattle.std.specs.Prelude.{vec_capacity}
use Rattle.rip_values.specs.Pool.{IsPool, Texts}
use Rattle.rip_values.proofs.PoolLemmas.{IsPool-cut}
use Rattle.rip_values.proofs.pool.Pool.cut_back.Goals as goal

pub invariant_of-self : goal.invariant_of-self
invariant_of-self c =
    let units : c.self.inside.units.items ≡ c.args.self.now.units = ap (λ (p : Texts). p.units) c.self.view_is in
    let used : c.self.inside.used ≡ c.args.self.now.used = ap (λ (p : Texts). p.used) c.self.view_is in
    let longer : length c.self.inside.units.items ≡ length c.args.self.now.units = ap length units in
    let h = IsPool-cut c.self.inside.units.items c.truncate.new.self.items c.args.end c.args.used c.self.inside.used c.self.inside.limit (vec_capacity c.self.inside.units)
    c.truncate.ensures.items c.self.invariant c.requires.fixed (omega (arith, longer, c.requires.end)) (omega (arith, used, c.requires.used)) (omega (arith, longer, used, c.requires.charged)) in
    let P : ℕ → Type 0 = λ capacity. IsPool c.truncate.new.self.items c.args.used c.self.inside.limit capacity in
    subst P (sym c.truncate.ensures.capacity) h
