use Rattle.std.proofs.Common.{◌≡◌, ◌∙◌, sym, take}
use Rattle.rip_values.specs.FixedTable.{fixed_size}
use Rattle.rip_values.specs.FixedTexts.{fixed_units}
use Rattle.rip_values.proofs.FixedLemmas.{fixed_span-none}
use Rattle.rip_values.proofs.PoolLemmas.{fixed_at}
use Rattle.rip_values.proofs.pool.Pool.fixed.Goals as goal

pub returns-in-Some-clause-stands : goal.returns-in-Some-clause-stands
returns-in-Some-clause-stands c =
    let begins : take fixed_size c.args.self.now.units ≡ fixed_units = rw (← c.self.view_is) c.self.invariant.begins in
    (fixed_at c.args.self.now c.in-Some.fixed c.span.result begins c.span.ensures).0 ∙ c.in-Some.ensures.text

pub returns-in-Some-clause-lies : goal.returns-in-Some-clause-lies
returns-in-Some-clause-lies c =
    let begins : take fixed_size c.args.self.now.units ≡ fixed_units = rw (← c.self.view_is) c.self.invariant.begins in
    (fixed_at c.args.self.now c.in-Some.fixed c.span.result begins c.span.ensures).1

pub returns-in-None-clause-span : goal.returns-in-None-clause-span
returns-in-None-clause-span c = sym (fixed_span-none c.args.text.now (λ fixed e. let h = c.in-None.ensures.only fixed e in cc))
