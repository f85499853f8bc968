use Rattle.std.proofs.Common.{ap, arith, refl, subst, sym}
use Rattle.rip_values.specs.Pool.{KeepsTexts}
use Rattle.rip_heap.specs.NamedObjects.{Named}
use Rattle.rip_heap.proofs.NameIndexLemmas.{indexes_grown, kept_longer}
use Rattle.rip_heap.proofs.named_objects.NamedObjects.with_texts.Goals as goal

pub invariant_of-self : goal.invariant_of-self
invariant_of-self g c =
    let adds = c.requires.adds c.add.result _ c.add.new.arg2
    (record { shown = _; shows = ap (λ (n : Named). n.pool) c.self.view_is; left = _; called = c.add.ensures; leaves = refl }) in
    let keeps = subst (λ p. KeepsTexts p c.add.new.arg2) (sym (ap (λ (n : Named). n.pool) c.self.view_is)) adds.texts in
    record {
      named = omega (arith, c.self.invariant.named, kept_longer c.self.inside.pool c.add.new.arg2 keeps);
      indexed = indexes_grown c.self.inside.pool c.add.new.arg2 c.self.inside.names_end c.self.inside.region.pages c.self.inside.indexes.blocks c.self.invariant.named keeps c.self.invariant.indexed;
    }

pub returns-clause-adds : goal.returns-clause-adds
returns-clause-adds g c =
    c.requires.adds c.add.result _ c.add.new.arg2
    (record { shown = _; shows = ap (λ (n : Named). n.pool) c.self.view_is; left = _; called = c.add.ensures; leaves = refl })
