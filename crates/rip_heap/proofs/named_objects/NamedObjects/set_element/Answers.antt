use Rattle.std.proofs.Common.{refl}
use Rattle.std.specs.Prelude.{slice_set}
use Rattle.rip_heap.specs.NamedObjects.{first_texts}
use Rattle.rip_heap.specs.Region.{listed}
use Rattle.rip_heap.proofs.StoredLemmas.{cost_keeps, elements_edited, heads_within, listed_even}
use Rattle.rip_heap.proofs.named_objects.NamedObjects.set_element.Goals as goal

pub set_element-requires : goal.set_element-requires
set_element-requires c = record { within = heads_within c.args.self.now c.self.inside.pool (listed c.self.inside.region) c.args.at c.self.view_is c.requires.within }

pub invariant_of-self : goal.invariant_of-self
invariant_of-self c = record {
  named = c.self.invariant.named;
  indexed = c.set_element.ensures.indexes (first_texts c.self.inside.pool c.self.inside.names_end) c.self.inside.indexes.blocks c.self.invariant.indexed;
}

pub returns-clause-edited : goal.returns-clause-edited
returns-clause-edited c =
    elements_edited c.args.self.now c.self.inside.pool (listed c.self.inside.region) (listed c.set_element.new.self) c.args.at (λ items. slice_set items c.args.place c.args.v) (λ r. r) c.self.view_is (listed_even c.self.inside.region) c.set_element.ensures.listed

pub returns-clause-keeps : goal.returns-clause-keeps
returns-clause-keeps c = cost_keeps c.args.self.now _ c.args.at _ (λ r. r) (λ o. (refl, refl, refl)) (returns-clause-edited c)
