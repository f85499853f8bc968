use Rattle.std.proofs.Common.{[], ◌++◌, ◌∷◌, refl}
use Rattle.rip_heap.specs.NamedObjects.{first_texts}
use Rattle.rip_heap.specs.Region.{listed}
use Rattle.rip_heap.specs.Rooms.{spending}
use Rattle.rip_heap.proofs.StoredLemmas.{array_here, cost_keeps, elements_edited, listed_even}
use Rattle.rip_heap.proofs.named_objects.NamedObjects.push_element.Goals as goal

pub push_element-requires-clause-array : goal.push_element-requires-clause-array
push_element-requires-clause-array c = array_here c.args.self.now c.self.inside.pool (listed c.self.inside.region) c.args.at c.self.view_is c.requires.array

pub invariant_of-self : goal.invariant_of-self
invariant_of-self c = record {
  named = c.self.invariant.named;
  indexed = c.push_element.ensures.indexes (first_texts c.self.inside.pool c.self.inside.names_end) c.self.inside.indexes.blocks c.self.invariant.indexed;
}

pub returns-clause-edited : goal.returns-clause-edited
returns-clause-edited c =
    elements_edited c.args.self.now c.self.inside.pool (listed c.self.inside.region) (listed c.push_element.new.self) c.args.at (λ items. items ++ c.args.v ∷ []) (spending 1) c.self.view_is (listed_even c.self.inside.region) c.push_element.ensures.listed

pub returns-clause-keeps : goal.returns-clause-keeps
returns-clause-keeps c = cost_keeps c.args.self.now _ c.args.at _ (spending 1) (λ o. (refl, refl, refl)) (returns-clause-edited c)
