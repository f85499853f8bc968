use Rattle.std.proofs.Common.{[], ◌++◌, ◌∷◌, arith, refl}
use Rattle.rip_heap.specs.Region.{listed}
use Rattle.rip_heap.specs.Rooms.{spending}
use Rattle.rip_heap.proofs.NameIndexLemmas.{indexes_of_all, indexes_of_first}
use Rattle.rip_heap.proofs.StoredLemmas.{cost_keeps, heads_within, listed_even, properties_edited}
use Rattle.rip_heap.proofs.named_objects.NamedObjects.add_property.Goals as goal

pub push_property-requires-clause-within : goal.push_property-requires-clause-within
push_property-requires-clause-within c = heads_within c.args.self.now c.self.inside.pool (listed c.self.inside.region) c.args.at c.self.view_is c.requires.within

pub push_property-requires-clause-indexes : goal.push_property-requires-clause-indexes
push_property-requires-clause-indexes c = indexes_of_first c.self.inside.pool c.self.inside.names_end c.self.inside.region.pages c.self.inside.indexes.blocks c.self.invariant.indexed

pub invariant_of-self : goal.invariant_of-self
invariant_of-self c = record {
  named = omega (arith, c.end-self-inside.ensures.end);
  indexed = indexes_of_all c.self.inside.pool c.end-self-inside.result c.push_property.new.self.pages c.push_property.new.indexes.blocks c.end-self-inside.ensures.end c.push_property.ensures.indexes;
}

pub returns-clause-edited : goal.returns-clause-edited
returns-clause-edited c =
    properties_edited c.args.self.now c.self.inside.pool (listed c.self.inside.region) (listed c.push_property.new.self) c.args.at (λ ps. ps ++ record { name = c.args.name; value = c.args.value } ∷ []) (spending 1) c.self.view_is (listed_even c.self.inside.region) c.push_property.ensures.listed

pub returns-clause-keeps : goal.returns-clause-keeps
returns-clause-keeps c = cost_keeps c.args.self.now _ c.args.at _ (spending 1) (λ o. (refl, refl, refl)) (returns-clause-edited c)
