use Rattle.std.proofs.Common.{[], ◌∙◌, ap, refl, slice_index_or, sym}
use Rattle.std.specs.Prelude.{is_some}
use Rattle.rip_heap.specs.NamedObjects.{first_texts, place_at}
use Rattle.rip_heap.specs.Region.{listed, valued, with_properties}
use Rattle.rip_heap.proofs.NameIndexLemmas.{indexes_of_first}
use Rattle.rip_heap.proofs.PlaceLemmas.{value_kept}
use Rattle.rip_heap.proofs.StoredLemmas.{cost_keeps, heads_within, listed_even, place_here, properties_edited}
use Rattle.rip_heap.proofs.named_objects.NamedObjects.replace.Goals as goal

pub replace-requires-clause-within : goal.replace-requires-clause-within
replace-requires-clause-within c = heads_within c.args.self.now c.self.inside.pool (listed c.self.inside.region) c.args.at c.self.view_is c.requires.within

pub replace-requires-clause-indexes : goal.replace-requires-clause-indexes
replace-requires-clause-indexes c = indexes_of_first c.self.inside.pool c.self.inside.names_end c.self.inside.region.pages c.self.inside.indexes.blocks c.self.invariant.indexed

pub invariant_of-self : goal.invariant_of-self
invariant_of-self c = record {
  named = c.self.invariant.named;
  indexed = c.replace.ensures.indexes (first_texts c.self.inside.pool c.self.inside.names_end) c.self.inside.indexes.blocks c.self.invariant.indexed;
}

pub returns-clause-found : goal.returns-clause-found
returns-clause-found c = c.replace.ensures.found ∙ ap is_some (place_here c.args.self.now c.self.inside.pool (listed c.self.inside.region) c.args.at c.args.name c.self.view_is (listed_even c.self.inside.region) c.requires.within)

pub returns-clause-edited : goal.returns-clause-edited
returns-clause-edited c =
    properties_edited c.args.self.now c.self.inside.pool (listed c.self.inside.region) (listed c.replace.new.self) c.args.at (λ ps. valued ps c.args.v (place_at c.args.self.now c.args.at c.args.name)) (λ r. r) c.self.view_is (listed_even c.self.inside.region)
    (c.replace.ensures.listed
    ∙ ap (λ found. with_properties (listed c.self.inside.region) c.args.at (valued (slice_index_or (listed c.self.inside.region).properties c.args.at []) c.args.v found)) (place_here c.args.self.now c.self.inside.pool (listed c.self.inside.region) c.args.at c.args.name c.self.view_is (listed_even c.self.inside.region) c.requires.within))

pub returns-clause-kept : goal.returns-clause-kept
returns-clause-kept c = λ none. returns-clause-edited c ∙ value_kept c.args.self.now c.args.at c.args.name c.args.v (sym (returns-clause-found c) ∙ none)

pub returns-clause-keeps : goal.returns-clause-keeps
returns-clause-keeps c = cost_keeps c.args.self.now _ c.args.at _ (λ r. r) (λ o. (refl, refl, refl)) (returns-clause-edited c)
