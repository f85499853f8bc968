use Rattle.std.proofs.Common.{◌∙◌, ap, slice_get}
use Rattle.rip_heap.specs.NamedObjects.{Named, first_texts, named_in}
use Rattle.rip_heap.specs.ScopeSlots.{bound}
use Rattle.rip_heap.proofs.named_objects.NamedObjects.rebind.Goals as goal

pub invariant_of-self : goal.invariant_of-self
invariant_of-self c = record {
  named = c.self.invariant.named;
  indexed = c.rebind.ensures.indexes (first_texts c.self.inside.pool c.self.inside.names_end) c.self.inside.indexes.blocks c.self.invariant.indexed;
}

pub returns-clause-bound : goal.returns-clause-bound
returns-clause-bound c = λ told.
    ap (named_in c.self.inside.pool) (c.rebind.ensures.listed told)
    ∙ ap (λ (m : Named). record m { scopes = bound m.scopes c.args.scope c.args.place c.args.v (slice_get m.scopes c.args.scope) }) c.self.view_is
