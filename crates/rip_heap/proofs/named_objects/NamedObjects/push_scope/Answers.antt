use Rattle.std.proofs.Common.{◌∙◌, ◌+◌, None, ap, replicate}
use Rattle.rip_heap.specs.NamedObjects.{Named, first_texts, named_in, with_scope}
use Rattle.rip_heap.proofs.named_objects.NamedObjects.push_scope.Goals as goal

pub invariant_of-self : goal.invariant_of-self
invariant_of-self c = record {
  named = c.self.invariant.named;
  indexed = c.push_scope.ensures.indexes (first_texts c.self.inside.pool c.self.inside.names_end) c.self.inside.indexes.blocks c.self.invariant.indexed;
}

pub returns : goal.returns
returns c =
    ap (named_in c.self.inside.pool) c.push_scope.ensures.listed
    ∙ ap (λ (m : Named). with_scope m (record { parent = c.args.parent; bindings = replicate c.args.names None }) (1 + c.args.names)) c.self.view_is
