use Rattle.std.proofs.Common.{arith}
use Rattle.rip_heap.proofs.NameIndexLemmas.{indexes_grown, kept_longer}
use Rattle.rip_heap.proofs.named_objects.NamedObjects.add_joined.Goals as goal

pub invariant_of-self : goal.invariant_of-self
invariant_of-self c = record {
  named = omega (arith, c.self.invariant.named, kept_longer c.self.inside.pool c.add_joined.new.self c.add_joined.ensures.older);
  indexed = indexes_grown c.self.inside.pool c.add_joined.new.self c.self.inside.names_end c.self.inside.region.pages c.self.inside.indexes.blocks c.self.invariant.named c.add_joined.ensures.older c.self.invariant.indexed;
}
