use Rattle.rip_heap.specs.NamedObjects.{first_texts}
use Rattle.rip_heap.specs.Region.{listed}
use Rattle.rip_heap.proofs.StoredLemmas.{another_stands, listed_even}
use Rattle.rip_heap.proofs.named_objects.NamedObjects.push.Goals as goal

pub invariant_of-self : goal.invariant_of-self
invariant_of-self c = record {
  named = c.self.invariant.named;
  indexed = c.add.ensures.indexes (first_texts c.self.inside.pool c.self.inside.names_end) c.self.inside.indexes.blocks c.self.invariant.indexed;
}

pub returns : goal.returns
returns c = another_stands c.args.self.now c.self.inside.pool (listed c.self.inside.region) (listed c.add.new.self) c.args.object c.self.view_is (listed_even c.self.inside.region) c.add.ensures.listed
