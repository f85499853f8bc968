use Rattle.std.proofs.Common.{◌∙◌, ap, slice_get, sym}
use Rattle.rip_heap.specs.NamedObjects.{Named}
use Rattle.rip_heap.specs.Names.{named}
use Rattle.rip_heap.specs.Region.{listed}
use Rattle.rip_heap.specs.Stored.{properties_of}
use Rattle.rip_heap.proofs.NameIndexLemmas.{indexes_of_first}
use Rattle.rip_heap.proofs.StoredLemmas.{heads_within, listed_even, properties_here}
use Rattle.rip_heap.proofs.named_objects.NamedObjects.own.Goals as goal

pub own-requires-clause-within : goal.own-requires-clause-within
own-requires-clause-within c = heads_within c.args.self.now c.self.inside.pool (listed c.self.inside.region) c.args.at c.self.view_is c.requires.within

pub own-requires-clause-indexes : goal.own-requires-clause-indexes
own-requires-clause-indexes c = indexes_of_first c.self.inside.pool c.self.inside.names_end c.self.inside.region.pages c.self.inside.indexes.blocks c.self.invariant.indexed

pub returns : goal.returns
returns c =
    c.own.ensures
    ∙ ap (named c.self.inside.pool c.args.name) (sym (properties_here c.args.self.now c.self.inside.pool (listed c.self.inside.region) c.args.at c.self.view_is (listed_even c.self.inside.region)))
    ∙ ap (λ (m : Named). named m.pool c.args.name (properties_of (slice_get c.args.self.now.objects c.args.at))) c.self.view_is
