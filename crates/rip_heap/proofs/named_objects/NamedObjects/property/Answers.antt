use Rattle.std.proofs.Common.{◌∙◌, ap, slice_get, sym}
use Rattle.rip_heap.specs.Region.{listed}
use Rattle.rip_heap.proofs.StoredLemmas.{listed_even, properties_here}
use Rattle.rip_heap.proofs.named_objects.NamedObjects.property.Goals as goal

pub returns : goal.returns
returns c =
    c.property.ensures ∙ sym (ap (λ ps. slice_get ps c.args.number) (properties_here c.args.self.now c.self.inside.pool (listed c.self.inside.region) c.args.at c.self.view_is (listed_even c.self.inside.region)))
