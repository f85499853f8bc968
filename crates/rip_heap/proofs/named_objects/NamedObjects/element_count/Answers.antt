use Rattle.std.proofs.Common.{◌∙◌, ap, length, sym}
use Rattle.rip_heap.specs.Region.{listed}
use Rattle.rip_heap.proofs.StoredLemmas.{elements_here, listed_even}
use Rattle.rip_heap.proofs.named_objects.NamedObjects.element_count.Goals as goal

pub returns : goal.returns
returns c = c.element_count.ensures ∙ sym (ap length (elements_here c.args.self.now c.self.inside.pool (listed c.self.inside.region) c.args.at c.self.view_is (listed_even c.self.inside.region)))
