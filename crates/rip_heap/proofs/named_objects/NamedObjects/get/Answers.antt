use Rattle.std.proofs.Common.{◌∙◌, sym}
use Rattle.rip_heap.specs.Region.{listed}
use Rattle.rip_heap.proofs.StoredLemmas.{head_here}
use Rattle.rip_heap.proofs.named_objects.NamedObjects.get.Goals as goal

pub returns : goal.returns
returns c = c.head.ensures ∙ sym (head_here c.args.self.now c.self.inside.pool (listed c.self.inside.region) c.args.at c.self.view_is)
