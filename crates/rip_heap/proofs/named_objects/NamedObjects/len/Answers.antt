use Rattle.std.proofs.Common.{◌∙◌, sym}
use Rattle.rip_heap.specs.Region.{listed}
use Rattle.rip_heap.proofs.StoredLemmas.{heads_count}
use Rattle.rip_heap.proofs.named_objects.NamedObjects.len.Goals as goal

pub returns : goal.returns
returns c = c.len.ensures ∙ sym (heads_count c.args.self.now c.self.inside.pool (listed c.self.inside.region) c.self.view_is)
