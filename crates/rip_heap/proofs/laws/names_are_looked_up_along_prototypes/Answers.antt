use Rattle.rip_heap.proofs.AlongLemmas.{looks}
use Rattle.rip_heap.proofs.laws.names_are_looked_up_along_prototypes.Goals as goal

pub returns : goal.returns
returns c = looks c.args.heap.now c.objects-count.ensures.older
