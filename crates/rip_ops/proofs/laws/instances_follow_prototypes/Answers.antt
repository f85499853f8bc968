use Rattle.rip_ops.proofs.AlongLemmas.{follows}
use Rattle.rip_ops.proofs.laws.instances_follow_prototypes.Goals as goal

pub returns : goal.returns
returns c = follows c.args.heap.now c.objects-count.ensures.older
