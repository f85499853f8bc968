use Rattle.rip_nodes.proofs.LinkLemmas.{below-last}
use Rattle.rip_nodes.proofs.links.last_child.Goals as goal

pub node_or_null-requires : goal.node_or_null-requires
node_or_null-requires c = below-last c.args.dom.now c.args.n c.last_child.result c.last_child.ensures c.parents_and_children_agree.ensures c.made-made.ensures.within c.requires
