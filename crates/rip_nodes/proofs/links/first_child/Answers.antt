use Rattle.rip_nodes.proofs.LinkLemmas.{below-first}
use Rattle.rip_nodes.proofs.links.first_child.Goals as goal

pub node_or_null-requires : goal.node_or_null-requires
node_or_null-requires c = below-first c.args.dom.now c.args.n c.first_child.result c.first_child.ensures c.parents_and_children_agree.ensures c.made-made.ensures.within c.requires
