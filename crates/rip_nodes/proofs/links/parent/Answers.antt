use Rattle.rip_nodes.proofs.LinkLemmas.{below-parent}
use Rattle.rip_nodes.proofs.links.parent.Goals as goal

pub node_or_null-requires : goal.node_or_null-requires
node_or_null-requires c = below-parent c.args.dom.now c.args.n c.parent.result c.parent.ensures c.parents_and_children_agree.ensures c.made-made.ensures.within c.requires
