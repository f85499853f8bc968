use Rattle.rip_nodes.proofs.LinkLemmas.{below-previous}
use Rattle.rip_nodes.proofs.links.previous_sibling.Goals as goal

pub node_or_null-requires : goal.node_or_null-requires
node_or_null-requires c = below-previous c.args.dom.now c.args.n c.previous.result c.previous.ensures c.parents_and_children_agree.ensures c.made-made.ensures.within c.requires
