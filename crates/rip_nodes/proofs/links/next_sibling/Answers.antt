use Rattle.rip_nodes.proofs.LinkLemmas.{below-next}
use Rattle.rip_nodes.proofs.links.next_sibling.Goals as goal

pub node_or_null-requires : goal.node_or_null-requires
node_or_null-requires c = below-next c.args.dom.now c.args.n c.next.result c.next.ensures c.parents_and_children_agree.ensures c.made-made.ensures.within c.requires
