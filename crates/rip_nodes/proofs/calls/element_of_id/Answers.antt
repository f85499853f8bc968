use Rattle.rip_values.specs.Pool.{text_at}
use Rattle.rip_nodes.proofs.LinkLemmas.{below-found}
use Rattle.rip_nodes.proofs.calls.element_of_id.Goals as goal

pub node_value-requires : goal.node_value-requires
node_value-requires c = below-found c.args.pool.now c.args.dom.now c.get.result.now c.in-Some.n c.find_id.result c.find_id.ensures c.in-Some.is c.made-made.ensures.within c.requires
