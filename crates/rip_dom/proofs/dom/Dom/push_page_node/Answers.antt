use Rattle.rip_dom.proofs.OpeningLemmas.{placed-in}
use Rattle.rip_dom.proofs.dom.Dom.push_page_node.Goals as goal

pub push_page_attributes-requires-clause-node : goal.push_page_attributes-requires-clause-node
push_page_attributes-requires-clause-node c =
    placed-in c.args.self.now c.push_node-number.new.self c.place.new.self c.args.node.now.kind c.name_of.result c.text_of.result c.push_node-number.result c.args.node.now.parent
    c.push_node-number.ensures.made c.place.ensures c.push_node-number.ensures.number
