use Rattle.std.proofs.Common.{arith}
use Rattle.rip_dom.proofs.DomLemmas.{older-not-above}
use Rattle.rip_dom.proofs.WritingLemmas.{filled-is}
use Rattle.rip_dom.proofs.dom.Dom.fill.Goals as goal

pub put_in-requires-clause-below : goal.put_in-requires-clause-below
put_in-requires-clause-below c =
    older-not-above c.push_node-child.new.self c.push_node-child.result c.args.n c.push_node-child.ensures.fresh
    (omega (arith, c.requires.node, c.clear.ensures.made, c.push_node-child.ensures.number))

pub returns : goal.returns
returns c =
    filled-is c.args.self.now c.clear.new.self c.push_node-child.new.self c.put_in.new.self c.args.n c.push_node-child.result c.args.text c.requires.some c.clear.ensures.emptied c.clear.ensures.made
    c.push_node-child.ensures.number c.push_node-child.ensures.made c.put_in.ensures
