use Rattle.std.proofs.Common.{◌∙◌, ap}
use Rattle.rip_dom.specs.Lists.{first_of}
use Rattle.rip_dom.proofs.TreeLemmas.{fits, children-are}
use Rattle.rip_dom.proofs.dom.Dom.first_child.Goals as goal

pub returns : goal.returns
returns c = rw (← c.self.view_is) (c.first.ensures ∙ ap first_of (children-are c.self.inside.limit c.self.inside.nodes.items c.self.inside.children c.self.inside.attributes c.self.inside.pairs.items (fits c.self.invariant) c.args.n))
