use Rattle.std.proofs.Common.{None, ◌∙◌, ap}
use Rattle.rip_dom.specs.Lists.{last_or}
use Rattle.rip_dom.proofs.TreeLemmas.{fits, children-are}
use Rattle.rip_dom.proofs.dom.Dom.last_child.Goals as goal

pub returns : goal.returns
returns c = rw (← c.self.view_is) (c.last.ensures ∙ ap (last_or None) (children-are c.self.inside.limit c.self.inside.nodes.items c.self.inside.children c.self.inside.attributes c.self.inside.pairs.items (fits c.self.invariant) c.args.n))
