use Rattle.std.proofs.Common.{Some, ap, length, length-set, ◌∙◌}
use Rattle.rip_dom.specs.Document.{record_at}
use Rattle.rip_dom.proofs.DomLemmas.{made-below}
use Rattle.rip_dom.proofs.TreeLemmas.{fits}
use Rattle.rip_dom.proofs.WritingLemmas.{document-texted, text-set}
use Rattle.rip_dom.proofs.dom.Dom.set_text.Goals as goal

pub put_text-requires : goal.put_text-requires
put_text-requires c = made-below c.self.inside.limit c.self.inside.nodes.items c.self.inside.children c.self.inside.attributes c.self.inside.pairs.items c.args.n c.args.self.now c.self.view_is c.requires

pub invariant_of-self : goal.invariant_of-self
invariant_of-self c =
    document-texted c.self.inside.limit _ _ _ c.self.inside.nodes.items c.put_text.new.nodes.items c.self.inside.children c.self.inside.attributes c.self.inside.pairs.items c.self.invariant
    (ap length c.put_text.ensures.set ∙ length-set c.self.inside.nodes.items c.args.n (record (record_at c.self.inside.nodes.items c.args.n) { text = Some c.args.text })) c.put_text.ensures.room

pub returns : goal.returns
returns c =
    rw (← c.self.view_is) (text-set c.self.inside.limit c.self.inside.nodes.items c.put_text.new.nodes.items c.self.inside.children c.self.inside.attributes c.self.inside.pairs.items c.args.n c.args.text (fits c.self.invariant)
    (made-below c.self.inside.limit c.self.inside.nodes.items c.self.inside.children c.self.inside.attributes c.self.inside.pairs.items c.args.n c.args.self.now c.self.view_is c.requires) c.put_text.ensures.set)
