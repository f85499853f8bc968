use Rattle.rip_dom.proofs.OpeningLemmas.{AttributesDone}
use Rattle.rip_dom.proofs.dom.Dom.push_page_attributes.Given as goal

abbrev pub invariant-loop-attribute : goal.invariant-loop-attribute
invariant-loop-attribute l = AttributesDone l.n l.attributes l.attribute-index l.pool l.self l.fn.pool l.fn.self
