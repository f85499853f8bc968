use Rattle.rip_dom.proofs.DomLemmas.{older-not-above}
use Rattle.rip_dom.proofs.dom.Dom.place.Goals as goal

pub put_in-requires-clause-below : goal.put_in-requires-clause-below
put_in-requires-clause-below c = older-not-above c.args.self.now c.args.n c.in-Some.parent c.requires.fresh c.if-parent-n.true
