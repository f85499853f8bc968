use Rattle.std.proofs.Common.{None, sym, ◌∙◌}
use Rattle.rip_dom.proofs.DomLemmas.{not-barred}
use Rattle.rip_dom.proofs.dom.Dom.insert_before.Goals as goal

pub put_in-requires-clause-below : goal.put_in-requires-clause-below
put_in-requires-clause-below c = not-barred c.args.self.now c.args.parent c.args.child None (sym c.is_barred.ensures ∙ c.if-is_barred.false)
