use Rattle.rip_dom.proofs.DomLemmas.{not-barred}
use Rattle.std.proofs.Common.{◌<◌, length, Some, sym, ◌∙◌, subst}
use Rattle.rip_dom.specs.Tree.{Tree}
use Rattle.rip_dom.proofs.TreeLemmas.{length-put_in}
use Rattle.rip_dom.proofs.dom.Dom.replace.Goals as goal

pub take_out-requires : goal.take_out-requires
take_out-requires c =
    subst (λ (t : Tree). c.args.old < length t.nodes) (sym c.put_in.ensures)
    (subst (λ k. c.args.old < k) (sym (length-put_in c.args.self.now c.args.parent c.args.new_child (Some c.args.old))) c.requires.old)

pub put_in-requires-clause-below : goal.put_in-requires-clause-below
put_in-requires-clause-below c = not-barred c.args.self.now c.args.parent c.args.new_child (Some c.args.old) (sym c.is_barred.ensures ∙ c.if-is_barred.false)
