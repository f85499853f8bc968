use Rattle.std.proofs.Common.{◌∙◌, ◌+◌, sym, ap, length}
use Rattle.rip_dom.specs.Attributes.{attribute_set}
use Rattle.rip_nodes.specs.Attributes.{opening, texts_kept}
use Rattle.rip_nodes.proofs.AddsLemmas.{length-texts_kept}
use Rattle.rip_nodes.proofs.attributes.put_attribute.Goals as goal

pub returns-clause-tree : goal.returns-clause-tree
returns-clause-tree c =
    let longer = length-texts_kept c.args.heap.now c.args.dom.now c.args.n c.args.name ∙ ap (λ k. length c.args.heap.now.pool.units + k) (sym c.requires.kept) in
    c.set_there.ensures.tree
    ∙ ap (λ v. (attribute_set (opening c.args.heap.now.pool c.args.dom.now) c.args.n c.args.name v).tree) (c.span_behind-value.ensures (texts_kept c.args.heap.now c.args.dom.now c.args.n c.args.name) longer)
