use Rattle.std.proofs.Common.{rules, subst}
use Rattle.rip_heap.specs.Lending.{PoolGrows}
use Rattle.rip_dom.specs.Attributes.{Sets, attribute_refusal, attribute_set}
use Rattle.rip_nodes.specs.Attributes.{opening}
use Rattle.rip_nodes.proofs.PoolLemmas.{attribute-grows, attribute-set}
use Rattle.rip_nodes.proofs.attributes.set_there.Goals as goal

pub with_texts-requires-clause-adds : goal.with_texts-requires-clause-adds
with_texts-requires-clause-adds c = λ r f' left h.
    subst (λ p. PoolGrows p left) h.shows
    (attribute-grows c.args.n c.args.name c.args.value (record { pool = h.shown.now; tree = c.args.dom.now }) r (record { pool = left; tree = f'.0.now })
    (search rules))

pub returns-clause-tree : goal.returns-clause-tree
returns-clause-tree c =
    let s = opening c.with_texts.ensures.called.shown.now c.args.dom.now in
    let set : Sets (attribute_refusal s c.args.n c.args.name) (attribute_set s c.args.n c.args.name c.args.value) s c.with_texts.result
    (record { pool = c.with_texts.ensures.called.left.now; tree = c.with_texts.new.add.0.now }) = search rules in
    let made = attribute-set c.args.n c.args.name c.args.value c.args.heap.now.pool _ c.args.dom.now c.with_texts.result c.unwrap.result _ c.with_texts.ensures.called.shows c.unwrap.ensures set in
    search rules
