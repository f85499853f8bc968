use Rattle.std.proofs.Common.{rules, subst, length}
use Rattle.rip_values.specs.Pool.{text_at}
use Rattle.rip_heap.specs.Lending.{PoolGrows}
use Rattle.rip_dom.specs.declared.letters.Letters.TheVariants.{Capital}
use Rattle.rip_dom.specs.Letters.{text_in}
use Rattle.rip_nodes.proofs.PoolLemmas.{text-grows}
use Rattle.rip_nodes.proofs.capitals.add_capitals.Goals as goal

pub with_texts-requires-clause-adds : goal.with_texts-requires-clause-adds
with_texts-requires-clause-adds c = λ r f' left h.
    let text = text_in Capital (text_at h.shown.now c.args.name) in
    subst (λ p. PoolGrows p left) h.shows (text-grows h.shown.now left text (length (text_at h.shown.now c.args.name)) (search rules))
