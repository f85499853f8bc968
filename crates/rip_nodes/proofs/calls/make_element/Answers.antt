use Rattle.std.proofs.Common.{rules, subst}
use Rattle.rip_heap.specs.Lending.{PoolGrows}
use Rattle.rip_nodes.proofs.PoolLemmas.{element-grows}
use Rattle.rip_nodes.proofs.calls.make_element.Goals as goal

pub with_texts-requires-clause-adds : goal.with_texts-requires-clause-adds
with_texts-requires-clause-adds c = λ r f' left h.
    subst (λ p. PoolGrows p left) h.shows
    (element-grows c.args.name (record { pool = h.shown.now; tree = c.args.dom.now }) r (record { pool = left; tree = f'.0.now }) (search rules))
