use Rattle.std.proofs.Common.{rules, subst}
use Rattle.rip_heap.specs.Lending.{PoolGrows}
use Rattle.rip_dom.specs.Reading.{text_below}
use Rattle.rip_nodes.proofs.PoolLemmas.{read-grows}
use Rattle.rip_nodes.proofs.reading.text_below.Goals as goal

pub with_texts-requires-clause-adds : goal.with_texts-requires-clause-adds
with_texts-requires-clause-adds c = λ r f' left h.
    subst (λ p. PoolGrows p left) h.shows (read-grows (text_below h.shown.now c.args.dom.now c.args.n) h.shown.now r left (search rules))
