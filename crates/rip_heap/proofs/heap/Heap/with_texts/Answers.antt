use Rattle.std.proofs.Common.{rules, ap, subst, sym, ◌∙◌}
use Rattle.rip_heap.specs.Lending.{OnlyAddsTexts}
use Rattle.rip_heap.specs.World.{World}
use Rattle.rip_heap.specs.declared.heap.HeapParts.{HeapParts}
use Rattle.rip_heap.proofs.heap.Heap.with_texts.Goals as goal

pub with_texts-requires-clause-adds : goal.with_texts-requires-clause-adds
with_texts-requires-clause-adds g c =
    let lent = ap (λ (parts : HeapParts). parts.named.pool) c.deref_mut.ensures.value in
    subst (OnlyAddsTexts _ c.args.add.now) (sym (ap (λ (w : World). w.pool) c.self.view_is) ∙ sym lent) c.requires.adds

pub returns-clause-grows : goal.returns-clause-grows
returns-clause-grows g c = let adds = c.with_texts.ensures.adds in search rules
