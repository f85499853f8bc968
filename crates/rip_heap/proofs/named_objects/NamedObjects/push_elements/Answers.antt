use Rattle.std.proofs.Common.{[], ◌∙◌, ◌∷◌, ◌++◌, ◌+◌, ap, refl, sym, take}
use Rattle.std.proofs.lemmas.List.{take_more}
use Rattle.rip_heap.specs.NamedObjects.{with_more}
use Rattle.rip_heap.specs.Rooms.{spending}
use Rattle.rip_heap.proofs.StoredLemmas.{array_kept, cost_keeps, none_more, one_more}
use Rattle.rip_heap.proofs.named_objects.NamedObjects.push_elements.Goals as goal

pub loop-item-init : goal.loop-item-init
loop-item-init c = none_more c.args.self.now c.args.at [] 0 refl refl

pub push_element-requires-clause-array : goal.push_element-requires-clause-array
push_element-requires-clause-array c =
    array_kept c.args.self.now c.loop-item.self c.args.at (take c.loop-item.item-index c.args.items.now) c.loop-item.item-index c.loop-item.invariant c.requires.array

pub loop-item-preserved : goal.loop-item-preserved
loop-item-preserved c =
    let items = c.args.items.now in
    let i = c.loop-item.item-index in
    c.push_element.ensures.edited
    ∙ one_more c.args.self.now c.loop-item.self c.args.at (take i items) (take (i + 1) items) c.item-item.result i c.loop-item.invariant
    (ap (λ x. take i items ++ x ∷ []) c.item-item.is ∙ sym (take_more items i c.item-item.result c.loop-item-test.true))

pub returns-clause-keeps : goal.returns-clause-keeps
returns-clause-keeps c =
    cost_keeps c.args.self.now _ c.args.at (with_more (take c.loop-item.item-index c.args.items.now)) (spending c.loop-item.item-index) (λ o. (refl, refl, refl)) c.loop-item.invariant
