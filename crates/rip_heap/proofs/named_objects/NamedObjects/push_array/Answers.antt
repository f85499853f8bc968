use Rattle.std.proofs.Common.{[], ◌∙◌, ◌+◌, length}
use Rattle.rip_heap.specs.NamedObjects.{with_another, with_more, with_paid_edit}
use Rattle.rip_heap.specs.Stored.{object_of, stored_with}
use Rattle.rip_heap.proofs.StoredLemmas.{edit_last}
use Rattle.rip_heap.proofs.named_objects.NamedObjects.push_array.Goals as goal

pub returns : goal.returns
returns c =
    let n = c.args.self.now in
    let items = c.args.items.now in
    c.push_elements.ensures.edited
    ∙ (λ t. with_paid_edit (c.push.ensures t) (c.len-at.ensures t) (with_more items) (length items))
    ∙ edit_last n (object_of (stored_with c.bare.result []) []) (with_more items) 1 (length items)
    ∙ (λ t. with_another n (with_more items (object_of (stored_with (c.bare.ensures t) []) [])) (1 + length items))
