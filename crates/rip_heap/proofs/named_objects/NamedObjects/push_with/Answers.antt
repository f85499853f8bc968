use Rattle.std.proofs.Common.{[], ◌∙◌, ◌∷◌, ◌++◌}
use Rattle.rip_heap.specs.NamedObjects.{with_paid_edit}
use Rattle.rip_heap.specs.Stored.{object_of, stored_with}
use Rattle.rip_heap.specs.World.{Object}
use Rattle.rip_heap.proofs.StoredLemmas.{edit_last}
use Rattle.rip_heap.proofs.named_objects.NamedObjects.push_with.Goals as goal

pub returns : goal.returns
returns c =
    let more : Object → Object = λ o. record o { properties = o.properties ++ c.args.property ∷ [] } in
    c.add_property.ensures.edited
    ∙ (λ t. with_paid_edit (c.push.ensures t) (c.len-at.ensures t) more 1)
    ∙ edit_last c.args.self.now (object_of (stored_with c.args.object []) []) more 1 1
