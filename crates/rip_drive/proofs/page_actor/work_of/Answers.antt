use Rattle.std.proofs.Common.{◌∙◌, List, [], ◌∷◌, ◌++◌, ap}
use Rattle.rip_wire.specs.declared.item.Item.{Item}
use Rattle.rip_drive.proofs.Played.{one_batch}
use Rattle.rip_drive.proofs.page_actor.work_of.Goals as goal

pub works_of-requires : goal.works_of-requires
works_of-requires c = one_batch c.from_vec.result c.args.item (c.from_vec.ensures ∙ c.in_ok-push.ensures.items ∙ ap (λ (xs : List Item). xs ++ c.args.item ∷ []) c.new-items.ensures.items) c.requires
