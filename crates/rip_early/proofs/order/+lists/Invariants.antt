use Rattle.std.proofs.Common.{◌≡◌, ◌++◌, ◌+◌, ◌*◌, take}
use Rattle.std.specs.List.{flat_map}
use Rattle.rip_tree.specs.Branches.{links_of}
use Rattle.rip_early.specs.Around.{in_text_within, present}
use Rattle.rip_early.proofs.order.+lists.Given as goal

abbrev pub decreases-list : goal.decreases-list
decreases-list l = 2 * l.levels

abbrev pub decreases-list_below : goal.decreases-list_below
decreases-list_below l = 2 * l.levels + 1

-- what stands at the children so far is listed
abbrev pub invariant-list_below-loop-child : goal.invariant-list_below-loop-child
invariant-list_below-loop-child l =
    l.order.items ≡ l.fn.order.items ++ flat_map (in_text_within l.levels l.tree) (present (take l.child-index (links_of l.tree.branches l.id)))
