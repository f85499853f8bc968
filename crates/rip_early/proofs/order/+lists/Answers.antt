use Rattle.std.proofs.Common.{◌≡◌, ◌<◌, ◌∙◌, sym, ap, get_or, length, None, arith}
use Rattle.rip_tree.specs.Branches.{links_of}
use Rattle.rip_early.specs.Around.{in_text_within}
use Rattle.rip_early.proofs.Listing.{child_listed, node_listed, none_listed}
use Rattle.rip_early.proofs.order.+lists.Goals.{list_below-in-Some+in_ok-list, list_below-in_default}
use Rattle.rip_early.proofs.order.+lists.Goals as goal

pub list-returns : goal.list-returns
list-returns t c =
    node_listed c.args.tree.now c.args.levels c.args.id c.args.order.now.items c.push.new.self.items c.list_below.new.order.items c.list_below.result (omega arith) c.in_ok-push.ensures.items
    c.list_below.ensures

pub list_below-loop-child-preserved : goal.list_below-loop-child-preserved
list_below-loop-child-preserved t c =
    let f = in_text_within c.args.levels c.args.tree.now in
    let links = links_of c.args.tree.now.branches c.args.id in
    let i = c.loop-child.child-index in
    let within : i < length links = omega (arith, ap length c.children-child-items.ensures) in
    let same : get_or links i None ≡ get_or c.children-child-items.result.now i None = ap (λ cs. get_or cs i None) (sym c.children-child-items.ensures) in
    elim c.match-child.branch [
      | list_below-in-Some+in_ok-list w ↦ rw w.order-is
          (child_listed f c.args.order.now.items c.loop-child.order.items w.list.new.order.items links i w.in-Some.child within (same ∙ w.in-Some.is) w.in_ok-list.ensures c.loop-child.invariant)
      | list_below-in_default w ↦ rw w.order-is
          (none_listed f c.args.order.now.items c.loop-child.order.items links i within (same ∙ w.in_default.is) c.loop-child.invariant)
    ]
