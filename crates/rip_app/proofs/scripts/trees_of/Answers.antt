use Rattle.std.proofs.Common.{◌≡◌, ◌+◌, ◌∷◌, [], length, arith, length-append, subst}
use Rattle.rip_app.specs.App.{HasTreeAt}
use Rattle.rip_app.proofs.LoadLemmas.{trees_push}
use Rattle.rip_app.proofs.scripts.trees_of.Goals as goal

pub loop-place-preserved : goal.loop-place-preserved
loop-place-preserved c =
    let e : c.loop-place.place + 1 ≡ 1 + length c.loop-place.trees.items = omega arith in
    record {
      each = rw c.in_ok-push.ensures.items (trees_push c.args.page.now 1 c.loop-place.trees.items c.in_ok-tree_at.field-0 c.loop-place.invariant.each (subst (λ n. HasTreeAt c.args.page.now n c.in_ok-tree_at.field-0) e c.in_ok-tree_at.ensures.tree));
      count = rw c.in_ok-push.ensures.items (omega (arith, length-append c.loop-place.trees.items (c.in_ok-tree_at.field-0 ∷ [])));
    }
