use Rattle.std.proofs.Common.{◌≡◌, IfOk, true, [], if◌then◌else◌, sym, subst, rules}
use Rattle.rip_early.specs.Least.{IsLeast}
use Rattle.rip_early.specs.Mistakes.{assigns, bad_target, first_child}
use Rattle.rip_early.proofs.bindings.bad_assignment.Goals as goal

pub returns : goal.returns
returns c =
    let is : assigns c.args.node.now.form ≡ true = search rules in
    subst (λ b. IfOk c.bad_target.result (IsLeast (if b then bad_target c.args.tree.now c.args.id (first_child c.args.tree.now c.args.id) else []))) (sym is)
    (subst (λ target. IfOk c.bad_target.result (IsLeast (bad_target c.args.tree.now c.args.id target))) c.first_child.ensures c.bad_target.ensures)
