use Rattle.std.proofs.Common.{◌++◌, sym, subst}
use Rattle.rip_early.specs.Indexed.{names_of}
use Rattle.rip_early.specs.Least.{IsLeast}
use Rattle.rip_early.specs.Mistakes.{bad_assignments, bad_bindings, bad_uses, duplicates, mistakes_of}
use Rattle.rip_early.proofs.node.node_mistake.Goals as goal

pub returns : goal.returns
returns c =
    let top = names_of c.args.top.now in
    let t = c.args.tree.now in
    let id = c.args.id in
    let node = c.node-node.result.now in
    let twice = duplicates t id node.form in
    let bound = bad_bindings t id node.form in
    let assigned = bad_assignments t id node.form in
    let used = bad_uses top t id node.place node.form in
    subst (λ found. IsLeast (mistakes_of top t id found) c.earlier-3.result) (sym c.node-node.ensures)
    (c.earlier-3.ensures (twice ++ bound ++ assigned) used
    (c.earlier-2.ensures (twice ++ bound) assigned (c.earlier.ensures twice bound c.in_ok-twice.ensures c.bad_binding-bound.ensures) c.in_ok-assigned.ensures)
    c.in_ok-used.ensures)
