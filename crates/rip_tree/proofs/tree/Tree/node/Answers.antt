use Rattle.std.proofs.Common.{◌≡◌, ◌<◌, length, subst, sym, Some, arith}
use Rattle.std.proofs.lemmas.List.{length-map}
use Rattle.rip_tree.specs.Branches.{Plant, node_of}
use Rattle.rip_tree.specs.Making.{branch_at, branches_at}
use Rattle.rip_tree.proofs.Reading.{node_of-row}
use Rattle.rip_tree.proofs.tree.Tree.node.Goals as goal

pub returns : goal.returns
returns c =
    let as_many : length (branches_at c.self.inside.links.items c.self.inside.rows.items) ≡ length c.self.inside.rows.items =
    length-map c.self.inside.rows.items (branch_at c.self.inside.links.items) in
    let below : c.args.id < length (branches_at c.self.inside.links.items c.self.inside.rows.items) =
    subst (λ (p : Plant). c.args.id < length p.branches) (sym c.self.view_is) c.requires in
    subst (λ (p : Plant). node_of p.branches c.args.id ≡ Some c.index-row.result.now.node) c.self.view_is
    (node_of-row c.self.inside.links.items c.self.inside.rows.items c.args.id c.index-row.result.now c.index-row.ensures (omega arith))
