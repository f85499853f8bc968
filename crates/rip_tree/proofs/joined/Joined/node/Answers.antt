use Rattle.std.proofs.Common.{◌≡◌, length, arith}
use Rattle.std.proofs.lemmas.List.{length-map}
use Rattle.rip_tree.specs.Making.{branch_at, branches_at}
use Rattle.rip_tree.proofs.Reading.{node_of-row}
use Rattle.rip_tree.proofs.joined.Joined.node.Goals as goal

pub returns : goal.returns
returns c =
    let as_many : length (branches_at c.args.self.now.links.items c.args.self.now.rows.items) ≡ length c.args.self.now.rows.items =
    length-map c.args.self.now.rows.items (branch_at c.args.self.now.links.items) in
    node_of-row c.args.self.now.links.items c.args.self.now.rows.items c.args.id c.index-row.result.now c.index-row.ensures (omega arith)
