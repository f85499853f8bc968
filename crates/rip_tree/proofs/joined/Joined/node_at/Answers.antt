use Rattle.std.proofs.Common.{sym, arith}
use Rattle.rip_tree.proofs.Reading.{node_of-none, node_of-row}
use Rattle.rip_tree.proofs.joined.Joined.node_at.Goals as goal

pub returns-then-id-len : goal.returns-then-id-len
returns-then-id-len c = sym (node_of-none c.args.self.now.links.items c.args.self.now.rows.items c.args.id (omega arith))

pub returns : goal.returns
returns c = sym (node_of-row c.args.self.now.links.items c.args.self.now.rows.items c.args.id c.index-row.result.now c.index-row.ensures (omega arith))
