use Rattle.std.proofs.Common.{sym, None, arith}
use Rattle.rip_tree.proofs.Reading.{child_at-get, child_at-none}
use Rattle.rip_tree.proofs.tree.child_in.Goals as goal

pub returns-then-place-children : goal.returns-then-place-children
returns-then-place-children c = sym (child_at-none c.args.children.now c.args.place (omega arith))

pub returns : goal.returns
returns c = sym (child_at-get c.args.children.now c.args.place None (omega arith))
