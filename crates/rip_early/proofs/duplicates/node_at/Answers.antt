use Rattle.std.proofs.Common.{option_and_then, sym, ap, ◌∙◌, arith}
use Rattle.rip_tree.specs.Branches.{node_of}
use Rattle.rip_early.proofs.Surrounding.{node_of-none}
use Rattle.rip_early.proofs.duplicates.node_at.Goals as goal

pub returns-then-id-count : goal.returns-then-id-count
returns-then-id-count c = sym (ap (option_and_then (node_of c.args.tree.now.branches)) c.in_ok-id.was ∙ node_of-none c.args.tree.now.branches c.in_ok-id.id (omega arith))
