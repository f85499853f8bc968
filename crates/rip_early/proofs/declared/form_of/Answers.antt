use Rattle.std.proofs.Common.{sym, ap, arith}
use Rattle.rip_early.specs.Around.{form_or_empty}
use Rattle.rip_early.proofs.Surrounding.{form_of-node, node_of-none}
use Rattle.rip_early.proofs.declared.form_of.Goals as goal

pub returns-then-id-count : goal.returns-then-id-count
returns-then-id-count c = sym (ap form_or_empty (node_of-none c.args.tree.now.branches c.args.id (omega arith)))

pub returns : goal.returns
returns c = sym (form_of-node c.args.tree.now c.args.id c.node.result.now c.node.ensures)
