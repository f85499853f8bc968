use Rattle.std.proofs.Common.{◌∙◌, arith}
use Rattle.rip_early.proofs.Gathering.{top_scope-all}
use Rattle.rip_early.proofs.scopes.top_names.Goals as goal

pub returns-clause-named : goal.returns-clause-named
returns-clause-named c = c.loop-tree.invariant.named ∙ top_scope-all c.args.trees.now c.loop-tree.tree-index (omega arith)
