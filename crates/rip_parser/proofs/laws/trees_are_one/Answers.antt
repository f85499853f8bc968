use Rattle.rip_parser.proofs.Refusing.{have_one_tree, have_one_refusal, have_not_both}
use Rattle.rip_parser.proofs.Existing.{has_reading}
use Rattle.rip_parser.proofs.laws.trees_are_one.Goals as goal

pub returns-clause-some : goal.returns-clause-some
returns-clause-some c = has_reading

pub returns-clause-tree : goal.returns-clause-tree
returns-clause-tree c = have_one_tree

pub returns-clause-refusal : goal.returns-clause-refusal
returns-clause-refusal c = have_one_refusal

pub returns-clause-apart : goal.returns-clause-apart
returns-clause-apart c = have_not_both
