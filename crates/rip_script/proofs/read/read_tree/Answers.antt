use Rattle.rip_script.proofs.Reading.{has_its_tree}
use Rattle.rip_script.proofs.read.read_tree.Goals as goal

pub returns-in-Ok-clause-tree : goal.returns-in-Ok-clause-tree
returns-in-Ok-clause-tree c =
    has_its_tree c.tree.result c.args.bytes.now c.in-Ok.script.units c.in-Ok.script.tokens c.in-Ok.ensures.script c.tree.ensures.found c.tree.ensures.shown
