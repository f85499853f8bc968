use Rattle.rip_app.proofs.ScriptLemmas.{tree_refused}
use Rattle.rip_app.proofs.script.tree_of.Goals as goal

pub returns-in-Ok-parse-clause-tree : goal.returns-in-Ok-parse-clause-tree
returns-in-Ok-parse-clause-tree c = record {
  tokens = c.as_slice.result.now;
  are = rw c.as_slice.ensures c.in-Ok.ensures.found;
  found = c.in-Ok-parse.ensures.found;
  shown = c.in-Ok-parse.ensures.shown;
  shallow = c.in-Ok-parse.ensures.shallow;
}

pub returns-clause-refused : goal.returns-clause-refused
returns-clause-refused c =
    rw c.of_tree.ensures (tree_refused c.args.number c.args.script.now c.as_slice.result.now c.in-Err-parse.refusal (rw c.as_slice.ensures c.in-Ok.ensures.found) c.in-Err-parse.ensures.refused c.in-Err-parse.ensures.deep)
