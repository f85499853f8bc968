use Rattle.std.proofs.Common.{◌+◌, [], ◌∷◌, ◌++◌, ap, ◌∙◌, arith}
use Rattle.rip_early.specs.Indexed.{names_of}
use Rattle.rip_early.specs.Names.{top_scope}
use Rattle.rip_early.specs.Program.{declared_places, script_scoping}
use Rattle.rip_early.proofs.Firsts.{first_found, none_more, said_more, said_one_more}
use Rattle.rip_early.proofs.program.resolution_of.Goals as goal

pub returns-in-Some-clause-first : goal.returns-in-Some-clause-first
returns-in-Some-clause-first c =
    first_found c.args.scripts.now c.loop-tree.tree-index c.in_ok-script.script c.tree-item.result (names_of c.args.top.now) _ c.in-Some.found
    (omega arith) c.tree-item.is (c.in_ok-script.ensures ∙ ap (λ n. n + 1) c.loop-tree.invariant.counted)
    c.loop-tree.invariant.clean c.requires.named c.in-Some.is c.in_ok-found.ensures.least

pub loop-tree-preserved : goal.loop-tree-preserved
loop-tree-preserved c = record {
  counted = c.in_ok-script.ensures ∙ ap (λ n. n + 1) c.loop-tree.invariant.counted;
  clean = none_more c.args.scripts.now c.loop-tree.tree-index c.tree-item.result (names_of c.args.top.now) _
      (omega arith) c.tree-item.is c.loop-tree.invariant.clean c.requires.named c.in_default.is c.in_ok-found.ensures.least;
  scoping = said_more (script_scoping (top_scope c.args.scripts.now)) c.args.scripts.now c.loop-tree.tree-index c.tree-item.result c.loop-tree.said.scoping.items _
      (omega arith) c.tree-item.is c.loop-tree.invariant.scoping
      (c.in_ok-found.ensures.scoping c.in_default.is ∙ ap (λ ns. c.loop-tree.said.scoping.items ++ script_scoping ns c.tree-item.result) c.requires.named);
  vars = said_one_more (declared_places (top_scope c.args.scripts.now)) c.args.scripts.now c.loop-tree.tree-index c.tree-item.result c.loop-tree.said.vars.items _
      (omega arith) c.tree-item.is c.loop-tree.invariant.vars
      (c.in_ok-found.ensures.vars c.in_default.is ∙ ap (λ ns. c.loop-tree.said.vars.items ++ declared_places ns c.tree-item.result ∷ []) c.requires.named);
}
