use Rattle.std.proofs.Common.{◌≡◌, map, take}
use Rattle.std.specs.List.{flat_map}
use Rattle.rip_early.specs.Names.{top_scope}
use Rattle.rip_early.specs.Program.{declared_places, script_scoping}
use Rattle.rip_early.proofs.Firsts.{HaveNone}
use Rattle.rip_early.proofs.program.resolution_of.Given as goal

abbrev pub invariant-loop-tree : goal.invariant-loop-tree
invariant-loop-tree l = record {
  counted : l.script ≡ l.tree-index;
  clean : HaveNone l.scripts (take l.tree-index l.scripts);
  scoping : l.said.scoping.items ≡ flat_map (script_scoping (top_scope l.scripts)) (take l.tree-index l.scripts);
  vars : l.said.vars.items ≡ map (declared_places (top_scope l.scripts)) (take l.tree-index l.scripts);
}
