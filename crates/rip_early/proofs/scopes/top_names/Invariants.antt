use Rattle.std.proofs.Common.{◌≡◌, ◌++◌, take, fold, []}
use Rattle.std.specs.List.{flat_map}
use Rattle.rip_early.specs.Names.{with_name, function_names, var_names}
use Rattle.rip_early.specs.Indexed.{names_of, IsIndexed}
use Rattle.rip_early.proofs.scopes.top_names.Given as goal

abbrev pub invariant-loop-tree : goal.invariant-loop-tree
invariant-loop-tree l = record {
  kept : IsIndexed l.names;
  named : names_of l.names ≡ fold with_name [] (flat_map (λ t. function_names t 0 ++ var_names t 0) (take l.tree-index l.trees));
}
