-- The program of scripts with no early error.
use Rattle.std.specs.Prelude.{ℕ, List, filter_map, map}
use Rattle.std.specs.List.{flat_map}
use Rattle.rip_tree.specs.declared.program.Scoping.{Scoping}
use Rattle.rip_tree.specs.Branches.{Plant}
use Rattle.rip_tree.specs.Program.{Code, joined}
use Rattle.rip_early.specs.Around.{numbers}
use Rattle.rip_early.specs.Names.{Name, place_in, top_scope, var_names}
use Rattle.rip_early.specs.Scopes.{scoping_at}

-- what the rules of scope say of the nodes of a script, by number
abbrev pub script_scoping : List Name → Plant → List Scoping
script_scoping top t = map (scoping_at top t) (numbers t)

-- the places in the top scope of the names that a script declares by `var` (10.5, step 8), in the order of its text
abbrev pub declared_places : List Name → Plant → List ℕ
declared_places top t = filter_map (place_in top) (var_names t 0)

-- the trees of the scripts joined, with the names of their top scope and what the rules of scope say of each node
unfoldable pub program_of : List Plant → Code
program_of trees = record {
  grove = joined trees;
  top = top_scope trees;
  vars = map (declared_places (top_scope trees)) trees;
  scoping = flat_map (script_scoping (top_scope trees)) trees;
}
