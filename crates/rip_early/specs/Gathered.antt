-- The scopes of a tree, as their names are gathered.
use Rattle.std.specs.Prelude.{◌≡◌, ℕ, ◌<◌, List, [], length, fold, filter_map, take, slice_index_or}
use Rattle.rip_tree.specs.Branches.{Plant}
use Rattle.rip_early.specs.Around.{in_text}
use Rattle.rip_early.specs.Names.{Name, with_name, parameter_names, function_names, var_name_in, function_scope}
use Rattle.rip_early.specs.Indexed.{names_of, IsIndexed}
use Rattle.rip_early.specs.declared.names.Names.{Names}

-- the names of a scope, of whose `var` names those are gathered that stand at the first nodes of the text
abbrev pub gathered : Plant → ℕ → ℕ → List Name
gathered t seen id = fold with_name (fold with_name (fold with_name [] (parameter_names t id)) (function_names t id)) (filter_map (var_name_in t id) (take seen (in_text t)))

-- the scopes of the first nodes, gathered so far
pub record AreGathered (t : Plant) (seen count : ℕ) (scopes : List Names) : Type 0 where
  pub many : length scopes ≡ count
  pub kept : (id : ℕ) (d : Names) → id < count → IsIndexed (slice_index_or scopes id d)
  pub named : (id : ℕ) (d : Names) → id < count → names_of (slice_index_or scopes id d) ≡ gathered t seen id

-- the scopes of all nodes, each with all its names
pub record AreScopes (t : Plant) (scopes : List Names) : Type 0 where
  pub many : length scopes ≡ length t.branches
  pub kept : (id : ℕ) (d : Names) → id < length t.branches → IsIndexed (slice_index_or scopes id d)
  pub named : (id : ℕ) (d : Names) → id < length t.branches → names_of (slice_index_or scopes id d) ≡ function_scope t id
