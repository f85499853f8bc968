-- What joined trees hold, and how they are kept.
use Rattle.std.specs.Prelude.{ℕ, ◌^◌, ◌<◌, List, length}
use Rattle.rip_tree.specs.Branches.{ChildrenFollow}
use Rattle.rip_tree.specs.Firsts.{AreFirsts}
use Rattle.rip_tree.specs.Making.{branches_at, LieWithin}
use Rattle.rip_tree.specs.Program.{Grove}
use Rattle.rip_tree.specs.declared.joined.Joined.{Joined}

-- what joined trees hold
abbrev pub grove_of : Joined → Grove
grove_of j = record { branches = branches_at j.links.items j.rows.items; units = j.units.items; roots = j.roots.items }

-- what joined trees keep: the ranges lie in the children, children follow their parents, and numbers and places fit 32
-- bits
pub record IsJoined (j : Joined) : Type 0 where
  pub within : LieWithin (length j.links.items) j.rows.items
  pub follow : ChildrenFollow (length (branches_at j.links.items j.rows.items)) (branches_at j.links.items j.rows.items)
  pub numbered : length j.rows.items < 2 ^ 32
  pub spanned : length j.units.items < 2 ^ 32
  pub listed : length j.roots.items < 2 ^ 32

-- what a program keeps: its trees are joined, 32 bits count their children and the names of its top scope, and of each node
-- the first with its name is noted
pub record IsProgram (trees : Joined) (top : List (List ℕ)) (firsts : List ℕ) : Type 0 where
  pub joined : IsJoined trees
  pub linked : length trees.links.items < 2 ^ 32
  pub counted : length top < 2 ^ 32
  pub named : AreFirsts (grove_of trees) firsts
