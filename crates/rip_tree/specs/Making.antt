-- What a tree that is being made holds, and how it is kept.
use Rattle.std.specs.Prelude.{ℕ, ◌^◌, ◌<◌, ◌≤◌, List, [], ◌∷◌, ◌++◌, length, map, Option, slice_range}
use Rattle.rip_tree.specs.Branches.{Branch, ChildrenFollow}
use Rattle.rip_tree.specs.declared.node.Node.{Node}
use Rattle.rip_tree.specs.declared.node.Piece.{Piece}
use Rattle.rip_tree.specs.declared.node.Row.{Row}

-- a tree of `total` nodes whose last branches are made
pub record Growth : Type 0 where
  pub total : ℕ
  pub branches : List Branch
  pub units : List ℕ

-- one node more, before those that are made
abbrev pub with_branch : Growth → Node → List (Option ℕ) → Growth
with_branch growth node children = record growth { branches = record { node = node; children = children } ∷ growth.branches }

-- units more, behind those that are there
abbrev pub with_units : Growth → List ℕ → Growth
with_units growth units = record growth { units = growth.units ++ units }

-- the piece of units that are put behind those that are there
abbrev pub piece_behind : Growth → List ℕ → Piece
piece_behind growth units = record { start = length growth.units; count = length units }

-- the branch of a row, whose children are a range of all children
abbrev pub branch_at : List (Option ℕ) → Row → Branch
branch_at links row = record { node = row.node; children = slice_range links row.start row.end }

-- the branches of rows
abbrev pub branches_at : List (Option ℕ) → List Row → List Branch
branches_at links rows = map (branch_at links) rows

-- the range of each row lies in all children
abbrev pub LieWithin : ℕ → List Row → Type 0
LieWithin count [] = Unit {0}
LieWithin count (row ∷ rows) = (row.start ≤ row.end) × (row.end ≤ count) × LieWithin count rows

-- what a tree keeps: its ranges lie in its children, numbers and places fit 32 bits, and children follow their parents
pub record IsGrown (total : ℕ) (links : List (Option ℕ)) (rows : List Row) (units : ℕ) : Type 0 where
  pub within : LieWithin (length links) rows
  pub follow : ChildrenFollow total (branches_at links rows)
  pub not_more : length rows ≤ total
  pub numbered : total < 2 ^ 32
  pub spanned : units < 2 ^ 32
