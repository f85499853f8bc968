-- Trees as lists of branches: the number of a branch is its place in the list.
use Rattle.std.specs.Prelude.{ℕ, zero, suc, ◌+◌, ◌-◌, ◌<◌, List, [], ◌∷◌, length, Option, Some, None, slice_range}
use Rattle.rip_tree.specs.declared.node.Node.{Node}
use Rattle.rip_tree.specs.declared.node.Piece.{Piece}

-- a node with the numbers of its children by place; a child may be absent
pub record Branch : Type 0 where
  pub node : Node
  pub children : List (Option ℕ)

-- What a tree holds: the branches from the root on, and the units of the script, behind them those of its texts. In the
-- tree of a script each branch but the root is the child of one branch, once; of any other list of branches nothing is
-- said but that a child's number is above its parent's.
pub record Plant : Type 0 where
  pub branches : List Branch
  pub units : List ℕ

-- the branch with this number
abbrev pub branch_of : List Branch → ℕ → Option Branch
branch_of [] id = None
branch_of (b ∷ bs) zero = Some b
branch_of (b ∷ bs) (suc id) = branch_of bs id

-- the node with this number
abbrev pub node_of : List Branch → ℕ → Option Node
node_of [] id = None
node_of (b ∷ bs) zero = Some b.node
node_of (b ∷ bs) (suc id) = node_of bs id

-- the children of the branch with this number, by place; past the last there are none
abbrev pub links_of : List Branch → ℕ → List (Option ℕ)
links_of [] id = []
links_of (b ∷ bs) zero = b.children
links_of (b ∷ bs) (suc id) = links_of bs id

-- the child at this place of a list of children
abbrev pub child_at : List (Option ℕ) → ℕ → Option ℕ
child_at [] place = None
child_at (c ∷ cs) zero = c
child_at (c ∷ cs) (suc place) = child_at cs place

-- the child at this place of the branch with this number
abbrev pub child_of : List Branch → ℕ → ℕ → Option ℕ
child_of [] id place = None
child_of (b ∷ bs) zero place = child_at b.children place
child_of (b ∷ bs) (suc id) place = child_of bs id place

-- the units that a piece stands for; past the end there are none
abbrev pub units_at : List ℕ → Piece → List ℕ
units_at units piece = slice_range units piece.start (piece.start + piece.count)

-- the children that are there have numbers above the low one and below the high one
abbrev pub AreBetween : ℕ → ℕ → List (Option ℕ) → Type 0
AreBetween low high [] = Unit {0}
AreBetween low high (None ∷ cs) = AreBetween low high cs
AreBetween low high (Some c ∷ cs) = (low < c) × (c < high) × AreBetween low high cs

-- in the last branches of a tree of so many, each child has a number above that of its parent
abbrev pub ChildrenFollow : ℕ → List Branch → Type 0
ChildrenFollow total [] = Unit {0}
ChildrenFollow total (b ∷ bs) = AreBetween (total - (length bs + 1)) total b.children × ChildrenFollow total bs
