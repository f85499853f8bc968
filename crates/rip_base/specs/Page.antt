-- Pages as lists of nodes: the number of a node is its place in the list.
use Rattle.std.specs.Prelude.{ℕ, suc, ◌-◌, ◌^◌, ◌<◌, List, [], ◌∷◌, length, Option, IfSome, slice_get, option_map, option_and_then}
use Rattle.std.specs.List.{AllByRecursion}
use Rattle.rip_base.specs.declared.page.PageNode.{PageNode}

-- what a page holds: its nodes in document order, and of each script the number of the node whose text it is
pub record Contents : Type 0 where
  pub nodes : List PageNode
  pub scripts : List ℕ

-- each of these nodes, numbered from the first number on, has a parent with a lower number, or none
abbrev pub ParentsPrecede : ℕ → List PageNode → Type 0
ParentsPrecede first [] = Unit {0}
ParentsPrecede first (x ∷ xs) = IfSome x.parent (λ p. p < first) × ParentsPrecede (suc first) xs

-- the text of the script with this number, from 1
abbrev pub script_at : Contents → ℕ → Option (List ℕ)
script_at page j = option_and_then (λ number. option_map (λ x. x.text) (slice_get page.nodes number)) (slice_get page.scripts (j - 1))

-- what a page keeps: parents precede their children, and all numbers are those of nodes and fit 32 bits
pub record IsPage (nodes : List PageNode) (scripts : List ℕ) : Type 0 where
  pub precede : ParentsPrecede 0 nodes
  pub within : AllByRecursion (λ number. number < length nodes) scripts
  pub counted : length nodes < 2 ^ 32
  pub few : length scripts < 2 ^ 32
