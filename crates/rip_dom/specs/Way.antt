-- The way through a document by links, step by step: a node is entered before the nodes below it, and left behind them.
use Rattle.std.specs.Prelude.{◌≡◌, ℕ, zero, suc, ◌+◌, ◌<◌, Bool, true, false, ◌==◌, if◌then◌else◌, Option, None, Some, List, [], ◌∷◌, length}
use Rattle.rip_base.specs.declared.value.Span.{Span}
use Rattle.rip_dom.specs.declared.order.Step.{Step}
use Rattle.rip_dom.specs.declared.order.Step.TheVariants.{Enter, Leave, End}
use Rattle.rip_dom.specs.Document.{IsRooted, no_span}
use Rattle.rip_dom.specs.Linked.{Has, Differ}
use Rattle.rip_dom.specs.Lists.{first_of}
use Rattle.rip_dom.specs.Order.{in_order}
use Rattle.rip_dom.specs.Reading.{own_span}
use Rattle.rip_dom.specs.Tree.{Tree, children_of, next_of, node_at, parent_of}

-- what comes after a node was entered: its first child, or its own end
abbrev pub entered : ℕ → Option ℕ → Step
entered n (Some c) = Enter c
entered n None = Leave n

-- behind a node comes its next sibling, or its parent is left
abbrev pub behind : Option ℕ → Option ℕ → Step
behind (Some next) parent = Enter next
behind None (Some p) = Leave p
behind None None = End

-- the step after this one, on the way through all that is below the root
abbrev pub step : Tree → ℕ → Step → Step
step t root (Enter n) = entered n (first_of (children_of t n))
step t root (Leave n) = if n == root then End else behind (next_of t n (parent_of t n)) (parent_of t n)
step t root End = End

-- the nodes that are entered from this step on, in so many steps
abbrev pub way_on : Tree → ℕ → ℕ → Step → List ℕ
way_on t r zero s = []
way_on t r (suc k) (Enter n) = n ∷ way_on t r k (step t r (Enter n))
way_on t r (suc k) (Leave n) = way_on t r k (step t r (Leave n))
way_on t r (suc k) End = []

-- the way is at its end
abbrev pub is_end : Step → Bool
is_end (Enter n) = false
is_end (Leave n) = false
is_end End = true

-- the node of this step, where it is the entrance of one that passes the test
abbrev pub found_at : (ℕ → Bool) → Step → Option ℕ
found_at f (Enter n) = if f n then Some n else None
found_at f (Leave n) = None
found_at f End = None

-- the text that a step adds: of a text node that is entered its own
abbrev pub span_at : Tree → Step → Span
span_at t (Enter n) = own_span (node_at t n)
span_at t (Leave n) = no_span
span_at t End = no_span

-- what the way through a document rests on: the way up from each node ends, and the children of a node are the nodes
-- whose parent it is, each once
pub record Grows (t : Tree) : Type 0 where
  pub deep : IsRooted (parent_of t)
  pub known : (n p : ℕ) → parent_of t n ≡ Some p → p < length t.nodes
  pub mine : (n p : ℕ) → parent_of t n ≡ Some p → n < length t.nodes
  pub owned : (p n : ℕ) → Has n (children_of t p) → parent_of t n ≡ Some p
  pub once : (p : ℕ) → Differ (children_of t p)

-- so many steps as twice the nodes go through a node and all that is below it, in document order
abbrev pub StepsGoInOrder : Tree → Type 0
StepsGoInOrder t = (r : ℕ) → way_on t r (length t.nodes + length t.nodes) (Enter r) ≡ in_order t r
