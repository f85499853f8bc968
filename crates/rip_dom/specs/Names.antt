-- Names of attributes, which are compared in small letters.
use Rattle.std.specs.Prelude.{ℕ, Bool, true, false, ◌==◌, ◌&&◌, if◌then◌else◌, Option, List, [], ◌∷◌, option_map, find}
use Rattle.rip_base.specs.declared.value.Span.{Span}
use Rattle.rip_values.specs.Pool.{Texts, text_at}
use Rattle.rip_base.specs.Units.{small_unit}
use Rattle.rip_dom.specs.Document.{pair_at}
use Rattle.rip_dom.specs.Tree.{Tree, node_at, each}

-- the text is the name in small letters
abbrev pub is_small : List ℕ → List ℕ → Bool
is_small [] [] = true
is_small [] (u ∷ name) = false
is_small (t ∷ text) [] = false
is_small (t ∷ text) (u ∷ name) = t == small_unit u && is_small text name

-- the attribute has this name
abbrev pub has_name : Texts → List ℕ → Span × Span → Bool
has_name pool name a = is_small (text_at pool a.0) name

-- the value of the node's attribute of this name
abbrev pub attribute_of : Texts → Tree → ℕ → List ℕ → Option Span
attribute_of pool t n name = option_map (λ a. a.1) (find (has_name pool name) (node_at t n).attributes)

-- the attribute of this number has this name
abbrev pub is_named : Texts → List (Span × Span) → List ℕ → ℕ → Bool
is_named pool pairs name k = has_name pool name (pair_at pairs k)

-- the attributes without the first that passes the test
abbrev pub without_first : (Span × Span → Bool) → List (Span × Span) → List (Span × Span)
without_first p [] = []
without_first p (a ∷ rest) = if p a then rest else (a ∷ without_first p rest)

-- the tree in which this node has no attribute of this name; where it had none, nothing is changed
abbrev pub without_attribute : Texts → Tree → ℕ → List ℕ → Tree
without_attribute pool t n name = each (λ m x. record x {
  attributes = if m == n then without_first (has_name pool name) x.attributes else x.attributes;
}) t
