-- An attribute that is set (DOM Level 2 Core 1.2, setAttribute).
use Rattle.std.specs.Prelude.{◌≡◌, ℕ, ◌+◌, ◌==◌, ◌&&◌, ◌||◌, not, nat_lt, is_some, Bool, false, if◌then◌else◌, Option, None, Some, List, [], ◌∷◌, Result, Ok, Err}
use Rattle.std.specs.List.{list_all}
use Rattle.rip_base.specs.declared.value.Limit.TheVariants.{Nodes, Units}
use Rattle.rip_base.specs.declared.value.Refused.TheVariants.{Limit as At}
use Rattle.rip_base.specs.declared.value.Span.{Span}
use Rattle.rip_values.specs.Pool.{Texts, text_at}
use Rattle.rip_dom.specs.declared.creation.DomRefused.{DomRefused}
use Rattle.rip_dom.specs.declared.creation.DomRefused.TheVariants.{Code, Refused}
use Rattle.rip_dom.specs.Creation.{is_letter, is_name_unit, kept_name, cost_of_name, with_kept}
use Rattle.rip_dom.specs.Names.{attribute_of, has_name}
use Rattle.rip_dom.specs.Opening.{Opening}
use Rattle.rip_dom.specs.Tree.{Tree, each, with_attribute}

-- what the name of an attribute has behind its first letter: also '_', ':' and '.'
abbrev pub is_attribute_unit : ℕ → Bool
is_attribute_unit u = is_name_unit u || (u == 95 || (u == 58 || u == 46))

-- a legal name of an attribute, as a page has them
abbrev pub is_attribute_name : List ℕ → Bool
is_attribute_name [] = false
is_attribute_name (u ∷ us) = is_letter u && list_all is_attribute_unit us

-- the attributes, of which the first that passes the test has this value
abbrev pub with_value_of : (Span × Span → Bool) → Span → List (Span × Span) → List (Span × Span)
with_value_of p value [] = []
with_value_of p value (a ∷ rest) = if p a then ((a.0, value) ∷ rest) else (a ∷ with_value_of p value rest)

-- the tree in which the node's attribute of this name has this value
abbrev pub with_value : Texts → Tree → ℕ → List ℕ → Span → Tree
with_value pool t n name value = each (λ m x. record x {
  attributes = if m == n then with_value_of (has_name pool name) value x.attributes else x.attributes;
}) t

-- the node has an attribute of this name
abbrev pub has_attribute : Opening → ℕ → Span → Bool
has_attribute s n name = is_some (attribute_of s.pool s.tree n (text_at s.pool name))

-- what refuses an attribute, or nothing: an illegal name first (INVALID_CHARACTER_ERR). One that is there costs nothing;
-- for a new one the limit of nodes comes before that of units
abbrev pub attribute_refusal : Opening → ℕ → Span → Option DomRefused
attribute_refusal s n name =
    if not (is_attribute_name (text_at s.pool name)) then Some (Code 5)
    else if has_attribute s n name then None
    else if not (nat_lt s.tree.used s.tree.limit) then Some (Refused (At Nodes))
    else if nat_lt s.pool.limit (s.pool.used + cost_of_name s.pool name) then Some (Refused (At Units))
    else None

-- texts and tree with the attribute: it gets its value, or comes behind the others of its node
abbrev pub attribute_set : Opening → ℕ → Span → Span → Opening
attribute_set s n name value =
    if has_attribute s n name then record s { tree = with_value s.pool s.tree n (text_at s.pool name) value }
    else record { pool = with_kept s.pool name; tree = with_attribute s.tree n (kept_name s.pool name) value }

-- the call changes texts and tree so, or answers its refusal and changes nothing
abbrev pub Sets : Option DomRefused → Opening → Opening → Result (Unit {0}) DomRefused → Opening → Type 0
Sets refusal made old (Ok done) new = (refusal ≡ None) × (new ≡ made)
Sets refusal made old (Err refused) new = (refusal ≡ Some refused) × (new ≡ old)
