-- Elements and attributes that are made, with names in small letters (DOM Level 2 Core 1.2).
use Rattle.std.specs.Prelude.{◌≡◌, ℕ, ◌+◌, ◌==◌, ◌&&◌, ◌||◌, not, nat_le, nat_lt, Bool, false, if◌then◌else◌, Option, None, Some, List, [], ◌∷◌, length, Result, Ok, Err}
use Rattle.std.specs.List.{list_all}
use Rattle.rip_base.specs.declared.page.NodeKind.TheVariants.{Element}
use Rattle.rip_base.specs.declared.value.Limit.TheVariants.{Nodes, Units}
use Rattle.rip_base.specs.declared.value.Refused.TheVariants.{Limit as At}
use Rattle.rip_base.specs.declared.value.Span.{Span}
use Rattle.rip_values.specs.Pool.{Texts, text_at, span_behind, with_text}
use Rattle.rip_base.specs.Units.{small_unit, small_text}
use Rattle.rip_dom.specs.declared.creation.DomRefused.{DomRefused}
use Rattle.rip_dom.specs.declared.creation.DomRefused.TheVariants.{Code, Refused}
use Rattle.rip_dom.specs.Names.{is_small}
use Rattle.rip_dom.specs.Opening.{Opening}
use Rattle.rip_dom.specs.Tree.{with_node}

-- a letter from A to Z, small or not
abbrev pub is_letter : ℕ → Bool
is_letter u = nat_le 97 (small_unit u) && nat_le (small_unit u) 122

-- what the name of an element has behind its first letter: letters, digits and hyphens
abbrev pub is_name_unit : ℕ → Bool
is_name_unit u = is_letter u || ((nat_le 48 u && nat_le u 57) || u == 45)

-- a legal name of an element, as a page has them
abbrev pub is_element_name : List ℕ → Bool
is_element_name [] = false
is_element_name (u ∷ us) = is_letter u && list_all is_name_unit us

-- the text has no capitals
abbrev pub is_all_small : List ℕ → Bool
is_all_small text = is_small text text

-- where a name is kept: one without capitals where it stands, another as a new text
abbrev pub kept_name : Texts → Span → Span
kept_name pool name = if is_all_small (text_at pool name) then name else span_behind pool (small_text (text_at pool name))

-- what keeping a name costs: a new text its length
abbrev pub cost_of_name : Texts → Span → ℕ
cost_of_name pool name = if is_all_small (text_at pool name) then 0 else length (text_at pool name)

-- the texts with the name kept
abbrev pub with_kept : Texts → Span → Texts
with_kept pool name =
    if is_all_small (text_at pool name) then pool
    else with_text pool (small_text (text_at pool name)) (length (text_at pool name))

-- what refuses a new element, or nothing: an illegal name first (INVALID_CHARACTER_ERR), then the limit of nodes, then
-- that of units
abbrev pub element_refusal : Opening → Span → Option DomRefused
element_refusal s name =
    if not (is_element_name (text_at s.pool name)) then Some (Code 5)
    else if not (nat_lt s.tree.used s.tree.limit) then Some (Refused (At Nodes))
    else if nat_lt s.pool.limit (s.pool.used + cost_of_name s.pool name) then Some (Refused (At Units))
    else None

-- texts and tree with a new element, which stands nowhere yet
abbrev pub element_made : Opening → Span → Opening
element_made s name = record {
  pool = with_kept s.pool name;
  tree = with_node s.tree Element (Some (kept_name s.pool name)) None;
}

-- the call makes a node of this number, or answers its refusal and changes nothing
abbrev pub Creates : Option DomRefused → ℕ → Opening → Opening → Result ℕ DomRefused → Opening → Type 0
Creates refusal number made old (Ok n) new = (refusal ≡ None) × (n ≡ number) × (new ≡ made)
Creates refusal number made old (Err refused) new = (refusal ≡ Some refused) × (new ≡ old)
