-- What a tag begins with, as functions. Those that read tags are stated by these; that they agree with the relations
-- of `Attributes` is proved, and no public clause cites them.
use Rattle.std.specs.Prelude.{◌≡◌, ℕ, Bool, not, ◌==◌, if◌then◌else◌, List, [], ◌∷◌, length, drop, Option, Some, None, option_map, take_while}
use Rattle.std.specs.List.{prefix_len}
use Rattle.rip_base.specs.Units.{begins}
use Rattle.rip_markup.specs.Units.{is_space, is_letter, is_attribute_unit, is_quote, is_unquoted}
use Rattle.rip_markup.specs.Attributes.{Value, Absent, Unquoted, Quoted, value_units, value_offset, Written, LeadsAttribute}
use Rattle.rip_markup.specs.declared.attribute.ValueSpan.{ValueSpan}
use Rattle.rip_markup.specs.declared.attribute.AttributeSpan.{AttributeSpan}

-- what stands behind the longest run of units that pass
abbrev pub behind : (ℕ → Bool) → List ℕ → List ℕ
behind passes text = drop (prefix_len passes text) text

-- the value that ends at this quote
abbrev pub quoted_at : ℕ → List ℕ → Option Value
quoted_at quote text = if begins (λ c. c == quote) (behind (λ c. not (c == quote)) text) then Some (Quoted quote (take_while (λ c. not (c == quote)) text)) else None

-- the value without quotes that the text begins with
abbrev pub unquoted_at : List ℕ → Option Value
unquoted_at text = if begins is_unquoted text then Some (Unquoted (take_while is_unquoted text)) else None

-- the value that stands behind a `=`
abbrev pub given_at : List ℕ → Option Value
given_at [] = None
given_at (q ∷ rest) = if is_quote q then quoted_at q rest else unquoted_at (q ∷ rest)

-- the value that stands behind a name
abbrev pub value_at : List ℕ → Option Value
value_at [] = Some Absent
value_at (c ∷ rest) = if c == 61 then given_at rest else Some Absent

-- the attribute that stands behind this space
abbrev pub named_at : List ℕ → List ℕ → Option Written
named_at space text =
    if begins is_letter text then option_map (λ v. record { space = space; name = take_while is_attribute_unit text; value = v }) (value_at (behind is_attribute_unit text)) else None

-- the attribute that the text begins with
abbrev pub attribute_at : List ℕ → Option Written
attribute_at text = if begins is_space text then named_at (take_while is_space text) (behind is_space text) else None

-- how many units stand behind a value before what follows it
abbrev pub value_close : Value → ℕ
value_close (Quoted quote units) = 1
value_close _ = 0

-- a value as the code shows it
abbrev pub shown_value : Value → ValueSpan
shown_value v = record { before = value_offset v; count = length (value_units v); after = value_close v }

-- an attribute as the code shows it
abbrev pub shown : Written → AttributeSpan
shown a = record { space = length a.space; name = length a.name; value = shown_value a.value }

-- no attribute can be read here
abbrev pub NoneLeads : List ℕ → Type 0
NoneLeads text = (a : Written) (more : List ℕ) → LeadsAttribute text a more → ⊥

-- the text begins with an attribute of these parts, and then the rest
pub record ShowsAttribute (text : List ℕ) (space : ℕ) (name : List ℕ) (before : ℕ) (value rest : List ℕ) : Type 0 where
  pub a : Written
  pub leads : LeadsAttribute text a rest
  pub space-is : space ≡ length a.space
  pub name-is : name ≡ a.name
  pub before-is : before ≡ value_offset a.value
  pub value-is : value ≡ value_units a.value
