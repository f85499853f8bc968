-- What a write of `value` to a select chooses (HTML 4.10.7: the first option whose value is the written text, or none).
use Rattle.std.specs.Prelude.{ℕ, ℤ, pos, negsuc, ◌+◌, Bool, nat_eq, if◌then◌else◌, Option, None, Some, List, [], ◌∷◌, codes, option_map}
use Rattle.std.specs.Cmp.Lexicographic.{pointwise}
use Rattle.rip_values.specs.Pool.{Texts, text_at}
use Rattle.rip_dom.specs.Names.{attribute_of}
use Rattle.rip_dom.specs.Reading.{text_below}
use Rattle.rip_dom.specs.Tree.{Tree}
use Rattle.rip_forms.specs.declared.value.Value.{Value}
use Rattle.rip_forms.specs.declared.value.Value.TheVariants.{Stands, Below}
use Rattle.rip_forms.specs.Options.{options_of}
use Rattle.rip_forms.specs.Values.{option_value}

-- the value is this text
abbrev pub is_value : Texts → Tree → List ℕ → Value → Bool
is_value pool t text (Stands span) = pointwise nat_eq text (text_at pool span)
is_value pool t text (Below n) = pointwise nat_eq text (text_below pool t n)

-- the value of the option is this text
abbrev pub has_value : Texts → Tree → List ℕ → ℕ → Bool
has_value pool t text option = is_value pool t text (option_value (attribute_of pool t option (codes "value")) option)

-- the place of the first item that passes the test
abbrev pub first_place : (ℕ → Bool) → List ℕ → Option ℕ
first_place f [] = None
first_place f (x ∷ xs) = if f x then Some 0 else option_map (λ k. k + 1) (first_place f xs)

-- a place, or -1 for none
abbrev pub place_or_none : Option ℕ → ℤ
place_or_none None = negsuc 0
place_or_none (Some k) = pos k

-- what `selectedIndex` becomes: the place of the first option whose value is the text, or -1
abbrev pub place_of_value : Texts → Tree → ℕ → List ℕ → ℤ
place_of_value pool t n text = place_or_none (first_place (has_value pool t text) (options_of pool t n))
