use Rattle.std.specs.Prelude.{ℕ, ◌==◌, Option, List, length, filter, find, nat_eq}
use Rattle.std.specs.Cmp.Lexicographic.{pointwise}
use Rattle.rip_values.specs.declared.fixed.FixedText.{FixedText}
use Rattle.rip_values.specs.FixedTable.{text_of, fixed_texts}

-- How a fixed text is looked up: among those of its length.

-- the fixed texts of this length
unfoldable pub texts_of_length : ℕ → List FixedText
texts_of_length n = filter (λ fixed. length (text_of fixed) == n) fixed_texts

-- the fixed text that is spelled so
unfoldable pub fixed_text : List ℕ → Option FixedText
fixed_text text = find (λ fixed. pointwise nat_eq (text_of fixed) text) (texts_of_length (length text))
