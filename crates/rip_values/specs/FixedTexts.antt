-- How the fixed texts stand in every pool.
use Rattle.std.specs.Prelude.{ℕ, ◌+◌, Option, None, Some, List, [], ◌∷◌, length, nat_eq, if◌then◌else◌}
use Rattle.std.specs.List.{flat_map}
use Rattle.std.specs.Cmp.Lexicographic.{pointwise}
use Rattle.rip_base.specs.declared.value.Span.{Span}
use Rattle.rip_values.specs.declared.fixed.FixedText.{FixedText}
use Rattle.rip_values.specs.FixedTable.{text_of, fixed_texts}

-- the units that every pool begins with: the fixed texts, one after another
unfoldable pub fixed_units : List ℕ
fixed_units = flat_map text_of fixed_texts

-- the place of a text among texts that stand one after another from `start` on, if it is one of them
abbrev pub span_among : ℕ → List FixedText → List ℕ → Option Span
span_among start [] text = None
span_among start (fixed ∷ others) text =
    if pointwise nat_eq (text_of fixed) text then Some (record { start = start; count = length (text_of fixed) })
    else span_among (start + length (text_of fixed)) others text

-- the place of a text in every pool, if it is a fixed text
unfoldable pub fixed_span : List ℕ → Option Span
fixed_span text = span_among 0 fixed_texts text
