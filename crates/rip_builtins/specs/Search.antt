-- A text in a text (ECMA-262 15.5.4.7).
use Rattle.std.specs.Prelude.{ℕ, ℤ, List, length, Result}
use Rattle.rip_base.specs.declared.value.Span.{Span}
use Rattle.rip_base.specs.declared.value.Value.{Value}
use Rattle.rip_base.specs.declared.value.Fault.{Fault}
use Rattle.rip_values.specs.Pool.{Texts, text_at}
use Rattle.rip_heap.specs.Conversions.{text_of_value}
use Rattle.rip_heap.specs.Outcome.{Outcome, after_text}
use Rattle.rip_heap.specs.Search.{first_place_from}
use Rattle.rip_heap.specs.World.{World}
use Rattle.rip_builtins.specs.Arguments.{argument, integer_in, then_gives, value_or_fault}
use Rattle.rip_builtins.specs.Arrays.{place_or_none}
use Rattle.rip_builtins.specs.Texts.{clamped}

-- the first place at which the pattern stands, from an integer on
abbrev pub place_of_text : List ℕ → List ℕ → ℤ → Value
place_of_text text pattern from = place_or_none (first_place_from pattern text (clamped (length text) from))

-- the same from a value on, which is made an integer
abbrev pub place_in_text : Texts → Span → Value → List ℕ → Result Value Fault
place_in_text pool text from pattern = then_gives (integer_in pool from) (place_of_text (text_at pool text) pattern)

-- `indexOf`
abbrev pub text_index_of : World → Span → List Value → Outcome
text_index_of w text args =
    after_text (text_of_value w (argument args 0)) (λ pattern v. value_or_fault v (place_in_text w.pool text (argument args 1) (text_at v.pool pattern)))
