-- `String`.
use Rattle.std.specs.Prelude.{List, [], ◌∷◌}
use Rattle.rip_base.specs.declared.value.Value.{Value}
use Rattle.rip_base.specs.declared.value.Value.TheVariants.{Text}
use Rattle.rip_values.specs.declared.fixed.FixedText.TheVariants.{Empty}
use Rattle.rip_heap.specs.Conversions.{span_of, text_of_value}
use Rattle.rip_heap.specs.Outcome.{Outcome, Gives, after_text}
use Rattle.rip_heap.specs.World.{World}

-- `String` (ECMA-262 15.5.1.1)
abbrev pub string_call : World → List Value → Outcome
string_call w [] = Gives (Text (span_of Empty)) w
string_call w (v ∷ rest) = after_text (text_of_value w v) (λ text u. Gives (Text text) u)
