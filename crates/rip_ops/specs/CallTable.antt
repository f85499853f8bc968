-- Made from tables/names.txt by tools/names.py.
-- The calls that arrays, texts and `Math` have as members.
use Rattle.std.specs.Prelude.{List, [], ◌∷◌}
use Rattle.rip_values.specs.declared.fixed.FixedText.{FixedText}
use Rattle.rip_values.specs.declared.fixed.FixedText.TheVariants as text
use Rattle.rip_values.specs.declared.builtin.Builtin.{Builtin}
use Rattle.rip_values.specs.declared.builtin.Builtin.TheVariants as builtin

-- of texts (ECMA-262 15.5.4)
abbrev pub calls_of_texts : List (FixedText × Builtin)
calls_of_texts =
    (text.CharAt, builtin.TextCharAt) ∷
    (text.CharCodeAt, builtin.TextCharCodeAt) ∷
    (text.Substring, builtin.TextSubstring) ∷
    (text.IndexOf, builtin.TextIndexOf) ∷
    []

-- of arrays (ECMA-262 15.4.4, 15.2.4.5)
abbrev pub calls_of_arrays : List (FixedText × Builtin)
calls_of_arrays =
    (text.Push, builtin.ArrayPush) ∷
    (text.Pop, builtin.ArrayPop) ∷
    (text.Slice, builtin.ArraySlice) ∷
    (text.IndexOf, builtin.ArrayIndexOf) ∷
    (text.Join, builtin.ArrayJoin) ∷
    (text.HasOwnProperty, builtin.HasOwnProperty) ∷
    []

-- of `Math` (ECMA-262 15.8.2)
abbrev pub calls_of_math : List (FixedText × Builtin)
calls_of_math =
    (text.Abs, builtin.MathAbs) ∷
    (text.Floor, builtin.MathFloor) ∷
    (text.Min, builtin.MathMin) ∷
    (text.Max, builtin.MathMax) ∷
    []
