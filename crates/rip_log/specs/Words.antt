-- The words of a line: they stand between spaces, of which those within a text of JSON are none.
use Rattle.std.specs.Prelude.{ℕ, Bool, false, ◌==◌, if◌then◌else◌, List, [], ◌∷◌, Option, Some, None}
use Rattle.rip_log.specs.declared.words.Place.{Place}
use Rattle.rip_log.specs.declared.words.Place.TheVariants.{Outside, Inside, Escaped}

-- where a reader stands behind this byte
abbrev pub place_after : Place → ℕ → Place
place_after Outside b = (if b == 34 then Inside else Outside)
place_after Inside b = (if b == 34 then Outside else (if b == 92 then Escaped else Inside))
place_after Escaped b = Inside

-- the byte is a space outside of texts, which ends a word
abbrev pub ends_word : Place → ℕ → Bool
ends_word Outside b = b == 32
ends_word Inside b = false
ends_word Escaped b = false

-- a byte before the first of some words
abbrev pub with_first : ℕ → List (List ℕ) → List (List ℕ)
with_first b [] = (b ∷ []) ∷ []
with_first b (w ∷ ws) = (b ∷ w) ∷ ws

-- the words from a place on
abbrev pub words_from : Place → List ℕ → List (List ℕ)
words_from place [] = [] ∷ []
words_from place (b ∷ bs) = (if ends_word place b then [] ∷ words_from Outside bs else with_first b (words_from (place_after place b) bs))

-- the words of a line
abbrev pub words : List ℕ → List (List ℕ)
words = words_from Outside

-- those that are left of a line
abbrev pub words_left : Option (List ℕ) → List (List ℕ)
words_left None = []
words_left (Some rest) = words rest
