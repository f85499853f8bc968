-- The parts of a datum as those who write them or count them see them.
use Rattle.std.specs.Prelude.{ℕ, ◌+◌, ◌<◌, ◌≤◌, List, [], ◌∷◌, length, map}
use Rattle.json.specs.Print.{escape, quoted}
use Rattle.json.specs.Token.{Token}
use Rattle.json.specs.Tree.{json_tokens, items_tokens, members_tokens}
use Rattle.serde_json.specs.Data as json
use Rattle.serde_json.specs.Written.{outline, items_outline, members_outline}
use Rattle.rip_data.specs.Datum.{Tree, canonical_text, utf8_of, data_of, items_of, members_of, AreData, HaveData, elements_of, fields_of, tree_of}
use Rattle.rip_data.specs.declared.datum.Datum.{Datum}

-- the tokens of the canonical text
abbrev pub tokens_of : Tree → List Token
tokens_of t = json_tokens (outline (data_of t))

-- those of the elements, with the closing bracket
abbrev pub element_tokens : List Datum → List Token
element_tokens ds = items_tokens (items_outline (items_of (elements_of (map tree_of ds))))

-- those of the fields, with the closing bracket
abbrev pub field_tokens : List (List ℕ × Datum) → List Token
field_tokens fs = members_tokens (members_outline (members_of (fields_of (map (λ f. (f.0, tree_of f.1)) fs))))

-- the data of the fields, in order
abbrev pub fields_data : List (List ℕ × Datum) → json.Members
fields_data fs = members_of (fields_of (map (λ f. (f.0, tree_of f.1)) fs))

-- each element is well made
abbrev pub AreElements : List Datum → Type 0
AreElements ds = AreData (elements_of (map tree_of ds))

-- each field is well made
abbrev pub AreFields : List (List ℕ × Datum) → Type 0
AreFields fs = HaveData (fields_of (map (λ f. (f.0, tree_of f.1)) fs))

-- the bytes that a text takes between its quotes
abbrev pub escaped_length : List ℕ → ℕ
escaped_length units = length (escape (utf8_of units))

-- the bytes of the elements, each with the comma or the bracket behind it
abbrev pub elements_length : List Datum → ℕ
elements_length [] = 0
elements_length (d ∷ ds) = length (canonical_text (tree_of d)) + 1 + elements_length ds

-- the bytes of the fields, each with its colon, and with the comma or the bracket behind it
abbrev pub fields_length : List (List ℕ × Datum) → ℕ
fields_length [] = 0
fields_length (f ∷ fs) = length (quoted (utf8_of f.0)) + 1 + (length (canonical_text (tree_of f.1)) + 1) + fields_length fs

-- how deep the elements nest
abbrev pub elements_nesting : List Datum → ℕ
elements_nesting ds = json.items_depth (items_of (elements_of (map tree_of ds)))

-- how deep the fields' values nest
abbrev pub fields_nesting : List (List ℕ × Datum) → ℕ
fields_nesting fs = json.members_depth (fields_data fs)

-- the units are the two of a character past U+FFFF
abbrev pub IsPair : ℕ → ℕ → Type 0
IsPair high low = (0xD800 ≤ high) × (high < 0xDC00) × (0xDC00 ≤ low) × (low < 0xE000)
