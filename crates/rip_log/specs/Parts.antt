-- The parts of a line that are more than a numeral or a word.
use Rattle.std.specs.Prelude.{ℕ, ◌≤◌, List, length, ⊤, Option, Some, None}
use Rattle.std.specs.Int.{to_be_bytes, w128}
use Rattle.uuid.specs.Text.{hyphenated_text, lower}
use Rattle.rip_data.specs.Datum.{Tree, canonical_text, nesting, IsDatum}
use Rattle.rip_data.specs.Datum as tree
use Rattle.rip_wire.specs.Calls.{IsCallText}
use Rattle.rip_wire.specs.Items.{args_tree}

-- RFC 9562 4: an identifier, its 16 bytes from the highest, hyphenated and in small letters
abbrev pub identifier_text : ℕ → List ℕ
identifier_text id = hyphenated_text lower (to_be_bytes w128 id)

-- the name of a call as JSON
abbrev pub name_text : List ℕ → List ℕ
name_text name = canonical_text (tree.text name)

-- the args of a call as JSON
abbrev pub args_text : List Tree → List ℕ
args_text args = canonical_text (args_tree args)

-- data that may be replied: they nest at most 8 deep and have a canonical text of at most 16,384 bytes
pub record IsReply (t : Tree) : Type 0 where
  pub are : IsDatum t
  pub shallow : nesting t ≤ 8
  pub short : length (canonical_text t) ≤ 16384

-- the text of a call in range, or none
abbrev pub IsNoneOrCallText : Option (List ℕ) → Type 0
IsNoneOrCallText None = ⊤
IsNoneOrCallText (Some text) = IsCallText text
