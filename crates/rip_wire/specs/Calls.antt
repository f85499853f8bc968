-- Calls by their texts.
use Rattle.std.specs.Prelude.{◌≡◌, ℕ, List, [], ◌∷◌}
use Rattle.serde_json.specs.Data.{Data}
use Rattle.serde_json.specs.Written.{compact_text}
use Rattle.rip_data.specs.Datum.{Tree, data_of}
use Rattle.rip_wire.specs.Items.{text_value, args_tree, list_of, AreArgs}
use Rattle.rip_wire.specs.Names.{IsName}

-- `[NAME,ARGS]`
abbrev pub call_value : List ℕ → List Tree → Data
call_value name args = list_of (text_value name ∷ data_of (args_tree args) ∷ [])

-- the canonical text of a call: that JSON with no white space
abbrev pub call_text : List ℕ → List Tree → List ℕ
call_text name args = compact_text (call_value name args)

-- the text is that of a call in range
pub record IsCallText (text : List ℕ) : Type 0 where
  pub name : List ℕ
  pub args : List Tree
  pub is_name : IsName name
  pub are_args : AreArgs args
  pub is : text ≡ call_text name args
