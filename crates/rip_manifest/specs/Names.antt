-- Names of calls and prefixes of keys: ASCII letters, digits, `_` and `.`.
use Rattle.std.specs.Prelude.{◌==◌, ℕ, ◌≤◌, Bool, ◌||◌, List, length, IsTrue}
use Rattle.std.specs.List.{list_all}
use Rattle.std.specs.Char.{is_ascii_alphanumeric}

-- an ASCII letter or digit, `_` or `.`
abbrev pub is_name_letter : ℕ → Bool
is_name_letter b = is_ascii_alphanumeric b || (b == 95) || (b == 46)

-- the prefix of keys: 0 to 64 such letters
pub record IsPrefix (text : List ℕ) : Type 0 where
  pub short : length text ≤ 64
  pub letters : IsTrue (list_all is_name_letter text)

-- the name of a call: 1 to 64 such letters
pub record IsName (text : List ℕ) : Type 0 where
  pub not_empty : 1 ≤ length text
  pub short : length text ≤ 64
  pub letters : IsTrue (list_all is_name_letter text)
