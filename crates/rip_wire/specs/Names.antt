-- Names of calls: ASCII letters, digits, `_` and `.`.
use Rattle.std.specs.Prelude.{◌==◌, ℕ, ◌≤◌, Bool, ◌||◌, List, length, IsTrue}
use Rattle.std.specs.List.{list_all}
use Rattle.std.specs.Char.{is_ascii_alphanumeric}

-- an ASCII letter or digit, `_` or `.`
abbrev pub is_name_letter : ℕ → Bool
is_name_letter u = is_ascii_alphanumeric u || (u == 95) || (u == 46)

-- the name of a call: 1 to 64 such letters
pub record IsName (text : List ℕ) : Type 0 where
  pub not_empty : 1 ≤ length text
  pub short : length text ≤ 64
  pub letters : IsTrue (list_all is_name_letter text)
