-- How many units tokens have at least.
use Rattle.std.specs.Prelude.{ℕ, ◌+◌, ◌≤◌, if◌then◌else◌, List, [], ◌∷◌, length}
use Rattle.rip_markup.specs.Tokens.{IsTokens}
use Rattle.rip_markup.specs.declared.token.Token.{Token}
use Rattle.rip_markup.specs.declared.token.Token.TheVariants as T
use Rattle.rip_markup.specs.declared.token.Placed.{Placed}

-- one for units that there are, and none where there are none
abbrev pub one_if_any : List ℕ → ℕ
one_if_any [] = 0
one_if_any (c ∷ units) = 1

-- how many units a token has at least: a tag that is whole, a comment and a text that is not empty one
abbrev pub least_units : Token → ℕ
least_units (T.Text run) = one_if_any run.units
least_units (T.StartTag tag) = 1
least_units (T.EndTag end) = if end.whole then 1 else 0
least_units (T.Comment units) = 1
least_units T.OpenComment = 0
least_units T.Doctype = 0
least_units T.Stray = 0
least_units T.End = 0

-- the same of all of these
abbrev pub least_of_all : List Placed → ℕ
least_of_all [] = 0
least_of_all (t ∷ others) = least_units t.token + least_of_all others

-- a text has as many units as its tokens have at least
abbrev pub HaveUnits : Type 0
HaveUnits = (text : List ℕ) (tokens : List Placed) → IsTokens text tokens → least_of_all tokens ≤ length text
