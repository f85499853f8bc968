-- The tokens of values, as those who write them see them.
use Rattle.std.specs.Prelude.{List, [], ◌∷◌, ◌++◌}
use Rattle.json.specs.Token.{Token}
use Rattle.json.specs.Tree.{json_tokens, items_tokens}
use Rattle.serde_json.specs.Data.{Data}
use Rattle.serde_json.specs.View.{items_of}
use Rattle.serde_json.specs.Written.{outline, items_outline}

-- those of a value
abbrev pub tokens_of : Data → List Token
tokens_of d = json_tokens (outline d)

-- those of values, one behind another
abbrev pub tokens_of_all : List Data → List Token
tokens_of_all [] = []
tokens_of_all (d ∷ ds) = tokens_of d ++ tokens_of_all ds

-- and the closing bracket of a list behind them
abbrev pub closed : List Data → List Token
closed ds = items_tokens (items_outline (items_of ds))
