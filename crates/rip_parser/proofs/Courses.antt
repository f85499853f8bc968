-- The course of a builder over all that is told, and levels as it counts them.
use Rattle.std.specs.Prelude.{◌≡◌, ℕ, min, List, [], ◌∷◌, Option, Some}
use Rattle.rip_lexer.specs.declared.token.Token.{Token}
use Rattle.rip_grammar.specs.declared.event.Event.{Event}
use Rattle.rip_parser.specs.Building.{State, beginning, Comes}

-- levels, of which the first that is too many stands for all of them
abbrev pub capped : ℕ → ℕ
capped n = min n 201

-- what comes of all that is told, the latest first
abbrev pub Builds : List ℕ → List Token → ℕ → List Event → Option State → Type 0
Builds script tokens total [] after = after ≡ Some (beginning script total)
Builds script tokens total (event ∷ told) after = (before : Option State) × Builds script tokens total told before × Comes script tokens event before after
