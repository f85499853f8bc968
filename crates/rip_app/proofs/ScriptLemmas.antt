-- Why a script has no tree.
use Rattle.std.proofs.Common.{ℕ, List, refl}
use Rattle.rip_lexer.specs.declared.token.Token.{Token}
use Rattle.rip_lexer.specs.Tokens.{IsTokens}
use Rattle.rip_grammar.specs.Phrases.{Phrase}
use Rattle.rip_parser.specs.declared.refusal.ParseRefusal.{ParseRefusal}
use Rattle.rip_parser.specs.declared.refusal.ParseRefusal.TheVariants.{At, Memory}
use Rattle.rip_parser.specs.Parsed.{IsBody, IsRefused, IsTooDeep}
use Rattle.rip_app.specs.Script.{RefusesScript, of_tree}

-- the tree of a script is refused
pub tree_refused : (number : ℕ) (script : List ℕ) (tokens : List Token) (r : ParseRefusal) → IsTokens script tokens → IsRefused script tokens r → ((body : Phrase) → IsBody script tokens body → IsTooDeep body r) → RefusesScript number script (of_tree number r)
tree_refused number script tokens (At place kind) are refused deep =
    (refl, record { tokens = tokens; are = are; refused = refused; deep = deep })
tree_refused number script tokens Memory are refused deep = tt
