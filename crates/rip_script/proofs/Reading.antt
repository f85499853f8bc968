-- What reading a script says of its tree.
use Rattle.std.proofs.Common.{ℕ, List}
use Rattle.std.specs.Prelude.{Result, Ok, Err, IfOk}
use Rattle.rip_lexer.specs.declared.token.Token.{Token}
use Rattle.rip_grammar.specs.Phrases.{Phrase}
use Rattle.rip_parser.specs.Parsed.{HasTree, IsBody}
use Rattle.rip_parser.specs.Shows.{ShowsScript}
use Rattle.rip_tree.specs.Branches.{Plant}
use Rattle.rip_script.specs.Given.{HasItsTree, HasTokens}
use Rattle.rip_script.specs.declared.refusal.Stop.{Stop}

-- the tree of the tokens is that of the bytes
pub has_its_tree : (r : Result Plant Stop) (bytes units : List ℕ) (tokens : List Token) → HasTokens bytes units tokens → IfOk r (HasTree units tokens)
    → ((body : Phrase) → IsBody units tokens body → IfOk r (λ tree. ShowsScript units tree body)) → IfOk r (HasItsTree bytes)
has_its_tree (Ok tree) bytes units tokens script found shown = record { units = units; tokens = tokens; script = script; found = found; shown = shown }
has_its_tree (Err stop) bytes units tokens script found shown = found
