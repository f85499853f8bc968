-- The tree of a text, and why it has none (ECMA-262 14).
use Rattle.std.specs.Prelude.{◌≡◌, ℕ, ◌<◌, ◌≤◌, List, [], ◌∷◌, ◌++◌, Some}
use Rattle.rip_lexer.specs.declared.token.Token.{Token}
use Rattle.rip_lexer.specs.Tokens.{IsTokens}
use Rattle.rip_tree.specs.Branches.{Plant}
use Rattle.rip_grammar.specs.declared.word.Word.TheVariants as W
use Rattle.rip_grammar.specs.declared.word.Lexeme.{Lexeme}
use Rattle.rip_parser.specs.Words.{lexemes_of}
use Rattle.rip_grammar.specs.Phrases.{Phrase}
use Rattle.rip_grammar.specs.Grammar.{IsScript, IsViable}
use Rattle.rip_grammar.specs.Depths.{depth, greatest_depth}
use Rattle.rip_parser.specs.Shows.{ShowsScript}
use Rattle.rip_parser.specs.TooDeep.{first_too_deep}
use Rattle.rip_parser.specs.declared.refusal.ParseKind.{ParseKind}
use Rattle.rip_parser.specs.declared.refusal.ParseKind.TheVariants as K
use Rattle.rip_parser.specs.declared.refusal.ParseRefusal.{ParseRefusal}
use Rattle.rip_parser.specs.declared.refusal.ParseRefusal.TheVariants as R

-- the body derives the script, whose tokens these are
abbrev pub IsBody : List ℕ → List Token → Phrase → Type 0
IsBody text tokens body = IsScript (lexemes_of text tokens) body

-- the depth of a script's tree is at most the greatest
abbrev pub IsShallow : Phrase → Type 0
IsShallow body = depth body ≤ greatest_depth

-- the tree is that of a body of the script, and is not too deep
abbrev pub HasTree : List ℕ → List Token → Plant → Type 0
HasTree text tokens tree = (body : Phrase) × IsBody text tokens body × ShowsScript text tree body × IsShallow body

-- the first lexeme with which no script goes on stands at this place: some script begins with those before it
pub record IsUnexpected (lexemes : List Lexeme) (place : ℕ) : Type 0 where
  pub front : List Lexeme
  pub lexeme : Lexeme
  pub behind : List Lexeme
  pub splits : lexemes ≡ front ++ lexeme ∷ behind
  pub place-is : place ≡ lexeme.start
  pub begins : IsViable front
  pub ends : IsViable (front ++ lexeme ∷ []) → ⊥

-- the tree is too deep, and the first node that is begins at this place
abbrev pub IsTooDeepAt : Phrase → ℕ → Type 0
IsTooDeepAt body place = (greatest_depth < depth body) × (first_too_deep body ≡ Some place)

-- why a script is refused; nothing is said of want of memory
abbrev pub IsRefused : List ℕ → List Token → ParseRefusal → Type 0
IsRefused text tokens (R.At place K.Unexpected) = IsUnexpected (lexemes_of text tokens) place
IsRefused text tokens (R.At place K.TooNested) = (body : Phrase) × IsBody text tokens body × IsTooDeepAt body place
IsRefused text tokens R.Memory = Unit {0}

-- the refusal is that of a script with this body: it is too deep, or memory ran out
abbrev pub IsTooDeep : Phrase → ParseRefusal → Type 0
IsTooDeep body (R.At place K.Unexpected) = ⊥
IsTooDeep body (R.At place K.TooNested) = IsTooDeepAt body place
IsTooDeep body R.Memory = Unit {0}

-- THE ONE ANSWER OF A SCRIPT

-- the script has these tokens and is derived, each of its derivations shows this tree, and none is too deep
pub record IsTreeOf (script : List ℕ) (tree : Plant) : Type 0 where
  pub tokens : List Token
  pub are : IsTokens script tokens
  pub found : HasTree script tokens tree
  pub shown : (body : Phrase) → IsBody script tokens body → ShowsScript script tree body
  pub shallow : (body : Phrase) → IsBody script tokens body → IsShallow body

-- the script has these tokens and, for this cause at this place, no tree: it is not derived, or each derivation is too
-- deep
pub record IsNoTree (script : List ℕ) (place : ℕ) (kind : ParseKind) : Type 0 where
  pub tokens : List Token
  pub are : IsTokens script tokens
  pub refused : IsRefused script tokens (R.At place kind)
  pub deep : (body : Phrase) → IsBody script tokens body → IsTooDeep body (R.At place kind)

-- WITHIN THE CRATE

-- the last of the lexemes is the end
abbrev pub EndsInEnd : List Lexeme → Type 0
EndsInEnd lexemes = (front : List Lexeme) × (end : Lexeme) × (lexemes ≡ front ++ end ∷ []) × (end.word ≡ W.End)

-- the refusal is that of the first lexeme with which no script goes on, or memory ran out
abbrev pub IsUnexpectedBy : List Lexeme → ParseRefusal → Type 0
IsUnexpectedBy lexemes (R.At place K.Unexpected) = IsUnexpected lexemes place
IsUnexpectedBy lexemes (R.At place K.TooNested) = ⊥
IsUnexpectedBy lexemes R.Memory = Unit {0}
