-- Lexemes found among tokens. No public clause cites this.
use Rattle.std.specs.Prelude.{◌≡◌, ℕ, ◌<◌, List, length, slice_index_or}
use Rattle.rip_lexer.specs.declared.token.Token.{Token}
use Rattle.rip_tree.specs.Making.{Growth, with_units}
use Rattle.rip_grammar.specs.declared.word.Lexeme.{Lexeme}
use Rattle.rip_lexer.specs.declared.token.TokenKind.TheVariants as K

-- each token begins behind the one before it
abbrev pub AreInOrder : List Token → Type 0
AreInOrder tokens = (i j : ℕ) (d : Token) → i < j → j < length tokens → (slice_index_or tokens i d).start < (slice_index_or tokens j d).start

-- the token is a text, and it is that lexeme
abbrev pub IsTextToken : Lexeme → Token → Type 0
IsTextToken t token = (token.kind ≡ K.Text) × (token.start ≡ t.start) × (token.count ≡ t.count)

-- the lexeme is one of the tokens, a text
abbrev pub IsListed : List Token → Lexeme → Type 0
IsListed tokens t = (i : ℕ) × (i < length tokens) × ((d : Token) → IsTextToken t (slice_index_or tokens i d))

-- units are put behind those that are there
abbrev pub GrowsBy : Growth → Growth → Type 0
GrowsBy old new = (units : List ℕ) × (new ≡ with_units old units)
