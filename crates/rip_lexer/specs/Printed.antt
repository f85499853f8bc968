-- Refusals as they are printed.
use Rattle.std.specs.Prelude.{ℕ, List, ◌++◌, codes, decimal}
use Rattle.rip_lexer.specs.declared.refusal.LexKind.{LexKind}
use Rattle.rip_lexer.specs.declared.refusal.LexKind.TheVariants.{BadCharacter, OpenText, OpenComment, FractionLiteral, OctalLiteral, LiteralTooLarge, BadEscape}
use Rattle.rip_lexer.specs.declared.refusal.LexRefusal.{LexRefusal}
use Rattle.rip_lexer.specs.declared.refusal.LexRefusal.TheVariants.{At, Memory}

-- a kind by its name
abbrev pub kind_text : LexKind → List ℕ
kind_text BadCharacter = codes "BadCharacter"
kind_text OpenText = codes "OpenText"
kind_text OpenComment = codes "OpenComment"
kind_text FractionLiteral = codes "FractionLiteral"
kind_text OctalLiteral = codes "OctalLiteral"
kind_text LiteralTooLarge = codes "LiteralTooLarge"
kind_text BadEscape = codes "BadEscape"

-- a kind and its place, or `memory`
abbrev pub refusal_text : LexRefusal → List ℕ
refusal_text (At place kind) = kind_text kind ++ codes " " ++ decimal place
refusal_text Memory = codes "memory"
