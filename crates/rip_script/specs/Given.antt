-- What is due for a script: its tokens, its tree, what its run comes to, or why it is refused.
use Rattle.std.specs.Prelude.{◌≡◌, ◌≤◌, ◌⊎◌, ◌∷◌, [], ℕ, List, Option, length, codes, decimal}
use Rattle.std.specs.Str.{IsUtf8}
use Rattle.rip_base.specs.Text.{IsSameText}
use Rattle.rip_outer.specs.Reading.{IsContents, IsTooLong, longest_file}
use Rattle.rip_outer.specs.declared.reading.NamedFile.{NamedFile}
use Rattle.rip_lexer.specs.Tokens.{IsTokens, IsFirstRefusal}
use Rattle.rip_lexer.specs.Printed.{kind_text as lex_word}
use Rattle.rip_lexer.specs.declared.token.Token.{Token}
use Rattle.rip_lexer.specs.declared.refusal.LexKind.{LexKind}
use Rattle.rip_tree.specs.Branches.{Plant}
use Rattle.rip_early.specs.Mistakes.{AreClean, IsRefusalOf}
use Rattle.rip_early.specs.Program.{program_of}
use Rattle.rip_early.specs.declared.refusal.EarlyKind.{EarlyKind}
use Rattle.rip_early.specs.declared.refusal.EarlyRefusal.TheVariants as early
use Rattle.rip_early.specs.Printed.{kind_text as early_word}
use Rattle.rip_grammar.specs.Phrases.{Phrase}
use Rattle.rip_parser.specs.Parsed.{HasTree, IsBody, IsRefused}
use Rattle.rip_parser.specs.Printed.{kind_text as parse_word}
use Rattle.rip_parser.specs.Shows.{ShowsScript}
use Rattle.rip_parser.specs.declared.refusal.ParseKind.{ParseKind}
use Rattle.rip_parser.specs.declared.refusal.ParseRefusal.TheVariants as R
use Rattle.rip_script.specs.Evaluation.{IsEvaluated}
use Rattle.rip_script.specs.Lines.{line_text}
use Rattle.rip_script.specs.Report.{run_text}
use Rattle.rip_script.specs.Texts.{tokens_text, tree_text}
use Rattle.rip_script.specs.Words.{Task, TokensOf, TreeOf, RunOf, file_of}
use Rattle.rip_script.specs.declared.evaluate.Ended.{Ended}
use Rattle.rip_script.specs.declared.refusal.Refusal.{Refusal}
use Rattle.rip_script.specs.declared.words.RunLimits.{RunLimits}
use Rattle.rip_script.specs.declared.refusal.Refusal.TheVariants.{TooLong, NotUtf8, Lex, Parse, Early}

-- these are the bytes of the file of that name, where it is told what the files hold
pub record IsGiven (held : Option (List NamedFile)) (name bytes : List ℕ) : Type 0 where
  pub contents : IsContents held name bytes
  pub fits : length bytes ≤ longest_file

-- the bytes spell a script that has these units and tokens
pub record HasTokens (bytes units : List ℕ) (tokens : List Token) : Type 0 where
  pub spelled : IsSameText bytes units
  pub lexed : IsTokens units tokens

-- REFUSALS

-- the first construct of the script that is refused stands at this place, and this is the cause
pub record HasNoTokens (bytes : List ℕ) (place : ℕ) (kind : LexKind) : Type 0 where
  pub units : List ℕ
  pub spelled : IsSameText bytes units
  pub refused : IsFirstRefusal units place kind

-- the script has tokens and no tree, for this cause at this place
pub record HasNoTree (bytes : List ℕ) (place : ℕ) (kind : ParseKind) : Type 0 where
  pub units : List ℕ
  pub tokens : List Token
  pub script : HasTokens bytes units tokens
  pub refused : IsRefused units tokens (R.At place kind)

-- the script has this tree, which all its bodies show
pub record HasItsTree (bytes : List ℕ) (tree : Plant) : Type 0 where
  pub units : List ℕ
  pub tokens : List Token
  pub script : HasTokens bytes units tokens
  pub found : HasTree units tokens tree
  pub shown : (body : Phrase) → IsBody units tokens body → ShowsScript units tree body

-- the script has a tree, and this is its first early error
pub record IsMistaken (bytes : List ℕ) (place : ℕ) (kind : EarlyKind) : Type 0 where
  pub tree : Plant
  pub script : HasItsTree bytes tree
  pub refused : IsRefusalOf (tree ∷ []) (early.At 1 place kind)

-- why bytes are refused where tokens are asked for
abbrev pub RefusesTokens : List ℕ → Refusal → Type 0
RefusesTokens bytes TooLong = ⊥
RefusesTokens bytes NotUtf8 = ¬ IsUtf8 bytes
RefusesTokens bytes (Lex place kind) = HasNoTokens bytes place kind
RefusesTokens bytes (Parse place kind) = ⊥
RefusesTokens bytes (Early place kind) = ⊥

-- and where a tree is
abbrev pub RefusesTree : List ℕ → Refusal → Type 0
RefusesTree bytes TooLong = ⊥
RefusesTree bytes NotUtf8 = ¬ IsUtf8 bytes
RefusesTree bytes (Lex place kind) = HasNoTokens bytes place kind
RefusesTree bytes (Parse place kind) = HasNoTree bytes place kind
RefusesTree bytes (Early place kind) = ⊥

-- and where it is run
abbrev pub RefusesRun : List ℕ → Refusal → Type 0
RefusesRun bytes TooLong = ⊥
RefusesRun bytes NotUtf8 = ¬ IsUtf8 bytes
RefusesRun bytes (Lex place kind) = HasNoTokens bytes place kind
RefusesRun bytes (Parse place kind) = HasNoTree bytes place kind
RefusesRun bytes (Early place kind) = IsMistaken bytes place kind

-- why bytes are refused, by what is asked for
abbrev pub RefusesBytes : Task → List ℕ → Refusal → Type 0
RefusesBytes (TokensOf file) bytes refusal = RefusesTokens bytes refusal
RefusesBytes (TreeOf file) bytes refusal = RefusesTree bytes refusal
RefusesBytes (RunOf file limits) bytes refusal = RefusesRun bytes refusal

-- the line that says so: what is wrong, and the place in units
abbrev pub refusal_line : Refusal → List ℕ
refusal_line TooLong = line_text (codes "refused" ∷ codes "TooLong" ∷ codes "0" ∷ [])
refusal_line NotUtf8 = line_text (codes "refused" ∷ codes "NotUtf8" ∷ codes "0" ∷ [])
refusal_line (Lex place kind) = line_text (codes "refused" ∷ lex_word kind ∷ decimal place ∷ [])
refusal_line (Parse place kind) = line_text (codes "refused" ∷ parse_word kind ∷ decimal place ∷ [])
refusal_line (Early place kind) = line_text (codes "refused" ∷ early_word kind ∷ decimal place ∷ [])

-- ANSWERS

-- the text is that of the script's tokens
pub record ListsTokens (bytes text : List ℕ) : Type 0 where
  pub units : List ℕ
  pub tokens : List Token
  pub script : HasTokens bytes units tokens
  pub text-is : text ≡ tokens_text tokens

-- the text is that of the script's tree
pub record DrawsTree (bytes text : List ℕ) : Type 0 where
  pub tree : Plant
  pub script : HasItsTree bytes tree
  pub text-is : text ≡ tree_text tree

-- the script has no early error, and the text is that of what its run comes to within these limits
pub record IsRun (bytes : List ℕ) (limits : RunLimits) (text : List ℕ) : Type 0 where
  pub tree : Plant
  pub script : HasItsTree bytes tree
  pub clean : AreClean (tree ∷ [])
  pub ended : Ended
  pub evaluated : IsEvaluated limits (program_of (tree ∷ [])) ended
  pub text-is : text ≡ run_text (program_of (tree ∷ [])) ended

-- what is put for bytes that are accepted
abbrev pub AnswersBytes : Task → List ℕ → List ℕ → Type 0
AnswersBytes (TokensOf file) bytes text = ListsTokens bytes text
AnswersBytes (TreeOf file) bytes text = DrawsTree bytes text
AnswersBytes (RunOf file limits) bytes text = IsRun bytes limits text

-- FILES

-- why the file of a task is refused: it is too long, or its bytes are refused
abbrev pub Refuses : Option (List NamedFile) → Task → Refusal → Type 0
Refuses held task refusal =
    ((refusal ≡ TooLong) × IsTooLong held (file_of task))
    ⊎ ((bytes : List ℕ) × IsGiven held (file_of task) bytes × RefusesBytes task bytes refusal)

-- what is put for a file that is accepted
abbrev pub Answers : Option (List NamedFile) → Task → List ℕ → Type 0
Answers held task text = (bytes : List ℕ) × IsGiven held (file_of task) bytes × AnswersBytes task bytes text

-- what is due for the file of a task
abbrev pub IsDue : Option (List NamedFile) → Task → List ℕ → Type 0
IsDue held task due = Answers held task due ⊎ ((refusal : Refusal) × Refuses held task refusal × (due ≡ refusal_line refusal))
