-- What holds of all scripts: the machine takes each and nothing else, tells it once, and refuses a lexeme where no script
-- goes on with it; and the words that continue an expression are those with which it goes on.
use Rattle.std.specs.Prelude.{◌≡◌, true, false, List, [], ◌∷◌, ◌++◌, Some, None}
use Rattle.rip_grammar.specs.declared.word.Lexeme.{Lexeme}
use Rattle.rip_grammar.specs.declared.word.Word.TheVariants as W
use Rattle.rip_grammar.specs.declared.event.Event.{Event}
use Rattle.rip_automaton.specs.declared.frame.Frame.{Frame}
use Rattle.rip_automaton.specs.declared.frame.Frame.TheVariants as F
use Rattle.rip_automaton.specs.declared.mode.Mode.{Mode}
use Rattle.rip_automaton.specs.declared.mode.Mode.TheVariants as M
use Rattle.rip_automaton.specs.declared.mode.Shape.TheVariants as S
use Rattle.rip_automaton.specs.Continuations.{after}
use Rattle.rip_grammar.specs.Phrases.{Phrase}
use Rattle.rip_grammar.specs.Grammar.{IsScript, IsViable}
use Rattle.rip_grammar.specs.Events.{emit}
use Rattle.rip_grammar.specs.Semicolons.{continues}
use Rattle.rip_automaton.specs.States.{At}
use Rattle.rip_automaton.specs.Insertion.{stays_open}
use Rattle.rip_automaton.specs.Machine.{go, begins}

-- on the lexemes of a script, the machine ends with no open form, and has told what is told of the script's body
abbrev pub EveryScriptIsTold : Type 0
EveryScriptIsTold = (lexemes : List Lexeme) (body : Phrase) → IsScript lexemes body → go begins lexemes ≡ Some (At M.Done [] (emit body []))

-- two bodies of one list of lexemes are told alike
abbrev pub ScriptsAreToldOnce : Type 0
ScriptsAreToldOnce = (lexemes : List Lexeme) (one other : Phrase) → IsScript lexemes one → IsScript lexemes other → emit one [] ≡ emit other []

-- what the machine refuses begins no script
abbrev pub RefusedBeginsNone : Type 0
RefusedBeginsNone = (front rest : List Lexeme) (body : Phrase) → go begins front ≡ None → IsScript (front ++ rest) body → ⊥

-- what the machine takes to its end is a script, and what it has told is what is told of the script's body
abbrev pub TakenIsScript : Type 0
TakenIsScript = (lexemes : List Lexeme) (st : List Frame) (out : List Event) → go begins lexemes ≡ Some (At M.Done st out) → (body : Phrase) × IsScript lexemes body × (out ≡ emit body [])

-- what the machine has taken begins a script
abbrev pub TakenBeginsOne : Type 0
TakenBeginsOne = (front : List Lexeme) (mode : Mode) (st : List Frame) (out : List Event) → go begins front ≡ Some (At mode st out) → IsViable front

-- behind the end the machine is done, or has refused it
abbrev pub EndIsLast : Type 0
EndIsLast = (front : List Lexeme) (t : Lexeme) (mode : Mode) (st : List Frame) (out : List Event) → t.word ≡ W.End → go begins (front ++ t ∷ []) ≡ Some (At mode st out) → mode ≡ M.Done

-- Behind a line end the machine goes on in an expression statement that ends in a name exactly where the next word
-- continues an expression: so `;` is made only where nothing goes on (7.9.1).
abbrev pub GoesOnBehindName : Type 0
GoesOnBehindName = (t : Lexeme) → t.line_before ≡ true → stays_open (after S.Target (F.Expression ∷ []) [] t) ≡ continues false t.word

-- behind a postfix operator it goes on only where the next word continues an expression that ends in one
abbrev pub GoesOnBehindPostfix : Type 0
GoesOnBehindPostfix = (t : Lexeme) → t.line_before ≡ true → stays_open (after S.Postfix (F.Expression ∷ []) [] t) ≡ true → continues true t.word ≡ true
