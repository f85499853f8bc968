-- The machine on a front and then on the rest, and what it refuses.
use Rattle.std.proofs.Common.{◌≡◌, List, [], ◌∷◌, ◌++◌, Option, None, refl, ap, ◌∙◌}
use Rattle.rip_grammar.specs.declared.word.Lexeme.{Lexeme}
use Rattle.rip_grammar.specs.Phrases.{Phrase}
use Rattle.rip_grammar.specs.Grammar.{IsScript}
use Rattle.rip_automaton.specs.States.{State}
use Rattle.rip_automaton.specs.Machine.{feed, go, begins}
use Rattle.rip_automaton.proofs.Complete.{script}

-- a front, and then the rest
pub go_front : (s : Option State) (front rest : List Lexeme) → go s (front ++ rest) ≡ go (go s front) rest
go_front s [] rest = refl
go_front s (t ∷ front) rest = go_front (feed s t) front rest

-- once refused, it stays refused
pub go_refused : (rest : List Lexeme) → go None rest ≡ None
go_refused [] = refl
go_refused (t ∷ rest) = go_refused rest

-- what is refused begins no script
pub refused_begins_none : (front rest : List Lexeme) (body : Phrase) → go begins front ≡ None → IsScript (front ++ rest) body → ⊥
refused_begins_none front rest body refused is =
    let taken = script (front ++ rest) body is in
    let lost : go begins (front ++ rest) ≡ None = go_front begins front rest ∙ ap (λ (s : Option State). go s rest) refused ∙ go_refused rest in
    cc
