-- What the machine does with the lexemes of a phrase, by the role that the phrase plays.
use Rattle.std.proofs.Common.{◌≡◌, ℕ, ◌+◌, Bool, true, false, ◌||◌, List, ◌∷◌, Some}
use Rattle.rip_grammar.specs.declared.word.Word.{Word}
use Rattle.rip_grammar.specs.declared.word.Word.TheVariants as W
use Rattle.rip_grammar.specs.declared.word.Lexeme.{Lexeme}
use Rattle.rip_grammar.specs.declared.event.Head.TheVariants as H
use Rattle.rip_grammar.specs.declared.event.Event.{Event}
use Rattle.rip_automaton.specs.declared.frame.VarRole.{VarRole}
use Rattle.rip_automaton.specs.declared.frame.VarRole.TheVariants as V
use Rattle.rip_automaton.specs.declared.frame.Frame.{Frame}
use Rattle.rip_automaton.specs.declared.frame.Frame.TheVariants as F
use Rattle.rip_automaton.specs.declared.mode.Mode.TheVariants as M
use Rattle.rip_grammar.specs.Phrases.{Phrase, More, CommaMore, Trailing, Default, spell}
use Rattle.rip_grammar.specs.Levels.{level}
use Rattle.rip_grammar.specs.Semicolons.{ends_postfix, continues_behind, is_inserted, has_bare_in}
use Rattle.rip_grammar.specs.Grammar.{IsMade, is_expression, is_statement, is_element, is_block, is_entry, is_declarator, is_clause, is_catch, is_finally, is_init}
use Rattle.rip_grammar.specs.Events.{node_at, emit}
use Rattle.rip_automaton.specs.Frames.{top_bars}
use Rattle.rip_automaton.specs.States.{At}
use Rattle.rip_automaton.specs.Continuations.{after, entries_by}
use Rattle.rip_automaton.specs.Statements.{clause, ended}
use Rattle.rip_automaton.specs.Headers.{declared}
use Rattle.rip_automaton.specs.Machine.{go}
use Rattle.rip_automaton.proofs.Stepping.{is_finally_word, by_false, or_left, or_right}
use Rattle.rip_automaton.proofs.Shapes.{shape, Fits}
use Rattle.rip_automaton.proofs.Leaving.{Leaves}

-- as an expression, it does what one operand of its shape does
abbrev pub AsExpression : Phrase → Type 0
AsExpression d = is_expression d ≡ true → (st : List Frame) (out : List Event) (t : Lexeme) (r : List Lexeme) → IsMade d (t ∷ r) → Fits st (level d)
    → (top_bars st ≡ true → has_bare_in d ≡ false) → Leaves (level d) (ends_postfix d) t
    → go (Some (At M.Operand st out)) (spell d (t ∷ r)) ≡ go (after (shape d) st (emit d out) t) r

-- declarations stand in a script and in a body
abbrev pub takes_declarations : List Frame → Bool
takes_declarations (F.Script ∷ st) = true
takes_declarations (F.Body owner parameters count ∷ st) = true
takes_declarations _ = false

-- as a statement or a declaration
abbrev pub AsElement : Phrase → Type 0
AsElement d = is_element d ≡ true → (st : List Frame) (out : List Event) (t : Lexeme) (r : List Lexeme) → IsMade d (t ∷ r)
    → (is_statement d ≡ false → takes_declarations st ≡ true) → is_finally_word t.word ≡ false
    → go (Some (At M.Statement st out)) (spell d (t ∷ r)) ≡ go (ended st (emit d out) t) r

-- as a block of a `try`
abbrev pub AsBlock : Phrase → Type 0
AsBlock d = is_block d ≡ true → (st : List Frame) (out : List Event) (t : Lexeme) (r : List Lexeme) → IsMade d (t ∷ r)
    → go (Some (At M.OpenBlock st out)) (spell d (t ∷ r)) ≡ go (ended st (emit d out) t) r

-- the marks behind an entry
abbrev pub is_entry_end : Word → Bool
is_entry_end W.Comma = true
is_entry_end W.CloseBrace = true
is_entry_end _ = false

-- as an entry of an object literal
abbrev pub AsEntry : Phrase → Type 0
AsEntry d = is_entry d ≡ true → (place count : ℕ) (st : List Frame) (out : List Event) (t : Lexeme) (r : List Lexeme) → IsMade d (t ∷ r) → is_entry_end t.word ≡ true
    → go (Some (At M.Key (F.Object place count ∷ st) out)) (spell d (t ∷ r)) ≡ go (entries_by t.word place (count + 1) st (emit d out)) r

-- declarators in the init of a `for` have no bare `in`
abbrev pub is_init_role : VarRole → Bool
is_init_role V.Init = true
is_init_role V.Statement = false

-- a lexeme behind a declarator: a comma, a `;`, or what the empty spelling of `;` stands before
pub data EndsDeclarator (continued : Word → Bool) (t : Lexeme) : Type 0 where
  Separated : t.word ≡ W.Comma → EndsDeclarator continued t
  Ended : t.word ≡ W.Semicolon → EndsDeclarator continued t
  Broken : is_inserted continued t ≡ true → EndsDeclarator continued t

-- as a declarator
abbrev pub AsDeclarator : Phrase → Type 0
AsDeclarator d = is_declarator d ≡ true → (role : VarRole) (place count : ℕ) (st : List Frame) (out : List Event) (t : Lexeme) (r : List Lexeme) → IsMade d (t ∷ r)
    → (is_init_role role ≡ true → has_bare_in d ≡ false) → EndsDeclarator (continues_behind d) t
    → go (Some (At M.DeclaratorName (F.Declarators role place count ∷ st) out)) (spell d (t ∷ r)) ≡ go (declared (is_inserted (continues_behind d) t) (F.Declarators role place count ∷ st) (emit d out) t) r

-- the words behind a clause of a `switch`
abbrev pub is_clause_end : Word → Bool
is_clause_end W.Case = true
is_clause_end W.Default = true
is_clause_end W.CloseBrace = true
is_clause_end _ = false

abbrev pub is_default : Phrase → Bool
is_default (Default w c l) = true
is_default _ = false

-- as a clause of a `switch`
abbrev pub AsClause : Phrase → Type 0
AsClause d = is_clause d ≡ true → (place count : ℕ) (seen : Bool) (st : List Frame) (out : List Event) (t : Lexeme) (r : List Lexeme) → IsMade d (t ∷ r)
    → (is_default d ≡ true → seen ≡ false) → is_clause_end t.word ≡ true
    → go (Some (At M.Clause (F.Switch place count seen ∷ st) out)) (spell d (t ∷ r)) ≡ go (clause (F.Switch place (count + 1) (is_default d || seen) ∷ st) (emit d out) t) r

-- as a catch clause
abbrev pub AsCatch : Phrase → Type 0
AsCatch d = is_catch d ≡ true → (place : ℕ) (st : List Frame) (out : List Event) (t : Lexeme) (r : List Lexeme) → IsMade d (t ∷ r)
    → go (Some (At M.Ended (F.Try place ∷ st) out)) (spell d (t ∷ r)) ≡ go (ended (F.Handled place ∷ st) (emit d out) t) r

-- as a finally clause, where `finally` leads to its block
abbrev pub AsFinally : Phrase → Type 0
AsFinally d = is_finally d ≡ true → (place : ℕ) (before : List Frame) (was : List Event) (st : List Frame) (out : List Event) (t : Lexeme) (r : List Lexeme) → IsMade d (t ∷ r)
    → ((u : Lexeme) → u.word ≡ W.Finally → ended before was u ≡ Some (At M.OpenBlock (F.Finally place ∷ st) out))
    → go (Some (At M.Ended before was)) (spell d (t ∷ r)) ≡ go (ended st (node_at place H.Try 3 ∷ emit d out) t) r

-- as the init of a `for`
abbrev pub AsInit : Phrase → Type 0
AsInit d = is_init d ≡ true → (place : ℕ) (st : List Frame) (out : List Event) (t : Lexeme) (r : List Lexeme) → IsMade d (t ∷ r) → has_bare_in d ≡ false → t.word ≡ W.Semicolon
    → go (Some (At M.ForInit (F.ForInit place ∷ st) out)) (spell d (t ∷ r)) ≡ go (Some (At M.ForTest (F.ForTest place ∷ st) (emit d out))) r

-- as whatever it is
pub record Own (d : Phrase) : Type 0 where
  pub expression : AsExpression d
  pub element : AsElement d
  pub block : AsBlock d
  pub entry : AsEntry d
  pub declarator : AsDeclarator d
  pub clause : AsClause d
  pub handler : AsCatch d
  pub finisher : AsFinally d
  pub init : AsInit d

-- each part of a list
abbrev pub Each : Phrase → Type 0
Each (More l d) = Each l × Own d
Each (CommaMore l c d) = Each l × Own d
Each (Trailing l c) = Each l
Each _ = Unit {0}

-- the roles that a phrase does not play
pub record NoElement (d : Phrase) : Type 0 where
  pub element : is_element d ≡ false
  pub block : is_block d ≡ false

pub record NoPart (d : Phrase) : Type 0 where
  pub entry : is_entry d ≡ false
  pub declarator : is_declarator d ≡ false
  pub clause : is_clause d ≡ false
  pub handler : is_catch d ≡ false
  pub finisher : is_finally d ≡ false

pub record NoExpression (d : Phrase) : Type 0 where
  pub expression : is_expression d ≡ false
  pub init : is_init d ≡ false

abbrev pub is_part : Phrase → Bool
is_part d = is_entry d || (is_declarator d || (is_clause d || (is_catch d || is_finally d)))

pub no_element : (d : Phrase) → (is_element d || is_block d) ≡ false → NoElement d
no_element d e = record { element = or_left (is_element d) (is_block d) e; block = or_right (is_element d) (is_block d) e }

pub no_part : (d : Phrase) → is_part d ≡ false → NoPart d
no_part d e =
    let behind_entry = or_right (is_entry d) (is_declarator d || (is_clause d || (is_catch d || is_finally d))) e in
    let behind_declarator = or_right (is_declarator d) (is_clause d || (is_catch d || is_finally d)) behind_entry in
    let behind_clause = or_right (is_clause d) (is_catch d || is_finally d) behind_declarator in
    record {
      entry = or_left (is_entry d) (is_declarator d || (is_clause d || (is_catch d || is_finally d))) e;
      declarator = or_left (is_declarator d) (is_clause d || (is_catch d || is_finally d)) behind_entry;
      clause = or_left (is_clause d) (is_catch d || is_finally d) behind_declarator;
      handler = or_left (is_catch d) (is_finally d) behind_clause;
      finisher = or_right (is_catch d) (is_finally d) behind_clause;
    }

pub no_expression : (d : Phrase) → (is_expression d || is_init d) ≡ false → NoExpression d
no_expression d e = record { expression = or_left (is_expression d) (is_init d) e; init = or_right (is_expression d) (is_init d) e }

-- an expression
pub own_expression : (d : Phrase) → NoElement d → NoPart d → AsExpression d → AsInit d → Own d
own_expression d no_element no_part told init = record {
  expression = told;
  element = λ e. by_false (is_element d) no_element.element e;
  block = λ e. by_false (is_block d) no_element.block e;
  entry = λ e. by_false (is_entry d) no_part.entry e;
  declarator = λ e. by_false (is_declarator d) no_part.declarator e;
  clause = λ e. by_false (is_clause d) no_part.clause e;
  handler = λ e. by_false (is_catch d) no_part.handler e;
  finisher = λ e. by_false (is_finally d) no_part.finisher e;
  init = init;
}

-- a statement or a declaration
pub own_element : (d : Phrase) → NoExpression d → NoPart d → AsElement d → AsBlock d → Own d
own_element d no_expression no_part told block = record {
  expression = λ e. by_false (is_expression d) no_expression.expression e;
  element = told;
  block = block;
  entry = λ e. by_false (is_entry d) no_part.entry e;
  declarator = λ e. by_false (is_declarator d) no_part.declarator e;
  clause = λ e. by_false (is_clause d) no_part.clause e;
  handler = λ e. by_false (is_catch d) no_part.handler e;
  finisher = λ e. by_false (is_finally d) no_part.finisher e;
  init = λ e. by_false (is_init d) no_expression.init e;
}

-- a part of another phrase
pub own_part : (d : Phrase) → NoExpression d → NoElement d → AsEntry d → AsDeclarator d → AsClause d → AsCatch d → AsFinally d → Own d
own_part d no_expression no_element entry declarator clause handler finisher = record {
  expression = λ e. by_false (is_expression d) no_expression.expression e;
  element = λ e. by_false (is_element d) no_element.element e;
  block = λ e. by_false (is_block d) no_element.block e;
  entry = entry;
  declarator = declarator;
  clause = clause;
  handler = handler;
  finisher = finisher;
  init = λ e. by_false (is_init d) no_expression.init e;
}
