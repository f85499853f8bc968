-- The words that continue an expression are those with which the machine goes on in it.
use Rattle.std.proofs.Common.{◌≡◌, ℕ, Bool, true, false, [], ◌∷◌, refl, sym, subst}
use Rattle.rip_base.specs.declared.operator.BinaryOperator.TheVariants as B
use Rattle.rip_base.specs.declared.operator.LogicalOperator.TheVariants as L
use Rattle.rip_grammar.specs.declared.word.Word.{Word}
use Rattle.rip_grammar.specs.declared.word.Word.TheVariants as W
use Rattle.rip_grammar.specs.declared.word.Lexeme.{Lexeme}
use Rattle.rip_automaton.specs.declared.frame.Frame.TheVariants as F
use Rattle.rip_automaton.specs.declared.mode.Shape.TheVariants as S
use Rattle.rip_automaton.specs.Continuations.{after}
use Rattle.rip_automaton.specs.Laws.{GoesOnBehindName, GoesOnBehindPostfix}
use Rattle.rip_automaton.specs.Insertion.{stays_open}
use Rattle.rip_grammar.specs.Semicolons.{continues}

-- a lexeme of this word, with this said of a line end before it
abbrev with_line : Word → ℕ → ℕ → Bool → Lexeme
with_line w start count line = record { word = w; start = start; count = count; line_before = line }

by_word : (w : Word) (start count : ℕ) → stays_open (after S.Target (F.Expression ∷ []) [] (with_line w start count true)) ≡ continues false w
by_word (W.Infix B.Multiply) start count = refl
by_word (W.Infix B.Divide) start count = refl
by_word (W.Infix B.Remainder) start count = refl
by_word (W.Infix B.Add) start count = refl
by_word (W.Infix B.Subtract) start count = refl
by_word (W.Infix B.ShiftLeft) start count = refl
by_word (W.Infix B.ShiftRight) start count = refl
by_word (W.Infix B.ShiftRightUnsigned) start count = refl
by_word (W.Infix B.Less) start count = refl
by_word (W.Infix B.Greater) start count = refl
by_word (W.Infix B.LessOrEqual) start count = refl
by_word (W.Infix B.GreaterOrEqual) start count = refl
by_word (W.Infix B.InstanceOf) start count = refl
by_word (W.Infix B.In) start count = refl
by_word (W.Infix B.Equal) start count = refl
by_word (W.Infix B.NotEqual) start count = refl
by_word (W.Infix B.StrictEqual) start count = refl
by_word (W.Infix B.StrictNotEqual) start count = refl
by_word (W.Infix B.BitAnd) start count = refl
by_word (W.Infix B.BitXor) start count = refl
by_word (W.Infix B.BitOr) start count = refl
by_word (W.Logical L.And) start count = refl
by_word (W.Logical L.Or) start count = refl
by_word w start count = refl

pub behind_name : GoesOnBehindName
behind_name t line = subst (λ b. stays_open (after S.Target (F.Expression ∷ []) [] (with_line t.word t.start t.count b)) ≡ continues false t.word) (sym line) (by_word t.word t.start t.count)

by_postfix : (w : Word) (start count : ℕ) → stays_open (after S.Postfix (F.Expression ∷ []) [] (with_line w start count true)) ≡ true → continues true w ≡ true
by_postfix (W.Infix B.Multiply) start count open_still = refl
by_postfix (W.Infix B.Divide) start count open_still = refl
by_postfix (W.Infix B.Remainder) start count open_still = refl
by_postfix (W.Infix B.Add) start count open_still = refl
by_postfix (W.Infix B.Subtract) start count open_still = refl
by_postfix (W.Infix B.ShiftLeft) start count open_still = refl
by_postfix (W.Infix B.ShiftRight) start count open_still = refl
by_postfix (W.Infix B.ShiftRightUnsigned) start count open_still = refl
by_postfix (W.Infix B.Less) start count open_still = refl
by_postfix (W.Infix B.Greater) start count open_still = refl
by_postfix (W.Infix B.LessOrEqual) start count open_still = refl
by_postfix (W.Infix B.GreaterOrEqual) start count open_still = refl
by_postfix (W.Infix B.InstanceOf) start count open_still = refl
by_postfix (W.Infix B.In) start count open_still = refl
by_postfix (W.Infix B.Equal) start count open_still = refl
by_postfix (W.Infix B.NotEqual) start count open_still = refl
by_postfix (W.Infix B.StrictEqual) start count open_still = refl
by_postfix (W.Infix B.StrictNotEqual) start count open_still = refl
by_postfix (W.Infix B.BitAnd) start count open_still = refl
by_postfix (W.Infix B.BitXor) start count open_still = refl
by_postfix (W.Infix B.BitOr) start count open_still = refl
by_postfix W.Point start count open_still = refl
by_postfix W.Assign start count open_still = refl
by_postfix (W.Compound op) start count open_still = refl
by_postfix (W.Logical L.And) start count open_still = refl
by_postfix (W.Logical L.Or) start count open_still = refl
by_postfix w start count open_still = open_still

pub behind_postfix : GoesOnBehindPostfix
behind_postfix t line stays =
    by_postfix t.word t.start t.count
    (subst (λ b. stays_open (after S.Postfix (F.Expression ∷ []) [] (with_line t.word t.start t.count b)) ≡ true) line stays)
