-- How tightly open forms hold, and which phrases fit them.
use Rattle.std.proofs.Common.{◌≡◌, ℕ, ◌<◌, ◌≤◌, nat_le, Bool, true, false, ◌&&◌, ◌||◌, List, [], ◌∷◌, refl, subst, arith}
use Rattle.rip_base.specs.declared.operator.BinaryOperator.{BinaryOperator}
use Rattle.rip_base.specs.declared.operator.BinaryOperator.TheVariants as B
use Rattle.rip_base.specs.declared.operator.LogicalOperator.TheVariants as L
use Rattle.rip_grammar.specs.declared.word.Word.{Word}
use Rattle.rip_grammar.specs.declared.word.Word.TheVariants as W
use Rattle.rip_automaton.specs.declared.frame.Pending.TheVariants as P
use Rattle.rip_automaton.specs.declared.frame.Frame.{Frame}
use Rattle.rip_automaton.specs.declared.frame.Frame.TheVariants as F
use Rattle.rip_grammar.specs.Words.{is_comma}
use Rattle.rip_grammar.specs.Phrases.{Phrase}
use Rattle.rip_grammar.specs.Levels.{level, binds, operator_level}
use Rattle.rip_grammar.specs.Grammar.{holds}
use Rattle.rip_automaton.proofs.Open.{takes_operand, is_new, top, fit}

-- the levels of operators between two operands: 1 for the comma, and from 4 to 13
operator_between : (op : BinaryOperator) → (nat_le 4 (operator_level op) && nat_le (operator_level op) 13) ≡ true
operator_between B.Multiply = refl
operator_between B.Divide = refl
operator_between B.Remainder = refl
operator_between B.Add = refl
operator_between B.Subtract = refl
operator_between B.ShiftLeft = refl
operator_between B.ShiftRight = refl
operator_between B.ShiftRightUnsigned = refl
operator_between B.Less = refl
operator_between B.Greater = refl
operator_between B.LessOrEqual = refl
operator_between B.GreaterOrEqual = refl
operator_between B.InstanceOf = refl
operator_between B.In = refl
operator_between B.Equal = refl
operator_between B.NotEqual = refl
operator_between B.StrictEqual = refl
operator_between B.StrictNotEqual = refl
operator_between B.BitAnd = refl
operator_between B.BitXor = refl
operator_between B.BitOr = refl

-- a number that binds as an operator does, or not at all
abbrev is_level : ℕ → Bool
is_level n = nat_le n 1 || (nat_le 4 n && nat_le n 13)

either_true : (a b : Bool) → b ≡ true → (a || b) ≡ true
either_true true b h = refl
either_true false b h = h

binds_level : (w : Word) → is_level (binds w) ≡ true
binds_level (W.Infix op) = either_true _ _ (operator_between op)
binds_level (W.Logical L.And) = refl
binds_level (W.Logical L.Or) = refl
binds_level _ = refl

level_most : (n : ℕ) → is_level n ≡ true → n ≤ 13
level_most n h = grind (arith, h)

level_gap : (n : ℕ) → is_level n ≡ true → n < 4 → n ≤ 1
level_gap n h less = grind (arith, h, less)

-- an operator that is no comma holds tighter than a comma
tighter_by : (n : ℕ) → (nat_le 4 n && nat_le n 13) ≡ true → (nat_le n 0 || nat_le 2 n) ≡ true
tighter_by n h = grind (arith, h)

tighter_than_comma : (w : Word) → is_comma w ≡ false → (nat_le (binds w) 0 || nat_le 2 (binds w)) ≡ true
tighter_than_comma (W.Infix op) h = tighter_by (operator_level op) (operator_between op)
tighter_than_comma (W.Logical L.And) h = refl
tighter_than_comma (W.Logical L.Or) h = refl
tighter_than_comma W.Comma h = cc
tighter_than_comma w h = refl

at_least_two : (n : ℕ) → (nat_le n 0 || nat_le 2 n) ≡ true → 0 < n → 2 ≤ n
at_least_two n h some = grind (arith, h, some)

pub no_comma_binds : (w : Word) (n : ℕ) → binds w ≡ n → is_comma w ≡ false → 0 < n → 2 ≤ n
no_comma_binds w n is other some = at_least_two n (subst (λ m. (nat_le m 0 || nat_le 2 m) ≡ true) is (tighter_than_comma w other)) some

pub binds_most : (w : Word) → binds w ≤ 13
binds_most w = level_most (binds w) (binds_level w)

pub binds_gap : (w : Word) → binds w < 4 → binds w ≤ 1
binds_gap w less = level_gap (binds w) (binds_level w) less

-- a primary, or what stands behind one, fits each form that takes an operand
or_left : (a b : Bool) → a ≡ true → (a || b) ≡ true
or_left true b h = refl
or_left false b h = cc

pub le_true : (a b : ℕ) → a ≤ b → nat_le a b ≡ true
le_true a b h = grind (arith, h)

pub fit_of : (st : List Frame) (d : Phrase) → top takes_operand st ≡ true → 17 ≤ level d → (top is_new st ≡ true → holds 18 d ≡ true) → fit st d ≡ true
fit_of [] d hole tight new = cc
fit_of (F.Operator (P.Infix w) b ∷ st) d hole tight new = let most : binds w ≤ 13 = binds_most w in le_true _ _ (omega arith)
fit_of (F.Operator (P.Prefix place w) b ∷ st) d hole tight new = le_true _ _ (omega arith)
fit_of (F.Operator (P.New place) b ∷ st) d hole tight new = or_left _ _ (new refl)
fit_of (F.Operator (P.Assignment w) b ∷ st) d hole tight new = le_true _ _ (omega arith)
fit_of (F.Operator P.Choice b ∷ st) d hole tight new = le_true _ _ (omega arith)
fit_of (f ∷ st) d hole tight new = le_true _ _ (omega arith)
