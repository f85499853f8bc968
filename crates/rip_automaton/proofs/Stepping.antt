-- Facts on words, tests and levels that proofs about the machine share.
use Rattle.std.proofs.Common.{◌≡◌, ℕ, ◌<◌, ◌≤◌, nat_le, Bool, true, false, not, ◌&&◌, ◌||◌, cond, List, [], ◌∷◌, Option, refl, sym, ap, ◌∙◌, subst, ◌⊎◌, inl, inr, arith, leb-true, le-leb}
use Rattle.rip_base.specs.declared.operator.BinaryOperator.{BinaryOperator}
use Rattle.rip_base.specs.declared.operator.BinaryOperator.TheVariants as B
use Rattle.rip_base.specs.declared.operator.LogicalOperator.TheVariants as L
use Rattle.rip_grammar.specs.declared.word.Word.{Word}
use Rattle.rip_grammar.specs.declared.word.Word.TheVariants as W
use Rattle.rip_grammar.specs.declared.word.Lexeme.{Lexeme}
use Rattle.rip_grammar.specs.Words.{is_single, is_prefix, is_comma}
use Rattle.rip_grammar.specs.Levels.{binds, operator_level}
use Rattle.rip_grammar.specs.Semicolons.{Next}
use Rattle.rip_automaton.specs.States.{State}
use Rattle.rip_automaton.specs.Machine.{feed, go}

-- what is said of a lexeme with a known word, said of the lexeme
pub at_word : (P : Lexeme → Type 0) (t : Lexeme) (w : Word) → t.word ≡ w → P (record t { word = w }) → P t
at_word P t w e p = subst (λ (v : Word). P (record t { word = v })) (sym e) p

-- tests
pub false_true {ℓ} : {A : Type ℓ} → false ≡ true → A
false_true e = absurd (cc)

pub by_false {ℓ} : {A : Type ℓ} (b : Bool) → b ≡ false → b ≡ true → A
by_false b f t = false_true (sym f ∙ t)

pub cond_true : {A : Type 0} (b : Bool) (x y : A) → b ≡ true → cond b x y ≡ x
cond_true b x y e = ap (λ (c : Bool). cond c x y) e

pub cond_false : {A : Type 0} (b : Bool) (x y : A) → b ≡ false → cond b x y ≡ y
cond_false b x y e = ap (λ (c : Bool). cond c x y) e

pub both : {A : Type 0} (b : Bool) (x y u v : A) → x ≡ u → y ≡ v → cond b x y ≡ cond b u v
both b x y u v e f = cc

pub or_left : (x y : Bool) → (x || y) ≡ false → x ≡ false
or_left true y e = e
or_left false y e = refl

pub or_right : (x y : Bool) → (x || y) ≡ false → y ≡ false
or_right true y e = absurd (false_true (sym e))
or_right false y e = e

pub and_left : (x y : Bool) → (x && y) ≡ true → x ≡ true
and_left true y e = refl
and_left false y e = e

pub and_right : (x y : Bool) → (x && y) ≡ true → y ≡ true
and_right true y e = e
and_right false y e = absurd (false_true e)

pub not_true : (x : Bool) → not x ≡ true → x ≡ false
not_true true e = absurd (false_true e)
not_true false e = refl

pub bool : (b : Bool) → (b ≡ true) ⊎ (b ≡ false)
bool true = inl refl
bool false = inr refl

-- numbers
pub at_least : (n m : ℕ) → nat_le n m ≡ true → n ≤ m
at_least n m e = leb-true n m e

pub is_at_least : (n m : ℕ) → n ≤ m → nat_le n m ≡ true
is_at_least n m e = le-leb n m e

pub is_below : (n m : ℕ) → m < n → nat_le n m ≡ false
is_below n m e = below_by (nat_le n m) refl
  where
    below_by : (b : Bool) → nat_le n m ≡ b → nat_le n m ≡ false
    below_by true h = let k : n ≤ m = leb-true n m h in absurd (omega arith)
    below_by false h = h

-- how tightly operators hold
operator_range : (op : BinaryOperator) → (6 ≤ operator_level op) × (operator_level op ≤ 13)
operator_range B.Multiply = (omega arith, omega arith)
operator_range B.Divide = (omega arith, omega arith)
operator_range B.Remainder = (omega arith, omega arith)
operator_range B.Add = (omega arith, omega arith)
operator_range B.Subtract = (omega arith, omega arith)
operator_range B.ShiftLeft = (omega arith, omega arith)
operator_range B.ShiftRight = (omega arith, omega arith)
operator_range B.ShiftRightUnsigned = (omega arith, omega arith)
operator_range B.Less = (omega arith, omega arith)
operator_range B.Greater = (omega arith, omega arith)
operator_range B.LessOrEqual = (omega arith, omega arith)
operator_range B.GreaterOrEqual = (omega arith, omega arith)
operator_range B.InstanceOf = (omega arith, omega arith)
operator_range B.In = (omega arith, omega arith)
operator_range B.Equal = (omega arith, omega arith)
operator_range B.NotEqual = (omega arith, omega arith)
operator_range B.StrictEqual = (omega arith, omega arith)
operator_range B.StrictNotEqual = (omega arith, omega arith)
operator_range B.BitAnd = (omega arith, omega arith)
operator_range B.BitXor = (omega arith, omega arith)
operator_range B.BitOr = (omega arith, omega arith)

-- a word between two operands holds as 1 or from 4 to 13
pub record Binding (n : ℕ) : Type 0 where
  pub most : n ≤ 13
  pub gap : 1 < n → 4 ≤ n

pub binding : (w : Word) → Binding (binds w)
binding (W.Infix op) = record { most = (operator_range op).1; gap = λ e. let k : 6 ≤ operator_level op = (operator_range op).0 in omega arith }
binding (W.Logical L.And) = record { most = omega arith; gap = λ e. omega arith }
binding (W.Logical L.Or) = record { most = omega arith; gap = λ e. omega arith }
binding W.Comma = record { most = omega arith; gap = λ e. absurd (omega arith) }
binding _ = record { most = omega arith; gap = λ e. absurd (omega arith) }

pub comma_binds : (w : Word) → is_comma w ≡ true → binds w ≡ 1
comma_binds W.Comma e = refl
comma_binds _ e = absurd (false_true e)

-- a word alone is no operator before an operand
pub single_no_prefix : (w : Word) → is_single w ≡ true → is_prefix w ≡ false
single_no_prefix (W.Infix op) e = absurd (false_true e)
single_no_prefix (W.Prefix op) e = absurd (false_true e)
single_no_prefix (W.Step op) e = absurd (false_true e)
single_no_prefix _ e = refl

-- `finally`
abbrev pub is_finally_word : Word → Bool
is_finally_word W.Finally = true
is_finally_word _ = false

-- two states that do the same with the next lexeme, do the same with all
pub turn : (P : Lexeme → Type 0) (s u : Option State) → ((t : Lexeme) → P t → feed s t ≡ feed u t) → (x : List Lexeme) → Next x P → go s x ≡ go u x
turn P s u same [] n = absurd n
turn P s u same (t ∷ r) n = ap (λ (v : Option State). go v r) (same t n)

-- what is said of lists that begin so
pub on_first : (P : Lexeme → Type 0) (Q : List Lexeme → Type 0) → ((t : Lexeme) (r : List Lexeme) → P t → Q (t ∷ r)) → (x : List Lexeme) → Next x P → Q x
on_first P Q q [] n = absurd n
on_first P Q q (t ∷ r) n = q t r n
