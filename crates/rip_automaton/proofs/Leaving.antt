-- Lexemes that leave an expression alone: what the machine does with them behind its last operand.
use Rattle.std.proofs.Common.{◌≡◌, ℕ, zero, suc, ◌<◌, ◌≤◌, Bool, true, false, not, ◌&&◌, ◌||◌, cond, List, ◌∷◌, Option, Some, refl, sym, ap, ◌∙◌, subst, arith}
use Rattle.rip_grammar.specs.declared.word.Word.{Word}
use Rattle.rip_grammar.specs.declared.word.Word.TheVariants as W
use Rattle.rip_grammar.specs.declared.word.Lexeme.{Lexeme}
use Rattle.rip_grammar.specs.declared.event.Event.{Event}
use Rattle.rip_automaton.specs.declared.frame.Pending.{Pending}
use Rattle.rip_automaton.specs.declared.frame.Frame.{Frame}
use Rattle.rip_automaton.specs.declared.frame.Frame.TheVariants as F
use Rattle.rip_automaton.specs.declared.mode.Mode.TheVariants as M
use Rattle.rip_automaton.specs.declared.mode.Shape.{Shape}
use Rattle.rip_automaton.specs.declared.mode.Shape.TheVariants as S
use Rattle.rip_grammar.specs.Words.{is_comma, is_in, is_semicolon, is_close, is_assignment}
use Rattle.rip_grammar.specs.Levels.{binds}
use Rattle.rip_grammar.specs.Semicolons.{continues, is_inserted}
use Rattle.rip_automaton.specs.Frames.{in_postfix, closed, pending_level, may_end, told, top_bars}
use Rattle.rip_automaton.specs.States.{State, At}
use Rattle.rip_automaton.specs.Statements.{ended, finish}
use Rattle.rip_automaton.specs.Continuations.{leave, operator_begins, separate, after_mark, after_by, after, close}
use Rattle.rip_automaton.proofs.Stepping.{false_true, cond_true, cond_false, both, and_left, and_right, not_true, Binding, binding}
use Rattle.rip_automaton.proofs.Shapes.{ends}

-- The lexeme leaves alone an expression of this level, which ends in a postfix operator or not.
abbrev pub LeavesMark : Word → ℕ → Bool → Bool → Type 0
LeavesMark W.Question n p line = 4 ≤ n
LeavesMark W.Point n p line = 17 ≤ n
LeavesMark W.OpenParenthesis n p line = p ≡ false → 17 ≤ n
LeavesMark W.OpenBracket n p line = p ≡ false → 17 ≤ n
LeavesMark (W.Step op) n p line = line ≡ false → 17 ≤ n
LeavesMark _ n p line = Unit {0}

abbrev pub LeavesBy : ℕ → Word → ℕ → Bool → Bool → Type 0
LeavesBy zero w n p line = (is_assignment w ≡ true → 17 ≤ n) × LeavesMark w n p line
LeavesBy (suc b) w n p line = suc b ≤ n

abbrev pub LeavesWord : Word → ℕ → Bool → Bool → Type 0
LeavesWord w n p line = LeavesBy (binds w) w n p line

-- a record, so that its arguments are found
pub record Leaves (n : ℕ) (p : Bool) (t : Lexeme) : Type 0 where
  pub leaves : LeavesWord t.word n p t.line_before

mark_up : (w : Word) (n m : ℕ) (p line : Bool) → n ≤ m → LeavesMark w n p line → LeavesMark w m p line
mark_up W.Question n m p line h l = omega arith
mark_up W.Point n m p line h l = omega arith
mark_up W.OpenParenthesis n m p line h l = λ e. let k : 17 ≤ n = l e in omega arith
mark_up W.OpenBracket n m p line h l = λ e. let k : 17 ≤ n = l e in omega arith
mark_up (W.Step op) n m p line h l = λ e. let k : 17 ≤ n = l e in omega arith
mark_up _ n m p line h l = tt

by_up : (b : ℕ) (w : Word) (n m : ℕ) (p line : Bool) → n ≤ m → LeavesBy b w n p line → LeavesBy b w m p line
by_up zero w n m p line h l = (λ e. let k : 17 ≤ n = l.0 e in omega arith, mark_up w n m p line h l.1)
by_up (suc b) w n m p line h l = omega arith

-- it leaves alone what holds more tightly
pub leaves_up : (n m : ℕ) (p : Bool) (t : Lexeme) → Leaves n p t → n ≤ m → Leaves m p t
leaves_up n m p t l h = record { leaves = by_up (binds t.word) t.word n m p t.line_before h l.leaves }

mark_down : (w : Word) (p line : Bool) → LeavesMark w 3 p line → LeavesMark w 2 p line
mark_down W.Question p line l = absurd (omega arith)
mark_down W.Point p line l = absurd (omega arith)
mark_down W.OpenParenthesis p line l = λ e. let k : 17 ≤ 3 = l e in absurd (omega arith)
mark_down W.OpenBracket p line l = λ e. let k : 17 ≤ 3 = l e in absurd (omega arith)
mark_down (W.Step op) p line l = λ e. let k : 17 ≤ 3 = l e in absurd (omega arith)
mark_down _ p line l = tt

down : (n : ℕ) → (1 < n → 4 ≤ n) → n ≤ 3 → n ≤ 2
down n g h = grind arith

by_down : (b : ℕ) (w : Word) (p line : Bool) → Binding b → LeavesBy b w 3 p line → LeavesBy b w 2 p line
by_down zero w p line g l = (λ e. let k : 17 ≤ 3 = l.0 e in absurd (omega arith), mark_down w p line l.1)
by_down (suc b) w p line g l = down (suc b) g.gap l

-- what leaves `? :` alone leaves an assignment alone
pub leaves_down : (p : Bool) (t : Lexeme) → Leaves 3 p t → Leaves 2 p t
leaves_down p t l = record { leaves = by_down (binds t.word) t.word p t.line_before (binding t.word) l.leaves }

mark_tight : (w : Word) (n : ℕ) (p line : Bool) → 17 ≤ n → LeavesMark w n p line
mark_tight W.Question n p line h = omega arith
mark_tight W.Point n p line h = h
mark_tight W.OpenParenthesis n p line h = λ e. h
mark_tight W.OpenBracket n p line h = λ e. h
mark_tight (W.Step op) n p line h = λ e. h
mark_tight _ n p line h = tt

by_tight : (b : ℕ) (w : Word) (n : ℕ) (p line : Bool) → b ≤ 13 → 17 ≤ n → LeavesBy b w n p line
by_tight zero w n p line k h = (λ e. h, mark_tight w n p line h)
by_tight (suc b) w n p line k h = omega arith

-- every lexeme leaves a call alone, and what holds more tightly
pub leaves_tight : (n : ℕ) (p : Bool) (t : Lexeme) → 17 ≤ n → Leaves n p t
leaves_tight n p t h = record { leaves = by_tight (binds t.word) t.word n p t.line_before (binding t.word).most h }

by_operator : (b : ℕ) (w : Word) (n : ℕ) (p line : Bool) → 0 < b → b ≤ n → LeavesBy b w n p line
by_operator zero w n p line h k = absurd (omega arith)
by_operator (suc b) w n p line h k = k

-- an operator leaves alone what holds as tightly
pub leaves_operator : (n : ℕ) (p : Bool) (t : Lexeme) → 0 < binds t.word → binds t.word ≤ n → Leaves n p t
leaves_operator n p t h k = record { leaves = by_operator (binds t.word) t.word n p t.line_before h k }

-- a lexeme with a known word
pub leaves_word : (n : ℕ) (p : Bool) (t : Lexeme) (w : Word) → t.word ≡ w → LeavesWord w n p t.line_before → Leaves n p t
leaves_word n p t w e l = record { leaves = subst (λ (v : Word). LeavesWord v n p t.line_before) (sym e) l }

-- the marks that end an expression
abbrev pub is_ender : Word → Bool
is_ender W.CloseParenthesis = true
is_ender W.CloseBracket = true
is_ender W.CloseBrace = true
is_ender W.Colon = true
is_ender W.Semicolon = true
is_ender _ = false

word_ender : (w : Word) (n : ℕ) (p line : Bool) → is_ender w ≡ true → LeavesWord w n p line
word_ender W.CloseParenthesis n p line e = (λ f. absurd (false_true f), tt)
word_ender W.CloseBracket n p line e = (λ f. absurd (false_true f), tt)
word_ender W.CloseBrace n p line e = (λ f. absurd (false_true f), tt)
word_ender W.Colon n p line e = (λ f. absurd (false_true f), tt)
word_ender W.Semicolon n p line e = (λ f. absurd (false_true f), tt)
word_ender _ n p line e = absurd (false_true e)

pub leaves_ender : (n : ℕ) (p : Bool) (t : Lexeme) → is_ender t.word ≡ true → Leaves n p t
leaves_ender n p t e = record { leaves = word_ender t.word n p t.line_before e }

-- what the empty spelling of `;` stands before
pub record Inserted (continued : Word → Bool) (t : Lexeme) : Type 0 where
  pub breaks : (is_close t.word || t.line_before) ≡ true
  pub other : is_semicolon t.word ≡ false
  pub ends : continued t.word ≡ false

pub inserted : (continued : Word → Bool) (t : Lexeme) → is_inserted continued t ≡ true → Inserted continued t
inserted continued t e =
    let breaks = is_close t.word || t.line_before in
    let first : (breaks && not (is_semicolon t.word)) ≡ true = and_left (breaks && not (is_semicolon t.word)) (not (continued t.word)) e in
    record {
      breaks = and_left breaks (not (is_semicolon t.word)) first;
      other = not_true _ (and_right breaks (not (is_semicolon t.word)) first);
      ends = not_true _ (and_right (breaks && not (is_semicolon t.word)) (not (continued t.word)) e);
    }

word_inserted : (w : Word) (n : ℕ) (p line : Bool) → continues p w ≡ false → (is_close w || line) ≡ true → LeavesWord w n p line
word_inserted (W.Infix op) n p line c b = absurd (false_true (sym c))
word_inserted (W.Logical op) n p line c b = absurd (false_true (sym c))
word_inserted (W.Compound op) n p line c b = absurd (false_true (sym c))
word_inserted W.Assign n p line c b = absurd (false_true (sym c))
word_inserted W.Question n p line c b = absurd (false_true (sym c))
word_inserted W.Comma n p line c b = absurd (false_true (sym c))
word_inserted W.Point n p line c b = absurd (false_true (sym c))
word_inserted W.OpenParenthesis n p line c b = (λ f. absurd (false_true f), λ f. absurd (false_true (sym c ∙ ap not f)))
word_inserted W.OpenBracket n p line c b = (λ f. absurd (false_true f), λ f. absurd (false_true (sym c ∙ ap not f)))
word_inserted (W.Step op) n p line c b = (λ f. absurd (false_true f), λ f. absurd (false_true (sym f ∙ b)))
word_inserted _ n p line c b = (λ f. absurd (false_true f), tt)

-- it leaves every expression alone
pub leaves_inserted : (n : ℕ) (p : Bool) (t : Lexeme) → Inserted (continues p) t → Leaves n p t
leaves_inserted n p t i = record { leaves = word_inserted t.word n p t.line_before i.ends i.breaks }

-- behind the last operand of an operator that it leaves alone, a lexeme does what it does behind the whole
leave_pops : (o : Pending) (st : List Frame) (sh : Shape) (out : List Event) (t : Lexeme) → pending_level o ≤ 16 → may_end o sh ≡ true → 1 ≤ pending_level o
    → leave sh (F.Operator o (top_bars st) ∷ st) out t ≡ leave (closed sh) st (told o ∷ out) t
leave_pops o st sh out t small e h = ends 1 sh o (top_bars st) st out (λ shape below events. close shape below events t) h e

pop_brackets : (sh : Shape) (n : ℕ) (x y : Option State) (u v : Option State) → n ≤ 16 → (in_postfix sh ≡ false → 17 ≤ n) → x ≡ u
    → cond (in_postfix sh) x y ≡ cond (in_postfix (closed sh)) u v
pop_brackets S.Postfix n x y u v small l e = e
pop_brackets S.Target n x y u v small l e = let k : 17 ≤ n = l refl in absurd (omega arith)
pop_brackets S.Plain n x y u v small l e = let k : 17 ≤ n = l refl in absurd (omega arith)

pop_line : (line : Bool) (n : ℕ) (x y u v : Option State) → n ≤ 16 → (line ≡ false → 17 ≤ n) → x ≡ u → cond line x y ≡ cond line u v
pop_line true n x y u v small l e = e
pop_line false n x y u v small l e = let k : 17 ≤ n = l refl in absurd (omega arith)

pop_mark : (w : Word) (o : Pending) (st : List Frame) (sh : Shape) (out : List Event) (t : Lexeme) → pending_level o ≤ 16 → may_end o sh ≡ true → 1 ≤ pending_level o
    → LeavesMark w (pending_level o) (in_postfix sh) t.line_before
    → after_mark w sh (F.Operator o (top_bars st) ∷ st) out t ≡ after_mark w (closed sh) st (told o ∷ out) t
pop_mark W.Question o st sh out t small e h l = ends 4 sh o (top_bars st) st out (λ shape below events. Some (At M.Operand (F.Test ∷ below) events)) l e
pop_mark W.Point o st sh out t small e h l = absurd (omega arith)
pop_mark W.OpenParenthesis o st sh out t small e h l = pop_brackets sh (pending_level o) _ _ _ _ small l (leave_pops o st sh out t small e h)
pop_mark W.OpenBracket o st sh out t small e h l = pop_brackets sh (pending_level o) _ _ _ _ small l (leave_pops o st sh out t small e h)
pop_mark (W.Step op) o st sh out t small e h l = pop_line t.line_before (pending_level o) _ _ _ _ small l (leave_pops o st sh out t small e h)
pop_mark _ o st sh out t small e h l = leave_pops o st sh out t small e h

pop_assign : (b : Bool) (n : ℕ) (x y u v : Option State) → n ≤ 16 → (b ≡ true → 17 ≤ n) → y ≡ v → cond b x y ≡ cond b u v
pop_assign true n x y u v small l e = let k : 17 ≤ n = l refl in absurd (omega arith)
pop_assign false n x y u v small l e = e

pop_by : (b : ℕ) (o : Pending) (st : List Frame) (sh : Shape) (out : List Event) (t : Lexeme) → pending_level o ≤ 16 → may_end o sh ≡ true → 1 ≤ pending_level o
    → LeavesBy b t.word (pending_level o) (in_postfix sh) t.line_before
    → after_by b sh (F.Operator o (top_bars st) ∷ st) out t ≡ after_by b (closed sh) st (told o ∷ out) t
pop_by zero o st sh out t small e h l = pop_assign (is_assignment t.word) (pending_level o) _ _ _ _ small l.0 (pop_mark t.word o st sh out t small e h l.1)
pop_by (suc b) o st sh out t small e h l = both (is_comma t.word) _ _ _ _
    (ends 1 sh o (top_bars st) st out (λ shape below events. separate shape below events t) h e)
    (both (is_in t.word && top_bars st) _ _ _ _ refl (ends (suc b) sh o (top_bars st) st out (λ shape below events. operator_begins t.word below events) l e))

pub pop : (o : Pending) (st : List Frame) (sh : Shape) (out : List Event) (t : Lexeme) → pending_level o ≤ 16 → may_end o sh ≡ true → 1 ≤ pending_level o
    → Leaves (pending_level o) (in_postfix sh) t
    → after sh (F.Operator o (top_bars st) ∷ st) out t ≡ after (closed sh) st (told o ∷ out) t
pop o st sh out t small e h l = pop_by (binds t.word) o st sh out t small e h l.leaves

-- where no operator is open, a lexeme that the empty `;` stands before leaves
leave_brackets : (sh : Shape) (x y : Option State) → (in_postfix sh ≡ false → false ≡ true) → cond (in_postfix sh) x y ≡ x
leave_brackets S.Postfix x y l = refl
leave_brackets S.Target x y l = absurd (false_true (l refl))
leave_brackets S.Plain x y l = absurd (false_true (l refl))

leave_word : (w : Word) (sh : Shape) (st : List Frame) (out : List Event) (t : Lexeme) → continues (in_postfix sh) w ≡ false → (is_close w || t.line_before) ≡ true
    → after_mark w sh st out t ≡ leave sh st out t
leave_word W.Question sh st out t c b = absurd (false_true (sym c))
leave_word W.Point sh st out t c b = absurd (false_true (sym c))
leave_word W.OpenParenthesis sh st out t c b = leave_brackets sh _ _ (λ f. sym c ∙ ap not f)
leave_word W.OpenBracket sh st out t c b = leave_brackets sh _ _ (λ f. sym c ∙ ap not f)
leave_word (W.Step op) sh st out t c b = cond_true t.line_before _ _ b
leave_word _ sh st out t c b = refl

no_operator : (w : Word) (p : Bool) → continues p w ≡ false → (binds w ≡ 0) × (is_assignment w ≡ false)
no_operator (W.Infix op) p c = absurd (false_true (sym c))
no_operator (W.Logical op) p c = absurd (false_true (sym c))
no_operator (W.Compound op) p c = absurd (false_true (sym c))
no_operator W.Assign p c = absurd (false_true (sym c))
no_operator W.Comma p c = absurd (false_true (sym c))
no_operator _ p c = (refl, refl)

pub leaves_operators : (sh : Shape) (st : List Frame) (out : List Event) (t : Lexeme) → Inserted (continues (in_postfix sh)) t → after sh st out t ≡ leave sh st out t
leaves_operators sh st out t i = let none = no_operator t.word (in_postfix sh) i.ends in
    ap (λ (b : ℕ). after_by b sh st out t) none.0 ∙ cond_false (is_assignment t.word) _ _ none.1 ∙ leave_word t.word sh st out t i.ends i.breaks

-- a statement ends with either spelling of `;`
pub finish_inserted : (b : Bool) (st : List Frame) (out : List Event) (t : Lexeme) → is_semicolon t.word ≡ false → b ≡ true → finish b st out t ≡ ended st out t
finish_inserted b st out t s e = cond_false (is_semicolon t.word) _ _ s ∙ cond_true b _ _ e

pub finish_written : (b : Bool) (st : List Frame) (out : List Event) (t : Lexeme) → t.word ≡ W.Semicolon → finish b st out t ≡ Some (At M.Ended st out)
finish_written b st out t e = cond_true (is_semicolon t.word) _ _ (ap is_semicolon e)
