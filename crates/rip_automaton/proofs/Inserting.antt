-- Where `;` is inserted: what the machine does with each word, where a statement may end.
use Rattle.std.proofs.Common.{◌≡◌, ℕ, nat_le, Bool, true, false, not, ◌&&◌, ◌||◌, cond, List, [], ◌∷◌, ◌++◌, Option, Some, None, refl, sym, ap, ◌∙◌, subst, ◌⊎◌, inl, inr, append-nil}
use Rattle.rip_base.specs.declared.operator.BinaryOperator.{BinaryOperator}
use Rattle.rip_base.specs.declared.operator.BinaryOperator.TheVariants as B
use Rattle.rip_base.specs.declared.operator.LogicalOperator.TheVariants as L
use Rattle.rip_base.specs.declared.operator.StepOperator.{StepOperator}
use Rattle.rip_grammar.specs.declared.word.Word.{Word}
use Rattle.rip_grammar.specs.declared.word.Word.TheVariants as W
use Rattle.rip_grammar.specs.declared.word.Lexeme.{Lexeme}
use Rattle.rip_grammar.specs.declared.event.Event.{Event}
use Rattle.rip_grammar.specs.declared.event.Event.TheVariants as E
use Rattle.rip_grammar.specs.declared.event.Head.TheVariants as H
use Rattle.rip_grammar.specs.Words.{is_comma, is_else, is_semicolon}
use Rattle.rip_grammar.specs.Semicolons.{continues, continues_name, continues_nothing, is_inserted}
use Rattle.rip_grammar.specs.Events.{node_at}
use Rattle.rip_automaton.specs.declared.frame.Pending.TheVariants as P
use Rattle.rip_automaton.specs.declared.frame.VarRole.TheVariants as V
use Rattle.rip_automaton.specs.declared.frame.Frame.{Frame}
use Rattle.rip_automaton.specs.declared.frame.Frame.TheVariants as F
use Rattle.rip_automaton.specs.declared.mode.Mode.{Mode}
use Rattle.rip_automaton.specs.declared.mode.Mode.TheVariants as M
use Rattle.rip_automaton.specs.declared.mode.Shape.{Shape}
use Rattle.rip_automaton.specs.declared.mode.Shape.TheVariants as S
use Rattle.rip_automaton.specs.Frames.{may_be_target, in_postfix, closed, pending_level, may_end, told, top_bars, top_floor}
use Rattle.rip_automaton.specs.States.{State, At}
use Rattle.rip_automaton.specs.Statements.{start, ended, finish, clause, do_ended, try_ended, handled}
use Rattle.rip_automaton.specs.Headers.{init_ended, test_ended}
use Rattle.rip_automaton.specs.Continuations.{reduce, leave, call, operator_begins, comma, after}
use Rattle.rip_automaton.specs.Machine.{step, feed}
use Rattle.rip_automaton.specs.Insertion.{EndsThere, stays_open, semicolon_mark, wants_statement, MayEnd, is_restricted, offends, may_be_inserted, InsertedBeforeOffending, RefusedOnItsLine, GoesOnWithOthers, ThrowTakesNoLineEnd}
use Rattle.rip_automaton.proofs.Stepping.{false_true, cond_true, cond_false, bool}
use Rattle.rip_automaton.proofs.Shapes.{closed_postfix}

-- A LEXEME BY ITS WORD

abbrev lexeme : Word → ℕ → ℕ → Bool → Lexeme
lexeme w start count line = record { word = w; start = start; count = count; line_before = line }

-- what the machine does with a token that the statement does not go on with
abbrev stopped : Lexeme → List Frame → List Event → Option State
stopped t around o = cond (may_be_inserted t) (ended around o t) None

-- the states in which a statement has ended
abbrev Ended : Option State → List Event → Type 0
Ended s o = s ≡ Some (At M.Ended [] o)

pub none_ends {ℓ} : {A : Type ℓ} (o : List Event) → Ended None o → A
none_ends o h = absurd (cc)

-- a test that a statement ends behind
tested : (b : Bool) (x : Option State) (o : List Event) → Ended (cond b x None) o → (b ≡ true) × Ended x o
tested true x o h = (refl, h)
tested false x o h = none_ends o h

-- an operator that a statement ends behind has ended
operator_tested : (b c : Bool) (x : Option State) (o : List Event) → Ended (cond b (cond c x None) None) o → (b ≡ true) × (c ≡ true) × Ended x o
operator_tested b c x o h = let one = tested b (cond c x None) o h in let two = tested c x o one.1 in (one.0, two.0, two.1)

-- WORDS THAT BEGIN NO STATEMENT

record BeginsNone (t : Lexeme) : Type 0 where
  none : (st : List Frame) (out : List Event) → start st out t ≡ None
  other : is_else t.word ≡ false
  loop : (place : ℕ) (st : List Frame) (out : List Event) → do_ended t.word place st out ≡ None
  caught : (place : ℕ) (st : List Frame) (out : List Event) → try_ended t t.word place st out ≡ None
  last : (place : ℕ) (st : List Frame) (out : List Event) (x : Option State) → handled t.word place st out x ≡ x

ended_none : (t : Lexeme) → BeginsNone t → (around : List Frame) (out : List Event) → ended around out t ≡ None
ended_none t b [] out = refl
ended_none t b (F.Then place ∷ st) out = cond_false (is_else t.word) _ _ b.other ∙ ended_none t b st _
ended_none t b (F.Otherwise place ∷ st) out = ended_none t b st _
ended_none t b (F.While place ∷ st) out = ended_none t b st _
ended_none t b (F.For place ∷ st) out = ended_none t b st _
ended_none t b (F.Do place ∷ st) out = b.loop place st out
ended_none t b (F.Try place ∷ st) out = b.caught place st out
ended_none t b (F.Catch place name ∷ st) out = ended_none t b st _
ended_none t b (F.Handled place ∷ st) out = b.last place st out _ ∙ ended_none t b st _
ended_none t b (F.Finally place ∷ st) out = ended_none t b st _
ended_none t b (F.Script ∷ st) out = b.none _ _
ended_none t b (F.Block place count ∷ st) out = b.none _ _
ended_none t b (F.Body owner parameters count ∷ st) out = b.none _ _
ended_none t b (F.CaseBody place count ∷ st) out = b.none _ _
ended_none t b (F.Default place count ∷ st) out = b.none _ _
ended_none t b (f ∷ st) out = refl

assign_begins_none : (s c : ℕ) (line : Bool) → BeginsNone (lexeme W.Assign s c line)
assign_begins_none s c line = record { none = λ st out. refl; other = refl; loop = λ p st out. refl; caught = λ p st out. refl; last = λ p st out x. refl }

compound_begins_none : (op : BinaryOperator) (s c : ℕ) (line : Bool) → BeginsNone (lexeme (W.Compound op) s c line)
compound_begins_none op s c line = record { none = λ st out. refl; other = refl; loop = λ p st out. refl; caught = λ p st out. refl; last = λ p st out x. refl }

point_begins_none : (s c : ℕ) (line : Bool) → BeginsNone (lexeme W.Point s c line)
point_begins_none s c line = record { none = λ st out. refl; other = refl; loop = λ p st out. refl; caught = λ p st out. refl; last = λ p st out x. refl }

in_begins_none : (s c : ℕ) (line : Bool) → BeginsNone (lexeme (W.Infix B.In) s c line)
in_begins_none s c line = record { none = λ st out. refl; other = refl; loop = λ p st out. refl; caught = λ p st out. refl; last = λ p st out x. refl }

cond_none : (b : Bool) (x : Option State) → x ≡ None → None ≡ cond b x None
cond_none true x e = sym e
cond_none false x e = refl

-- BEHIND AN OPERAND, WHERE THE STATEMENT MAY END

abbrev Ends : Shape → List Frame → List Event → List Event → Type 0
Ends sh own out o = Ended (leave sh own out semicolon_mark) o

-- a statement that has ended alone has nothing around it
alone {ℓ} : {A : Type ℓ} (g : Frame) (st : List Frame) (x o : List Event) → Ended (Some (At M.Ended (g ∷ st) x)) o → A
alone g st x o h = absurd (cc)

ended_told : (x o : List Event) → Ended (Some (At M.Ended [] x)) o → x ≡ o
ended_told x o h = cc

-- the header of a `for` goes on behind its `;`
init_goes_on {ℓ} : {A : Type ℓ} (st : List Frame) (out o : List Event) → Ended (init_ended st out semicolon_mark) o → A
init_goes_on (F.ForInit place ∷ st) out o h = absurd (cc)
init_goes_on st out o h = none_ends o h

test_goes_on {ℓ} : {A : Type ℓ} (st : List Frame) (out o : List Event) → Ended (test_ended st out) o → A
test_goes_on (F.ForTest place ∷ st) out o h = absurd (cc)
test_goes_on st out o h = none_ends o h

clause_goes_on {ℓ} : {A : Type ℓ} (st : List Frame) (out o : List Event) → Ended (clause st out semicolon_mark) o → A
clause_goes_on (F.Switch place count default ∷ st) out o h = none_ends o h
clause_goes_on st out o h = none_ends o h

and_true : (b : Bool) → (b && true) ≡ b
and_true true = refl
and_true false = refl

-- the test of `is_inserted` where the word neither is `;` nor continues the statement
inserted_there : (m s k : Bool) → s ≡ false → k ≡ false → (m && not s && not k) ≡ m
inserted_there true s k e f = cc
inserted_there false s k e f = refl

finish_stops : (continued : Word → Bool) (t : Lexeme) (around : List Frame) (x o : List Event) → is_semicolon t.word ≡ false → continued t.word ≡ false → x ≡ o
    → finish (is_inserted continued t) around x t ≡ stopped t around o
finish_stops continued t around x o e f same =
    cond_false (is_semicolon t.word) _ _ e
    ∙ ap (λ (b : Bool). cond b (ended around x t) None) (inserted_there (may_be_inserted t) (is_semicolon t.word) (continued t.word) e f)
    ∙ ap (λ (y : List Event). stopped t around y) same

-- a word that does not continue the expression leaves it, and the statement has ended where `;` may be inserted
leave_stops : (sh : Shape) (own around : List Frame) (out o : List Event) (t : Lexeme) → Ends sh own out o
    → is_semicolon t.word ≡ false → is_comma t.word ≡ false → continues (in_postfix sh) t.word ≡ false → leave sh (own ++ around) out t ≡ stopped t around o
leave_stops sh [] around out o t h e f k = none_ends o h
leave_stops sh (F.Operator p b ∷ st) around out o t h e f k =
    let ok = operator_tested (nat_le 1 (pending_level p)) (may_end p sh) (leave (closed sh) st (told p ∷ out) semicolon_mark) o h in
    cond_true (nat_le 1 (pending_level p)) _ _ ok.0
    ∙ cond_true (may_end p sh) _ _ ok.1
    ∙ leave_stops (closed sh) st around (told p ∷ out) o t ok.2 e f (ap (λ (q : Bool). continues q t.word) (closed_postfix sh) ∙ k)
leave_stops sh (F.Expression ∷ []) around out o t h e f k = finish_stops (continues (in_postfix sh)) t around _ o e k (ended_told _ o h)
leave_stops sh (F.Expression ∷ (g ∷ st)) around out o t h e f k = alone g st _ o h
leave_stops sh (F.Return place ∷ []) around out o t h e f k = finish_stops (continues (in_postfix sh)) t around _ o e k (ended_told _ o h)
leave_stops sh (F.Return place ∷ (g ∷ st)) around out o t h e f k = alone g st _ o h
leave_stops sh (F.Throw place ∷ []) around out o t h e f k = finish_stops (continues (in_postfix sh)) t around _ o e k (ended_told _ o h)
leave_stops sh (F.Throw place ∷ (g ∷ st)) around out o t h e f k = alone g st _ o h
leave_stops sh (F.Initialised n b ∷ []) around out o t h e f k = none_ends o h
leave_stops sh (F.Initialised n b ∷ (F.Declarators V.Statement place count ∷ [])) around out o t h e f k =
    cond_false (is_comma t.word) _ _ f ∙ finish_stops (continues (in_postfix sh)) t around _ o e k (ended_told _ o h)
leave_stops sh (F.Initialised n b ∷ (F.Declarators V.Statement place count ∷ (g ∷ st))) around out o t h e f k = alone g st _ o h
leave_stops sh (F.Initialised n b ∷ (F.Declarators V.Init place count ∷ st)) around out o t h e f k = init_goes_on st _ o h
leave_stops sh (F.Initialised n b ∷ (g ∷ st)) around out o t h e f k = none_ends o h
leave_stops sh (F.ForInit place ∷ st) around out o t h e f k = absurd (cc)
leave_stops sh (F.ForTest place ∷ st) around out o t h e f k = absurd (cc)
leave_stops sh (f ∷ st) around out o t h e g k = none_ends o h

ended_around : (around : List Frame) {x o : List Event} → x ≡ o → Some (At M.Ended around x) ≡ Some (At M.Ended around o)
ended_around around h = ap (λ (y : List Event). Some (At M.Ended around y)) h

-- the same of `;` itself
semicolon_ends : (sh : Shape) (own around : List Frame) (out o : List Event) → Ends sh own out o → leave sh (own ++ around) out semicolon_mark ≡ Some (At M.Ended around o)
semicolon_ends sh [] around out o h = none_ends o h
semicolon_ends sh (F.Operator p b ∷ st) around out o h =
    let ok = operator_tested (nat_le 1 (pending_level p)) (may_end p sh) (leave (closed sh) st (told p ∷ out) semicolon_mark) o h in
    cond_true (nat_le 1 (pending_level p)) _ _ ok.0
    ∙ cond_true (may_end p sh) _ _ ok.1
    ∙ semicolon_ends (closed sh) st around (told p ∷ out) o ok.2
semicolon_ends sh (F.Expression ∷ []) around out o h = ended_around around (ended_told _ o h)
semicolon_ends sh (F.Expression ∷ (g ∷ st)) around out o h = alone g st _ o h
semicolon_ends sh (F.Return place ∷ []) around out o h = ended_around around (ended_told _ o h)
semicolon_ends sh (F.Return place ∷ (g ∷ st)) around out o h = alone g st _ o h
semicolon_ends sh (F.Throw place ∷ []) around out o h = ended_around around (ended_told _ o h)
semicolon_ends sh (F.Throw place ∷ (g ∷ st)) around out o h = alone g st _ o h
semicolon_ends sh (F.Initialised n b ∷ []) around out o h = none_ends o h
semicolon_ends sh (F.Initialised n b ∷ (F.Declarators V.Statement place count ∷ [])) around out o h = ended_around around (ended_told _ o h)
semicolon_ends sh (F.Initialised n b ∷ (F.Declarators V.Statement place count ∷ (g ∷ st))) around out o h = alone g st _ o h
semicolon_ends sh (F.Initialised n b ∷ (F.Declarators V.Init place count ∷ st)) around out o h = init_goes_on st _ o h
semicolon_ends sh (F.Initialised n b ∷ (g ∷ st)) around out o h = none_ends o h
semicolon_ends sh (F.ForInit place ∷ st) around out o h = absurd (cc)
semicolon_ends sh (F.ForTest place ∷ st) around out o h = absurd (cc)
semicolon_ends sh (f ∷ st) around out o h = none_ends o h

operator_goes_on : (b c : Bool) (x y : Option State) → c ≡ true → stays_open x ≡ true → stays_open y ≡ true → stays_open (cond b (cond c x None) y) ≡ true
operator_goes_on true true x y e f g = f
operator_goes_on true false x y e f g = absurd (false_true e)
operator_goes_on false c x y e f g = g

-- operators that end, and then something that stays open
goes_on : (n : ℕ) (next : Shape → List Frame → List Event → Option State) → ((sh : Shape) (st : List Frame) (out : List Event) → stays_open (next sh st out) ≡ true)
    → (sh : Shape) (own : List Frame) (out o : List Event) → Ends sh own out o → stays_open (reduce n sh own out next) ≡ true
goes_on n next stays sh [] out o h = none_ends o h
goes_on n next stays sh (F.Operator p b ∷ st) out o h =
    let ok = operator_tested (nat_le 1 (pending_level p)) (may_end p sh) (leave (closed sh) st (told p ∷ out) semicolon_mark) o h in
    let below = reduce n (closed sh) st (told p ∷ out) next in
    operator_goes_on (nat_le n (pending_level p)) (may_end p sh) below (next sh (F.Operator p b ∷ st) out) ok.1
    (goes_on n next stays (closed sh) st (told p ∷ out) o ok.2)
    (stays sh (F.Operator p b ∷ st) out)
goes_on n next stays sh (f ∷ st) out o h = stays sh (f ∷ st) out

infix_goes : (n : ℕ) (w : Word) (sh : Shape) (own : List Frame) (out o : List Event) → Ends sh own out o → stays_open (reduce n sh own out (λ shape below events. operator_begins w below events)) ≡ true
infix_goes n w = goes_on n _ (λ sh st out. refl)

-- a comma goes on: as an operator, or with one declarator more
comma_goes : (sh : Shape) (own : List Frame) (out o : List Event) (s c : ℕ) (line : Bool) → Ends sh own out o → stays_open (comma sh own out (lexeme W.Comma s c line)) ≡ true
comma_goes sh [] out o s c line h = none_ends o h
comma_goes sh (F.Operator p b ∷ st) out o s c line h =
    let ok = operator_tested (nat_le 1 (pending_level p)) (may_end p sh) (leave (closed sh) st (told p ∷ out) semicolon_mark) o h in
    ap stays_open (cond_true (nat_le 1 (pending_level p)) _ _ ok.0 ∙ cond_true (may_end p sh) _ _ ok.1) ∙ comma_goes (closed sh) st (told p ∷ out) o s c line ok.2
comma_goes sh (F.Expression ∷ st) out o s c line h = refl
comma_goes sh (F.Return place ∷ st) out o s c line h = refl
comma_goes sh (F.Throw place ∷ st) out o s c line h = refl
comma_goes sh (F.Parenthesis place ∷ st) out o s c line h = refl
comma_goes sh (F.Index ∷ st) out o s c line h = refl
comma_goes sh (F.Condition header place ∷ st) out o s c line h = refl
comma_goes sh (F.ForInit place ∷ st) out o s c line h = refl
comma_goes sh (F.ForTest place ∷ st) out o s c line h = refl
comma_goes sh (F.ForUpdate place ∷ st) out o s c line h = refl
comma_goes sh (F.Case place ∷ st) out o s c line h = refl
comma_goes sh (F.Initialised n b ∷ (F.Declarators role place count ∷ st)) out o s c line h = refl
comma_goes sh (F.Initialised n b ∷ []) out o s c line h = none_ends o h
comma_goes sh (F.Initialised n b ∷ (g ∷ st)) out o s c line h = none_ends o h
comma_goes sh (f ∷ st) out o s c line h = none_ends o h

-- the forms of a statement that may end are some: what is around them is not seen
same_floor : (sh : Shape) (own around : List Frame) (out o : List Event) → Ends sh own out o → top_floor (own ++ around) ≡ top_floor own
same_floor sh [] around out o h = none_ends o h
same_floor sh (f ∷ st) around out o h = refl

same_bars : (sh : Shape) (own around : List Frame) (out o : List Event) → Ends sh own out o → top_bars (own ++ around) ≡ top_bars own
same_bars sh [] around out o h = none_ends o h
same_bars sh (f ∷ st) around out o h = refl

some_stay : (mode : Mode) (sh : Shape) (own : List Frame) (out x o : List Event) → Ends sh own out o → stays_open (Some (At mode own x)) ≡ true
some_stay mode sh [] out x o h = none_ends o h
some_stay mode sh (f ∷ st) out x o h = refl

call_goes : (own : List Frame) (out : List Event) → stays_open (call own out) ≡ true
call_goes [] out = refl
call_goes (F.Operator (P.New place) b ∷ st) out = refl
call_goes (f ∷ st) out = refl

-- WHAT BECOMES OF A STATEMENT THAT MAY END

abbrev Stops : Mode → List Frame → List Event → List Event → Lexeme → Type 0
Stops mode own out o t = (around : List Frame) → step mode (own ++ around) out t ≡ stopped t around o

-- it goes on with the word on either line, or on neither, or on its own line alone
data Fate (mode : Mode) (own : List Frame) (out o : List Event) (w : Word) (s c : ℕ) : Type 0 where
  Goes : is_restricted mode w ≡ false → ((line : Bool) → stays_open (step mode own out (lexeme w s c line)) ≡ true) → Fate mode own out o w s c
  Halts : ((line : Bool) → Stops mode own out o (lexeme w s c line)) → Fate mode own out o w s c
  Splits : is_restricted mode w ≡ true → stays_open (step mode own out (lexeme w s c false)) ≡ true → Stops mode own out o (lexeme w s c true) → Fate mode own out o w s c

in_fate : (sh : Shape) (own : List Frame) (out o : List Event) (s c : ℕ) → Ends sh own out o → (top_bars own ≡ true) ⊎ (top_bars own ≡ false) → Fate (M.After sh) own out o (W.Infix B.In) s c
in_fate sh own out o s c h (inl bars) =
    Halts (λ line around. cond_true (top_bars (own ++ around)) _ _ (same_bars sh own around out o h ∙ bars) ∙ cond_none _ _ (ended_none _ (in_begins_none s c line) around o))
in_fate sh own out o s c h (inr bars) = Goes refl (λ line. ap stays_open (cond_false (top_bars own) _ _ bars) ∙ infix_goes 10 _ sh own out o h)

abbrev takes_assignment : Shape → List Frame → Bool
takes_assignment sh st = may_be_target sh && nat_le (top_floor st) 2

assign_fate : (w : Word) (sh : Shape) (own : List Frame) (out o : List Event) (s c : ℕ) → Ends sh own out o → is_restricted (M.After sh) w ≡ false
    → ((line : Bool) (st : List Frame) → after sh st out (lexeme w s c line) ≡ cond (takes_assignment sh st) (Some (At M.Operand (F.Operator (P.Assignment w) (top_bars st) ∷ st) out)) None)
    → ((line : Bool) → BeginsNone (lexeme w s c line)) → (takes_assignment sh own ≡ true) ⊎ (takes_assignment sh own ≡ false) → Fate (M.After sh) own out o w s c
assign_fate w sh own out o s c h r is none (inl takes) = Goes r (λ line. ap stays_open (is line own ∙ cond_true (takes_assignment sh own) _ _ takes))
assign_fate w sh own out o s c h r is none (inr takes) =
    Halts (λ line around. is line (own ++ around)
    ∙ cond_false (takes_assignment sh (own ++ around)) _ _ (ap (λ (n : ℕ). may_be_target sh && nat_le n 2) (same_floor sh own around out o h) ∙ takes)
    ∙ cond_none _ _ (ended_none _ (none line) around o))

abbrev takes_postfix : Shape → List Frame → Bool
takes_postfix sh st = may_be_target sh && nat_le (top_floor st) 15

step_fate : (op : StepOperator) (sh : Shape) (own : List Frame) (out o : List Event) (s c : ℕ) → Ends sh own out o → (takes_postfix sh own ≡ true) ⊎ (takes_postfix sh own ≡ false)
    → Fate (M.After sh) own out o (W.Step op) s c
step_fate op sh own out o s c h (inl takes) =
    Splits refl (ap stays_open (cond_true (takes_postfix sh own) _ _ takes) ∙ some_stay (M.After S.Postfix) sh own out _ o h) (λ around. leave_stops sh own around out o _ h refl refl refl)
step_fate op sh own out o s c h (inr takes) = Halts (elim [
  | true ↦ λ around. leave_stops sh own around out o _ h refl refl refl
  | false ↦ λ around. cond_false (takes_postfix sh (own ++ around)) _ _ (ap (λ (n : ℕ). may_be_target sh && nat_le n 15) (same_floor sh own around out o h) ∙ takes)
])

after_fates : (sh : Shape) (own : List Frame) (out o : List Event) (w : Word) (s c : ℕ) → Ends sh own out o → is_semicolon w ≡ false → Fate (M.After sh) own out o w s c
after_fates sh own out o (W.Infix B.Multiply) s c h e = Goes refl (λ line. infix_goes 13 _ sh own out o h)
after_fates sh own out o (W.Infix B.Divide) s c h e = Goes refl (λ line. infix_goes 13 _ sh own out o h)
after_fates sh own out o (W.Infix B.Remainder) s c h e = Goes refl (λ line. infix_goes 13 _ sh own out o h)
after_fates sh own out o (W.Infix B.Add) s c h e = Goes refl (λ line. infix_goes 12 _ sh own out o h)
after_fates sh own out o (W.Infix B.Subtract) s c h e = Goes refl (λ line. infix_goes 12 _ sh own out o h)
after_fates sh own out o (W.Infix B.ShiftLeft) s c h e = Goes refl (λ line. infix_goes 11 _ sh own out o h)
after_fates sh own out o (W.Infix B.ShiftRight) s c h e = Goes refl (λ line. infix_goes 11 _ sh own out o h)
after_fates sh own out o (W.Infix B.ShiftRightUnsigned) s c h e = Goes refl (λ line. infix_goes 11 _ sh own out o h)
after_fates sh own out o (W.Infix B.Less) s c h e = Goes refl (λ line. infix_goes 10 _ sh own out o h)
after_fates sh own out o (W.Infix B.Greater) s c h e = Goes refl (λ line. infix_goes 10 _ sh own out o h)
after_fates sh own out o (W.Infix B.LessOrEqual) s c h e = Goes refl (λ line. infix_goes 10 _ sh own out o h)
after_fates sh own out o (W.Infix B.GreaterOrEqual) s c h e = Goes refl (λ line. infix_goes 10 _ sh own out o h)
after_fates sh own out o (W.Infix B.InstanceOf) s c h e = Goes refl (λ line. infix_goes 10 _ sh own out o h)
after_fates sh own out o (W.Infix B.Equal) s c h e = Goes refl (λ line. infix_goes 9 _ sh own out o h)
after_fates sh own out o (W.Infix B.NotEqual) s c h e = Goes refl (λ line. infix_goes 9 _ sh own out o h)
after_fates sh own out o (W.Infix B.StrictEqual) s c h e = Goes refl (λ line. infix_goes 9 _ sh own out o h)
after_fates sh own out o (W.Infix B.StrictNotEqual) s c h e = Goes refl (λ line. infix_goes 9 _ sh own out o h)
after_fates sh own out o (W.Infix B.BitAnd) s c h e = Goes refl (λ line. infix_goes 8 _ sh own out o h)
after_fates sh own out o (W.Infix B.BitXor) s c h e = Goes refl (λ line. infix_goes 7 _ sh own out o h)
after_fates sh own out o (W.Infix B.BitOr) s c h e = Goes refl (λ line. infix_goes 6 _ sh own out o h)
after_fates sh own out o (W.Infix B.In) s c h e = in_fate sh own out o s c h (bool (top_bars own))
after_fates sh own out o (W.Logical L.And) s c h e = Goes refl (λ line. infix_goes 5 _ sh own out o h)
after_fates sh own out o (W.Logical L.Or) s c h e = Goes refl (λ line. infix_goes 4 _ sh own out o h)
after_fates sh own out o W.Comma s c h e = Goes refl (λ line. comma_goes sh own out o s c line h)
after_fates sh own out o W.Assign s c h e = assign_fate W.Assign sh own out o s c h refl (λ line st. refl) (assign_begins_none s c) (bool (takes_assignment sh own))
after_fates sh own out o (W.Compound op) s c h e =
    assign_fate (W.Compound op) sh own out o s c h refl (λ line st. refl) (compound_begins_none op s c) (bool (takes_assignment sh own))
after_fates sh own out o W.Question s c h e = Goes refl (λ line. goes_on 4 _ (λ shape st events. refl) sh own out o h)
after_fates S.Postfix own out o W.Point s c h e = Halts (λ line around. cond_none _ _ (ended_none _ (point_begins_none s c line) around o))
after_fates S.Target own out o W.Point s c h e = Goes refl (λ line. some_stay M.Member S.Target own out out o h)
after_fates S.Plain own out o W.Point s c h e = Goes refl (λ line. some_stay M.Member S.Plain own out out o h)
after_fates S.Postfix own out o W.OpenParenthesis s c h e = Halts (λ line around. leave_stops S.Postfix own around out o _ h refl refl refl)
after_fates S.Target own out o W.OpenParenthesis s c h e = Goes refl (λ line. call_goes own out)
after_fates S.Plain own out o W.OpenParenthesis s c h e = Goes refl (λ line. call_goes own out)
after_fates S.Postfix own out o W.OpenBracket s c h e = Halts (λ line around. leave_stops S.Postfix own around out o _ h refl refl refl)
after_fates S.Target own out o W.OpenBracket s c h e = Goes refl (λ line. refl)
after_fates S.Plain own out o W.OpenBracket s c h e = Goes refl (λ line. refl)
after_fates sh own out o (W.Step op) s c h e = step_fate op sh own out o s c h (bool (takes_postfix sh own))
after_fates sh own out o W.Semicolon s c h e = absurd (false_true (sym e))
after_fates sh own out o w s c h e = Halts (λ line around. leave_stops sh own around out o (lexeme w s c line) h refl refl refl)

-- behind the name of a declarator
name_fates : (n : Lexeme) (place count : ℕ) (out o : List Event) (w : Word) (s c : ℕ) → Ended (step (M.AfterName n) (F.Declarators V.Statement place count ∷ []) out semicolon_mark) o
    → is_semicolon w ≡ false → Fate (M.AfterName n) (F.Declarators V.Statement place count ∷ []) out o w s c
name_fates n place count out o W.Assign s c h e = Goes refl (λ line. refl)
name_fates n place count out o W.Comma s c h e = Goes refl (λ line. refl)
name_fates n place count out o W.Semicolon s c h e = absurd (false_true (sym e))
name_fates n place count out o w s c h e = Halts (λ line around. finish_stops continues_name (lexeme w s c line) around _ o e refl (ended_told _ o h))

ended_as : (around : List Frame) (t : Lexeme) {x o : List Event} → x ≡ o → ended around x t ≡ ended around o t
ended_as around t h = ap (λ (x : List Event). ended around x t) h

-- behind `return`
return_fates : (place : ℕ) (out o : List Event) (w : Word) (s c : ℕ) → node_at place H.Return 1 ∷ E.Absent ∷ out ≡ o → is_semicolon w ≡ false
    → Fate M.Returning (F.Return place ∷ []) out o w s c
return_fates place out o W.CloseBrace s c h e = Halts (λ line around. ended_as around (lexeme W.CloseBrace s c line) h)
return_fates place out o W.End s c h e = Halts (λ line around. ended_as around (lexeme W.End s c line) h)
return_fates place out o W.Name s c h e = Splits refl refl (λ around. ended_as around (lexeme W.Name s c true) h)
return_fates place out o W.Numeral s c h e = Splits refl refl (λ around. ended_as around (lexeme W.Numeral s c true) h)
return_fates place out o W.Text s c h e = Splits refl refl (λ around. ended_as around (lexeme W.Text s c true) h)
return_fates place out o W.Null s c h e = Splits refl refl (λ around. ended_as around (lexeme W.Null s c true) h)
return_fates place out o W.True s c h e = Splits refl refl (λ around. ended_as around (lexeme W.True s c true) h)
return_fates place out o W.False s c h e = Splits refl refl (λ around. ended_as around (lexeme W.False s c true) h)
return_fates place out o W.This s c h e = Splits refl refl (λ around. ended_as around (lexeme W.This s c true) h)
return_fates place out o W.Function s c h e = Splits refl refl (λ around. ended_as around (lexeme W.Function s c true) h)
return_fates place out o W.New s c h e = Splits refl refl (λ around. ended_as around (lexeme W.New s c true) h)
return_fates place out o W.OpenBrace s c h e = Splits refl refl (λ around. ended_as around (lexeme W.OpenBrace s c true) h)
return_fates place out o W.OpenParenthesis s c h e = Splits refl refl (λ around. ended_as around (lexeme W.OpenParenthesis s c true) h)
return_fates place out o W.OpenBracket s c h e = Splits refl refl (λ around. ended_as around (lexeme W.OpenBracket s c true) h)
return_fates place out o (W.Infix B.Add) s c h e = Splits refl refl (λ around. ended_as around (lexeme (W.Infix B.Add) s c true) h)
return_fates place out o (W.Infix B.Subtract) s c h e = Splits refl refl (λ around. ended_as around (lexeme (W.Infix B.Subtract) s c true) h)
return_fates place out o (W.Step op) s c h e = Splits refl refl (λ around. ended_as around (lexeme (W.Step op) s c true) h)
return_fates place out o (W.Prefix op) s c h e = Splits refl refl (λ around. ended_as around (lexeme (W.Prefix op) s c true) h)
return_fates place out o (W.Infix B.Multiply) s c h e = Halts (elim [ true ↦ λ around. ended_as around (lexeme (W.Infix B.Multiply) s c true) h | false ↦ λ around. refl ])
return_fates place out o (W.Infix B.Divide) s c h e = Halts (elim [ true ↦ λ around. ended_as around (lexeme (W.Infix B.Divide) s c true) h | false ↦ λ around. refl ])
return_fates place out o (W.Infix B.Remainder) s c h e = Halts (elim [ true ↦ λ around. ended_as around (lexeme (W.Infix B.Remainder) s c true) h | false ↦ λ around. refl ])
return_fates place out o (W.Infix B.ShiftLeft) s c h e = Halts (elim [ true ↦ λ around. ended_as around (lexeme (W.Infix B.ShiftLeft) s c true) h | false ↦ λ around. refl ])
return_fates place out o (W.Infix B.ShiftRight) s c h e = Halts (elim [ true ↦ λ around. ended_as around (lexeme (W.Infix B.ShiftRight) s c true) h | false ↦ λ around. refl ])
return_fates place out o (W.Infix B.ShiftRightUnsigned) s c h e = Halts (elim [ true ↦ λ around. ended_as around (lexeme (W.Infix B.ShiftRightUnsigned) s c true) h | false ↦ λ around. refl ])
return_fates place out o (W.Infix B.Less) s c h e = Halts (elim [ true ↦ λ around. ended_as around (lexeme (W.Infix B.Less) s c true) h | false ↦ λ around. refl ])
return_fates place out o (W.Infix B.Greater) s c h e = Halts (elim [ true ↦ λ around. ended_as around (lexeme (W.Infix B.Greater) s c true) h | false ↦ λ around. refl ])
return_fates place out o (W.Infix B.LessOrEqual) s c h e = Halts (elim [ true ↦ λ around. ended_as around (lexeme (W.Infix B.LessOrEqual) s c true) h | false ↦ λ around. refl ])
return_fates place out o (W.Infix B.GreaterOrEqual) s c h e = Halts (elim [ true ↦ λ around. ended_as around (lexeme (W.Infix B.GreaterOrEqual) s c true) h | false ↦ λ around. refl ])
return_fates place out o (W.Infix B.InstanceOf) s c h e = Halts (elim [ true ↦ λ around. ended_as around (lexeme (W.Infix B.InstanceOf) s c true) h | false ↦ λ around. refl ])
return_fates place out o (W.Infix B.Equal) s c h e = Halts (elim [ true ↦ λ around. ended_as around (lexeme (W.Infix B.Equal) s c true) h | false ↦ λ around. refl ])
return_fates place out o (W.Infix B.NotEqual) s c h e = Halts (elim [ true ↦ λ around. ended_as around (lexeme (W.Infix B.NotEqual) s c true) h | false ↦ λ around. refl ])
return_fates place out o (W.Infix B.StrictEqual) s c h e = Halts (elim [ true ↦ λ around. ended_as around (lexeme (W.Infix B.StrictEqual) s c true) h | false ↦ λ around. refl ])
return_fates place out o (W.Infix B.StrictNotEqual) s c h e = Halts (elim [ true ↦ λ around. ended_as around (lexeme (W.Infix B.StrictNotEqual) s c true) h | false ↦ λ around. refl ])
return_fates place out o (W.Infix B.BitAnd) s c h e = Halts (elim [ true ↦ λ around. ended_as around (lexeme (W.Infix B.BitAnd) s c true) h | false ↦ λ around. refl ])
return_fates place out o (W.Infix B.BitXor) s c h e = Halts (elim [ true ↦ λ around. ended_as around (lexeme (W.Infix B.BitXor) s c true) h | false ↦ λ around. refl ])
return_fates place out o (W.Infix B.BitOr) s c h e = Halts (elim [ true ↦ λ around. ended_as around (lexeme (W.Infix B.BitOr) s c true) h | false ↦ λ around. refl ])
return_fates place out o (W.Infix B.In) s c h e = Halts (elim [ true ↦ λ around. ended_as around (lexeme (W.Infix B.In) s c true) h | false ↦ λ around. refl ])
return_fates place out o W.Semicolon s c h e = absurd (false_true (sym e))
return_fates place out o w s c h e = Halts (elim [ true ↦ λ around. ended_as around (lexeme w s c true) h | false ↦ λ around. refl ])

fates : (mode : Mode) (own : List Frame) (out o : List Event) (w : Word) (s c : ℕ) → wants_statement mode ≡ false → Ended (step mode own out semicolon_mark) o
    → is_semicolon w ≡ false → Fate mode own out o w s c
fates (M.After sh) own out o w s c b h e = after_fates sh own out o w s c h e
fates M.Semicolon [] out o w s c b h e = Halts (λ line around. finish_stops continues_nothing (lexeme w s c line) around _ o e refl (ended_told _ o h))
fates M.Semicolon (g ∷ st) out o w s c b h e = alone g st _ o h
fates (M.AfterName n) [] out o w s c b h e = none_ends o h
fates (M.AfterName n) (F.Declarators V.Statement place count ∷ []) out o w s c b h e = name_fates n place count out o w s c h e
fates (M.AfterName n) (F.Declarators V.Statement place count ∷ (g ∷ st)) out o w s c b h e = alone g st _ o h
fates (M.AfterName n) (F.Declarators V.Init place count ∷ st) out o w s c b h e = init_goes_on st _ o h
fates (M.AfterName n) (f ∷ st) out o w s c b h e = none_ends o h
fates M.Returning [] out o w s c b h e = none_ends o h
fates M.Returning (F.Return place ∷ []) out o w s c b h e = return_fates place out o w s c (ended_told _ o h) e
fates M.Returning (F.Return place ∷ (g ∷ st)) out o w s c b h e = alone g st _ o h
fates M.Returning (f ∷ st) out o w s c b h e = none_ends o h
fates M.Statement own out o w s c b h e = absurd (false_true (sym b))
fates M.Ended own out o w s c b h e = absurd (false_true (sym b))
fates M.Clause own out o w s c b h e = clause_goes_on own out o h
fates M.ForInit own out o w s c b h e = init_goes_on own _ o h
fates M.ForTest own out o w s c b h e = test_goes_on own _ o h
fates mode own out o w s c b h e = none_ends o h

-- `;` ends it, whatever is around it
ends_by : (mode : Mode) (own around : List Frame) (out o : List Event) → wants_statement mode ≡ false → Ended (step mode own out semicolon_mark) o
    → step mode (own ++ around) out semicolon_mark ≡ Some (At M.Ended around o)
ends_by (M.After sh) own around out o b h = semicolon_ends sh own around out o h
ends_by M.Semicolon [] around out o b h = ended_around around (ended_told _ o h)
ends_by M.Semicolon (g ∷ st) around out o b h = alone g st _ o h
ends_by (M.AfterName n) [] around out o b h = none_ends o h
ends_by (M.AfterName n) (F.Declarators V.Statement place count ∷ []) around out o b h = ended_around around (ended_told _ o h)
ends_by (M.AfterName n) (F.Declarators V.Statement place count ∷ (g ∷ st)) around out o b h = alone g st _ o h
ends_by (M.AfterName n) (F.Declarators V.Init place count ∷ st) around out o b h = init_goes_on st _ o h
ends_by (M.AfterName n) (f ∷ st) around out o b h = none_ends o h
ends_by M.Returning [] around out o b h = none_ends o h
ends_by M.Returning (F.Return place ∷ []) around out o b h = ended_around around (ended_told _ o h)
ends_by M.Returning (F.Return place ∷ (g ∷ st)) around out o b h = alone g st _ o h
ends_by M.Returning (f ∷ st) around out o b h = none_ends o h
ends_by M.Statement own around out o b h = absurd (false_true (sym b))
ends_by M.Ended own around out o b h = absurd (false_true (sym b))
ends_by M.Clause own around out o b h = clause_goes_on own out o h
ends_by M.ForInit own around out o b h = init_goes_on own _ o h
ends_by M.ForTest own around out o b h = test_goes_on own _ o h
ends_by mode own around out o b h = none_ends o h

pub ends_there : EndsThere
ends_there mode own around out o m = ends_by mode own around out o m.begun m.ends

-- THE LAWS

-- where the token offends, the statement stops
offended : (stays line restricted : Bool) → (not stays || (line && restricted)) ≡ true → stays ≡ true → (line ≡ true) × (restricted ≡ true)
offended true true true e s = (refl, refl)
offended true true false e s = absurd (false_true e)
offended true false restricted e s = absurd (false_true e)
offended false line restricted e s = absurd (false_true s)

stops : (mode : Mode) (own : List Frame) (out o : List Event) (w : Word) (s c : ℕ) (line : Bool) → Fate mode own out o w s c
    → offends mode own out (lexeme w s c line) ≡ true → Stops mode own out o (lexeme w s c line)
stops mode own out o w s c line (Goes r g) off around =
    let both = offended (stays_open (step mode own out (lexeme w s c false))) line (is_restricted mode w) off (g false) in absurd (false_true (sym r ∙ both.1))
stops mode own out o w s c line (Halts k) off around = k line around
stops mode own out o w s c line (Splits r g k) off around =
    let both = offended (stays_open (step mode own out (lexeme w s c false))) line (is_restricted mode w) off g in
    subst (λ (b : Bool). step mode (own ++ around) out (lexeme w s c b) ≡ stopped (lexeme w s c b) around o) (sym both.0) (k around)

fates_of : (mode : Mode) (own : List Frame) (out o : List Event) (t : Lexeme) → MayEnd mode own out o → is_semicolon t.word ≡ false → Fate mode own out o t.word t.start t.count
fates_of mode own out o t m e = fates mode own out o t.word t.start t.count m.begun m.ends e

pub inserted_before_offending : InsertedBeforeOffending
inserted_before_offending mode own around out o t m e off may =
    stops mode own out o t.word t.start t.count t.line_before (fates_of mode own out o t m e) off around
    ∙ cond_true (may_be_inserted t) _ _ may
    ∙ sym (ap (λ (s : Option State). feed s t) (ends_there mode own around out o m))

pub refused_on_its_line : RefusedOnItsLine
refused_on_its_line mode own around out o t m e off may =
    stops mode own out o t.word t.start t.count t.line_before (fates_of mode own out o t m e) off around ∙ cond_false (may_be_inserted t) _ _ may

-- alone, a statement that stops leaves nothing open
nothing_open : (b : Bool) → stays_open (cond b None None) ≡ false
nothing_open true = refl
nothing_open false = refl

stopped_alone : (mode : Mode) (own : List Frame) (out o : List Event) (t : Lexeme) → Stops mode own out o t → stays_open (step mode own out t) ≡ false
stopped_alone mode own out o t k =
    ap stays_open (subst (λ (st : List Frame). step mode st out t ≡ stopped t [] o) (append-nil own) (k [])) ∙ nothing_open (may_be_inserted t)

-- where it does not offend, the statement goes on
unoffended : (stays line restricted : Bool) → (not stays || (line && restricted)) ≡ false → (stays ≡ true) × (restricted ≡ true → line ≡ false)
unoffended true true true e = absurd (false_true (sym e))
unoffended true true false e = (refl, λ r. absurd (false_true r))
unoffended true false restricted e = (refl, λ r. refl)
unoffended false line restricted e = absurd (false_true (sym e))

stays : (mode : Mode) (own : List Frame) (out o : List Event) (w : Word) (s c : ℕ) (line : Bool) → Fate mode own out o w s c
    → offends mode own out (lexeme w s c line) ≡ false → stays_open (step mode own out (lexeme w s c line)) ≡ true
stays mode own out o w s c line (Goes r g) off = g line
stays mode own out o w s c line (Halts k) off =
    let fine = unoffended (stays_open (step mode own out (lexeme w s c false))) line (is_restricted mode w) off in
    absurd (false_true (sym (stopped_alone mode own out o (lexeme w s c false) (k false)) ∙ fine.0))
stays mode own out o w s c line (Splits r g k) off =
    let fine = unoffended (stays_open (step mode own out (lexeme w s c false))) line (is_restricted mode w) off in
    subst (λ (b : Bool). stays_open (step mode own out (lexeme w s c b)) ≡ true) (sym (fine.1 r)) g

pub goes_on_with_others : GoesOnWithOthers
goes_on_with_others mode own out o t m e off = stays mode own out o t.word t.start t.count t.line_before (fates_of mode own out o t m e) off

pub throw_takes_no_line_end : ThrowTakesNoLineEnd
throw_takes_no_line_end st out t line = cond_true t.line_before _ _ line
