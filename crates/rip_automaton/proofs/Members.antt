-- The machine reads parentheses, members, calls and `new` with arguments.
use Rattle.std.proofs.Common.{◌≡◌, ℕ, ◌+◌, ◌≤◌, Bool, true, false, List, [], ◌∷◌, Option, Some, refl, sym, ap, ◌∙◌, arith}
use Rattle.rip_grammar.specs.declared.word.Word.TheVariants as W
use Rattle.rip_grammar.specs.declared.word.Lexeme.{Lexeme}
use Rattle.rip_grammar.specs.declared.event.Head.TheVariants as H
use Rattle.rip_grammar.specs.declared.event.Event.{Event}
use Rattle.rip_grammar.specs.declared.event.Event.TheVariants as E
use Rattle.rip_automaton.specs.declared.frame.Pending.TheVariants as P
use Rattle.rip_automaton.specs.declared.frame.Invocation.{Invocation}
use Rattle.rip_automaton.specs.declared.frame.Invocation.TheVariants as I
use Rattle.rip_automaton.specs.declared.frame.Frame.{Frame}
use Rattle.rip_automaton.specs.declared.frame.Frame.TheVariants as F
use Rattle.rip_automaton.specs.declared.mode.Mode.TheVariants as M
use Rattle.rip_automaton.specs.declared.mode.Shape.TheVariants as S
use Rattle.rip_grammar.specs.Words.{is_identifier_name}
use Rattle.rip_grammar.specs.Phrases.{Phrase, Parenthesized, Member, Index, NewCall, Call, spell}
use Rattle.rip_grammar.specs.Levels.{level}
use Rattle.rip_grammar.specs.Semicolons.{ends_postfix}
use Rattle.rip_grammar.specs.Grammar.{IsMade, is_assigned, may_be_commas}
use Rattle.rip_grammar.specs.Events.{node_behind, emit, width}
use Rattle.rip_automaton.specs.Frames.{in_postfix, enclosed, top_bars, top_floor}
use Rattle.rip_automaton.specs.States.{State, At}
use Rattle.rip_automaton.specs.Operands.{operand, argument, arguments_end}
use Rattle.rip_automaton.specs.Continuations.{call, after}
use Rattle.rip_automaton.specs.Machine.{go}
use Rattle.rip_automaton.proofs.Stepping.{at_word, false_true, cond_true, cond_false, at_least, is_at_least, turn}
use Rattle.rip_automaton.proofs.Shapes.{shape, postfix_shape, tight, tight_bare, Fits, fits_member, new_top}
use Rattle.rip_automaton.proofs.Leaving.{Leaves, leaves_up, leaves_tight, leaves_word, is_ender, leaves_ender}
use Rattle.rip_automaton.proofs.Beginnings.{is_beginning, expression_begins, argument_begins, higher}
use Rattle.rip_automaton.proofs.Roles.{AsExpression, Each}
use Rattle.rip_automaton.proofs.CommaLists.{parts, last, before, counted, Rules, list_told, commas}

-- an expression in a form that a mark ends
pub inside : (d : Phrase) (f : Frame) (n : ℕ) (st : List Frame) (out : List Event) (c : Lexeme) (r : List Lexeme) → AsExpression d → 1 ≤ n → n ≤ level d → new_top (f ∷ st) ≡ false → top_floor (f ∷ st) ≤ n
    → top_bars (f ∷ st) ≡ false → IsMade d (c ∷ r) → is_ender c.word ≡ true
    → go (Some (At M.Operand (f ∷ st) out)) (spell d (c ∷ r)) ≡ go (after (shape d) (f ∷ st) (emit d out) c) r
inside d f n st out c r td some high other low bars m e =
    td (is_at_least 1 (level d) (omega arith)) (f ∷ st) out c r m (record { least = omega arith; other = λ h _. false_true (sym other ∙ h) }) (λ h. false_true (sym bars ∙ h)) (leaves_ender (level d) (ends_postfix d) c e)

-- parentheses
pub parenthesized_told : (o c : Lexeme) (v : Phrase) → AsExpression v → AsExpression (Parenthesized o v c)
parenthesized_told o c v tv e st out t r m fits bare leaves =
    ap (λ (s : Option State). go s (spell v (c ∷ t ∷ r))) (at_word (λ u. operand st out u ≡ Some (At M.Operand (F.Parenthesis u.start ∷ st) out)) o W.OpenParenthesis m.0 refl)
    ∙ inside v (F.Parenthesis o.start) 1 st out c (t ∷ r) tv (omega arith) (at_least 1 (level v) m.1) refl (omega arith) refl m.2 (ap is_ender m.3)
    ∙ ap (λ (s : Option State). go s (t ∷ r)) (at_word (λ u. after (shape v) (F.Parenthesis o.start ∷ st) (emit v out) u ≡ Some (At (M.After (enclosed (shape v))) st (E.Parenthesized o.start ∷ emit v out))) c W.CloseParenthesis m.3 refl)

-- the base of a member or a call ends in no postfix operator
base_plain : (b : Phrase) (r : List Lexeme) → 17 ≤ level b → IsMade b r → in_postfix (shape b) ≡ false
base_plain b r h m = postfix_shape b r m ∙ tight b (omega arith)

base_told : (b : Phrase) (st : List Frame) (out : List Event) (t : Lexeme) (r : List Lexeme) → AsExpression b → 17 ≤ level b → Fits st (level b) → IsMade b (t ∷ r)
    → go (Some (At M.Operand st out)) (spell b (t ∷ r)) ≡ go (after (shape b) st (emit b out) t) r
base_told b st out t r tb h fits m = tb (is_at_least 1 (level b) (omega arith)) st out t r m fits (λ _. tight_bare b (omega arith)) (leaves_tight (level b) (ends_postfix b) t h)

pub member_told : (b : Phrase) (p n : Lexeme) → AsExpression b → AsExpression (Member b p n)
member_told b p n tb e st out t r m fits bare leaves =
    let high : 17 ≤ level b = at_least 17 (level b) m.0 in
    base_told b st out p (n ∷ t ∷ r) tb high (fits_member st (level b) fits high) m.1
    ∙ ap (λ (s : Option State). go s (n ∷ t ∷ r))
    (at_word (λ u. after (shape b) st (emit b out) u ≡ Some (At M.Member st (emit b out))) p W.Point m.2 (cond_false (in_postfix (shape b)) _ _ (base_plain b (p ∷ n ∷ t ∷ r) high m.1)))
    ∙ ap (λ (s : Option State). go s (t ∷ r)) (cond_true (is_identifier_name n.word) _ _ m.3)

pub index_told : (b v : Phrase) (o c : Lexeme) → AsExpression b → AsExpression v → AsExpression (Index b o v c)
index_told b v o c tb tv e st out t r m fits bare leaves =
    let high : 17 ≤ level b = at_least 17 (level b) m.0 in
    base_told b st out o (spell v (c ∷ t ∷ r)) tb high (fits_member st (level b) fits high) m.1
    ∙ ap (λ (s : Option State). go s (spell v (c ∷ t ∷ r)))
    (at_word (λ u. after (shape b) st (emit b out) u ≡ Some (At M.Operand (F.Index ∷ st) (emit b out))) o W.OpenBracket m.2 (cond_false (in_postfix (shape b)) _ _ (base_plain b (o ∷ spell v (c ∷ t ∷ r)) high m.1)))
    ∙ inside v F.Index 1 st (emit b out) c (t ∷ r) tv (omega arith) (at_least 1 (level v) m.3) refl (omega arith) refl m.4 (ap is_ender m.5)
    ∙ ap (λ (s : Option State). go s (t ∷ r))
    (at_word (λ u. after (shape v) (F.Index ∷ st) (emit v (emit b out)) u ≡ Some (At (M.After S.Target) st (node_behind H.Index 2 ∷ emit v (emit b out)))) c W.CloseBracket m.5 refl)

-- a comma may stand behind a part of a list of expressions
pub comma_leaves : (d : Phrase) (c : Lexeme) → c.word ≡ W.Comma → (p : Bool) → Leaves 2 p c
comma_leaves d c e p = leaves_word 2 p c W.Comma e (omega arith)

pub part_told : (d : Phrase) (f : Frame) (st : List Frame) (out : List Event) (t : Lexeme) (r : List Lexeme) → AsExpression d → is_assigned d ≡ true → new_top (f ∷ st) ≡ false → top_floor (f ∷ st) ≤ 2
    → top_bars (f ∷ st) ≡ false → IsMade d (t ∷ r) → ((p : Bool) → Leaves 2 p t)
    → go (Some (At M.Operand (f ∷ st) out)) (spell d (t ∷ r)) ≡ go (after (shape d) (f ∷ st) (emit d out) t) r
part_told d f st out t r td high other low bars m leaves =
    let tall : 2 ≤ level d = at_least 2 (level d) high in
    td (is_at_least 1 (level d) (omega arith)) (f ∷ st) out t r m (record { least = omega arith; other = λ h _. false_true (sym other ∙ h) }) (λ h. false_true (sym bars ∙ h))
    (leaves_up 2 (level d) (ends_postfix d) t (leaves (ends_postfix d)) tall)

-- arguments
argument_rules : (invocation : Invocation) (st : List Frame)
    → Rules (λ d. is_assigned d ≡ true) M.Argument M.Operand (λ n. F.Arguments invocation n) st (λ d n out t. after (shape d) (F.Arguments invocation n ∷ st) out t) (λ d t. (p : Bool) → Leaves 2 p t)
argument_rules invocation st = record {
  at_first = λ d out t r own h m e.
      turn (λ u. is_beginning u.word ≡ true) (Some (At M.Argument (F.Arguments invocation 0 ∷ st) out)) (Some (At M.Operand (F.Arguments invocation 0 ∷ st) out))
      (λ u b. argument_begins u.word (F.Arguments invocation 0 ∷ st) out u b) (spell d (t ∷ r)) (expression_begins d (t ∷ r) (higher 2 1 d h (omega arith)) m)
      ∙ part_told d (F.Arguments invocation 0) st out t r own.expression h refl (omega arith) refl m e;
  at_later = λ d n out t r own h m e. part_told d (F.Arguments invocation n) st out t r own.expression h refl (omega arith) refl m e;
  comma = λ d n out c e. at_word (λ u. after (shape d) (F.Arguments invocation n ∷ st) out u ≡ Some (At M.Operand (F.Arguments invocation (n + 1) ∷ st) out)) c W.Comma e refl;
  separates = comma_leaves;
}

pub arguments_told : (invocation : Invocation) (st : List Frame) (l : Phrase) (out : List Event) (c : Lexeme) (r : List Lexeme) → Each l → may_be_commas is_assigned l ≡ true → IsMade l (c ∷ r) → c.word ≡ W.CloseParenthesis
    → go (Some (At M.Argument (F.Arguments invocation 0 ∷ st) out)) (spell l (c ∷ r)) ≡ go (arguments_end invocation (width l) st (emit l out)) r
arguments_told invocation st l out c r each h m e = commas
    (λ k. Each k → IsMade k (c ∷ r) → go (Some (At M.Argument (F.Arguments invocation 0 ∷ st) out)) (spell k (c ∷ r)) ≡ go (arguments_end invocation (width k) st (emit k out)) r)
    is_assigned l h
    (λ _ _. ap (λ (s : Option State). go s r) (at_word (λ u. argument (F.Arguments invocation 0 ∷ st) out u ≡ arguments_end invocation 0 st out) c W.CloseParenthesis e refl))
    (λ some each m. let p = parts is_assigned l some in
    list_told _ _ _ _ _ _ _ (argument_rules invocation st) l out c r each p m (λ q. leaves_ender 2 q c (ap is_ender e))
    ∙ ap (λ (s : Option State). go s r)
    (at_word (λ u. after (shape (last l)) (F.Arguments invocation (before l) ∷ st) (emit l out) u ≡ arguments_end invocation (before l + 1) st (emit l out)) c W.CloseParenthesis e refl
    ∙ ap (λ (n : ℕ). arguments_end invocation n st (emit l out)) (sym (counted _ l p))))
    each m

-- a call, where no `new` without arguments stands before it
called : (st : List Frame) (out : List Event) → Fits st 17 → call st out ≡ Some (At M.Argument (F.Arguments I.Call 0 ∷ st) out)
called [] out fits = refl
called (F.Operator (P.New place) b ∷ st) out fits = absurd (fits.other refl refl)
called (F.Operator (P.Infix w) b ∷ st) out fits = refl
called (F.Operator (P.Prefix place w) b ∷ st) out fits = refl
called (F.Operator (P.Assignment w) b ∷ st) out fits = refl
called (F.Operator P.Choice b ∷ st) out fits = refl
called (f ∷ st) out fits = refl

fits_callee : (st : List Frame) (n : ℕ) → Fits st 17 → 17 ≤ n → Fits st n
fits_callee st n fits h = record {
  least = let k : top_floor st ≤ 17 = fits.least in omega arith;
  other = λ e _. fits.other e refl;
}

pub call_told : (f l : Phrase) (o c : Lexeme) → AsExpression f → Each l → AsExpression (Call f o l c)
call_told f l o c tf each e st out t r m fits bare leaves =
    let high : 17 ≤ level f = at_least 17 (level f) m.0 in
    base_told f st out o (spell l (c ∷ t ∷ r)) tf high (fits_callee st (level f) fits high) m.1
    ∙ ap (λ (s : Option State). go s (spell l (c ∷ t ∷ r)))
    (at_word (λ u. after (shape f) st (emit f out) u ≡ Some (At M.Argument (F.Arguments I.Call 0 ∷ st) (emit f out))) o W.OpenParenthesis m.2
    (cond_false (in_postfix (shape f)) _ _ (base_plain f (o ∷ spell l (c ∷ t ∷ r)) high m.1) ∙ called st (emit f out) fits))
    ∙ arguments_told I.Call st l (emit f out) c (t ∷ r) each m.3 m.4 m.5

pub new_call_told : (w o c : Lexeme) (f l : Phrase) → AsExpression f → Each l → AsExpression (NewCall w f o l c)
new_call_told w o c f l tf each e st out t r m fits bare leaves =
    let high : 18 ≤ level f = at_least 18 (level f) m.1 in
    ap (λ (s : Option State). go s (spell f (o ∷ spell l (c ∷ t ∷ r)))) (at_word (λ u. operand st out u ≡ Some (At M.Operand (F.Operator (P.New u.start) (top_bars st) ∷ st) out)) w W.New m.0 refl)
    ∙ base_told f (F.Operator (P.New w.start) (top_bars st) ∷ st) out o (spell l (c ∷ t ∷ r)) tf (omega arith) (record { least = omega arith; other = λ _ same. omega arith }) m.2
    ∙ ap (λ (s : Option State). go s (spell l (c ∷ t ∷ r)))
    (at_word (λ u. after (shape f) (F.Operator (P.New w.start) (top_bars st) ∷ st) (emit f out) u ≡ Some (At M.Argument (F.Arguments (I.New w.start) 0 ∷ st) (emit f out))) o W.OpenParenthesis m.3
    (cond_false (in_postfix (shape f)) _ _ (base_plain f (o ∷ spell l (c ∷ t ∷ r)) (omega arith) m.2)))
    ∙ arguments_told (I.New w.start) st l (emit f out) c (t ∷ r) each m.4 m.5 m.6
