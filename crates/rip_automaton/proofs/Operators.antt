-- The machine reads operators, `? :` and assignments.
use Rattle.std.proofs.Common.{◌≡◌, ◌==◌, ℕ, zero, suc, ◌<◌, ◌≤◌, nat_le, Bool, true, false, not, ◌&&◌, ◌||◌, cond, List, ◌∷◌, Option, Some, refl, sym, ap, ◌∙◌, subst, ◌⊎◌, inl, inr, arith}
use Rattle.rip_grammar.specs.declared.word.Word.{Word}
use Rattle.rip_grammar.specs.declared.word.Word.TheVariants as W
use Rattle.rip_grammar.specs.declared.word.Lexeme.{Lexeme}
use Rattle.rip_grammar.specs.declared.event.Event.{Event}
use Rattle.rip_automaton.specs.declared.frame.Pending.TheVariants as P
use Rattle.rip_automaton.specs.declared.frame.Frame.{Frame}
use Rattle.rip_automaton.specs.declared.frame.Frame.TheVariants as F
use Rattle.rip_automaton.specs.declared.mode.Mode.TheVariants as M
use Rattle.rip_automaton.specs.declared.mode.Shape.{Shape}
use Rattle.rip_grammar.specs.Words.{is_single, is_prefix, is_step, is_comma, is_in, is_assignment}
use Rattle.rip_grammar.specs.Phrases.{Phrase, Single, New, Postfix, Prefix, Infix, Conditional, Assignment, spell}
use Rattle.rip_grammar.specs.Levels.{level, binds, is_target}
use Rattle.rip_grammar.specs.Semicolons.{ends_postfix, has_bare_in}
use Rattle.rip_grammar.specs.Events.{emit}
use Rattle.rip_automaton.specs.Frames.{may_be_target, top_floor, top_bars}
use Rattle.rip_automaton.specs.States.{State, At}
use Rattle.rip_automaton.specs.Operands.{operand}
use Rattle.rip_automaton.specs.Continuations.{operator_begins, separate, postfix, leave, after_mark, after_by, after}
use Rattle.rip_automaton.specs.Machine.{go}
use Rattle.rip_automaton.proofs.Stepping.{at_word, false_true, cond_true, cond_false, or_left, or_right, bool, at_least, is_at_least, Binding, binding, comma_binds, single_no_prefix}
use Rattle.rip_automaton.proofs.Shapes.{shape, target_shape, postfix_shape, tight, tight_bare, constructed, target_level, fits_up, stops}
use Rattle.rip_automaton.proofs.Leaving.{Leaves, leaves_up, leaves_down, leaves_tight, leaves_operator, leaves_word, is_ender, leaves_ender, pop}
use Rattle.rip_automaton.proofs.Roles.{AsExpression}

-- `this`, a name, a literal
pub single_told : (v : Lexeme) → AsExpression (Single v)
single_told v e st out t r m fits bare leaves = ap (λ (s : Option State). go s (t ∷ r)) (cond_false (is_prefix v.word) _ _ (single_no_prefix v.word m) ∙ cond_true (is_single v.word) _ _ m)

-- an operator between two operands opens its last one
and_false : (x y : Bool) → (y ≡ true → x ≡ false) → (x && y) ≡ false
and_false true true h = h refl
and_false true false h = refl
and_false false y h = refl

operator_by : (b : ℕ) (sh : Shape) (st : List Frame) (out : List Event) (o : Lexeme) → binds o.word ≡ b → 0 < b → top_floor st ≤ b → (is_in o.word && top_bars st) ≡ false
    → after_by b sh st out o ≡ Some (At M.Operand (F.Operator (P.Infix o.word) (top_bars st) ∷ st) out)
operator_by zero sh st out o e h f i = absurd (omega arith)
operator_by (suc b) sh st out o e h f i = by_comma (bool (is_comma o.word))
  where
    by_comma : ((is_comma o.word ≡ true) ⊎ (is_comma o.word ≡ false)) → after_by (suc b) sh st out o ≡ Some (At M.Operand (F.Operator (P.Infix o.word) (top_bars st) ∷ st) out)
    by_comma (inl c) = let one : binds o.word ≡ 1 = comma_binds o.word c in let least : top_floor st ≤ 1 = omega arith in
        cond_true (is_comma o.word) _ _ c ∙ stops 1 sh st out (λ shape below events. separate shape below events o) (record { most = omega arith; gap = λ k. absurd (omega arith) }) (omega arith) least
        ∙ cond_true (nat_le (top_floor st) 1) _ _ (is_at_least (top_floor st) 1 least)
    by_comma (inr c) = cond_false (is_comma o.word) _ _ c ∙ cond_false (is_in o.word && top_bars st) _ _ i
        ∙ stops (suc b) sh st out (λ shape below events. operator_begins o.word below events) (subst Binding e (binding o.word)) h f

pub operator_told : (sh : Shape) (st : List Frame) (out : List Event) (o : Lexeme) → 0 < binds o.word → top_floor st ≤ binds o.word → (top_bars st ≡ true → is_in o.word ≡ false)
    → after sh st out o ≡ Some (At M.Operand (F.Operator (P.Infix o.word) (top_bars st) ∷ st) out)
operator_told sh st out o h f i = operator_by (binds o.word) sh st out o refl h f (and_false (is_in o.word) (top_bars st) i)

pub infix_told : (a b : Phrase) (o : Lexeme) → AsExpression a → AsExpression b → AsExpression (Infix a o b)
infix_told a b o ta tb e st out t r m fits bare leaves =
    let small : binds o.word ≤ 13 = (binding o.word).most in
    let some : 0 < binds o.word = m.0 in
    let left : binds o.word ≤ level a = m.1 in
    let right : binds o.word < level b = m.2 in
    ta (is_at_least 1 (level a) (omega arith)) st out o (spell b (t ∷ r)) m.3 (fits_up st (binds o.word) (level a) fits left (omega arith))
    (λ h. or_right (is_in o.word) (has_bare_in a) (or_left (is_in o.word || has_bare_in a) (has_bare_in b) (bare h))) (leaves_operator (level a) (ends_postfix a) o some left)
    ∙ ap (λ (s : Option State). go s (spell b (t ∷ r))) (operator_told (shape a) st (emit a out) o some fits.least (λ h. or_left (is_in o.word) (has_bare_in a) (or_left (is_in o.word || has_bare_in a) (has_bare_in b) (bare h))))
    ∙ tb (is_at_least 1 (level b) (omega arith)) (F.Operator (P.Infix o.word) (top_bars st) ∷ st) (emit a out) t r m.4 (record { least = omega arith; other = λ f _. false_true f })
    (λ h. or_right (is_in o.word || has_bare_in a) (has_bare_in b) (bare h)) (leaves_up (binds o.word) (level b) (ends_postfix b) t leaves (omega arith))
    ∙ ap (λ (s : Option State). go s r) (pop (P.Infix o.word) st (shape b) (emit b (emit a out)) t (omega arith) refl (omega arith)
    (subst (λ (p : Bool). Leaves (binds o.word) p t) (sym (postfix_shape b (t ∷ r) m.4)) leaves))

-- an operator before its operand
step_target : (step target : Bool) (n : ℕ) → (not step || target) ≡ true → 14 ≤ n → (target ≡ true → 17 ≤ n) → cond step 17 14 ≤ n
step_target true target n e h k = k e
step_target false target n e h k = h

pub prefix_told : (o : Lexeme) (v : Phrase) → AsExpression v → AsExpression (Prefix o v)
prefix_told o v tv e st out t r m fits bare leaves =
    let least : top_floor st ≤ 14 = fits.least in
    let high : 14 ≤ level v = at_least 14 (level v) m.1 in
    ap (λ (s : Option State). go s (spell v (t ∷ r))) (cond_true (is_prefix o.word) _ _ m.0 ∙ cond_true (nat_le (top_floor st) 14) _ _ (is_at_least (top_floor st) 14 least))
    ∙ tv (is_at_least 1 (level v) (omega arith)) (F.Operator (P.Prefix o.start o.word) (top_bars st) ∷ st) out t r m.3
    (record { least = step_target (is_step o.word) (is_target v) (level v) m.2 high (λ h. target_level v (t ∷ r) h m.3); other = λ f _. false_true f })
    (λ h. tight_bare v high) (leaves_up 14 (level v) (ends_postfix v) t leaves high)
    ∙ ap (λ (s : Option State). go s r) (pop (P.Prefix o.start o.word) st (shape v) (emit v out) t (omega arith)
    (subst (λ (b : Bool). (not (is_step o.word) || b) ≡ true) (sym (target_shape v)) m.2) (omega arith)
    (subst (λ (p : Bool). Leaves 14 p t) (sym (postfix_shape v (t ∷ r) m.3)) leaves))

-- `new` without arguments
no_call : (n : ℕ) → (nat_le 18 n || n == 16) ≡ true → n ≡ 17 → ⊥
no_call n e same = let f : false ≡ true = subst (λ (k : ℕ). (nat_le 18 k || k == 16) ≡ true) same e in false_true f

pub new_told : (w : Lexeme) (f : Phrase) → AsExpression f → AsExpression (New w f)
new_told w f tf e st out t r m fits bare leaves =
    let high : 16 ≤ level f = constructed (level f) m.1 in
    let plain : ends_postfix f ≡ false = tight f high in
    ap (λ (s : Option State). go s (spell f (t ∷ r))) (at_word (λ u. operand st out u ≡ Some (At M.Operand (F.Operator (P.New u.start) (top_bars st) ∷ st) out)) w W.New m.0 refl)
    ∙ tf (is_at_least 1 (level f) (omega arith)) (F.Operator (P.New w.start) (top_bars st) ∷ st) out t r m.2
    (record { least = high; other = λ _ same. no_call (level f) m.1 same }) (λ h. tight_bare f (omega arith))
    (leaves_up 16 (level f) (ends_postfix f) t (subst (λ (p : Bool). Leaves 16 p t) (sym plain) leaves) high)
    ∙ ap (λ (s : Option State). go s r) (pop (P.New w.start) st (shape f) (emit f out) t (omega arith) refl (omega arith)
    (subst (λ (p : Bool). Leaves 16 p t) (sym (postfix_shape f (t ∷ r) m.2 ∙ plain)) leaves))

-- an assignment
assignment_word : (w : Word) → is_assignment w ≡ true → binds w ≡ 0
assignment_word W.Assign e = refl
assignment_word (W.Compound op) e = refl
assignment_word _ e = absurd (false_true e)

both_true : (x y : Bool) → x ≡ true → y ≡ true → (x && y) ≡ true
both_true x y e f = ap (λ (b : Bool). b && y) e ∙ f

pub assignment_told : (a b : Phrase) (o : Lexeme) → AsExpression a → AsExpression b → AsExpression (Assignment a o b)
assignment_told a b o ta tb e st out t r m fits bare leaves =
    let tall : 17 ≤ level a = target_level a (o ∷ spell b (t ∷ r)) m.0 m.1 in
    let high : 2 ≤ level b = at_least 2 (level b) m.3 in
    ta (is_at_least 1 (level a) (omega arith)) st out o (spell b (t ∷ r)) m.1 (fits_up st 2 (level a) fits (omega arith) (omega arith)) (λ h. tight_bare a (omega arith)) (leaves_tight (level a) (ends_postfix a) o tall)
    ∙ ap (λ (s : Option State). go s (spell b (t ∷ r)))
    (ap (λ (k : ℕ). after_by k (shape a) st (emit a out) o) (assignment_word o.word m.2) ∙ cond_true (is_assignment o.word) _ _ m.2
    ∙ cond_true (may_be_target (shape a) && nat_le (top_floor st) 2) _ _ (both_true _ _ (target_shape a ∙ m.0) (is_at_least (top_floor st) 2 fits.least)))
    ∙ tb (is_at_least 1 (level b) (omega arith)) (F.Operator (P.Assignment o.word) (top_bars st) ∷ st) (emit a out) t r m.4 (record { least = high; other = λ f _. false_true f })
    bare (leaves_up 2 (level b) (ends_postfix b) t leaves high)
    ∙ ap (λ (s : Option State). go s r) (pop (P.Assignment o.word) st (shape b) (emit b (emit a out)) t (omega arith) refl (omega arith)
    (subst (λ (p : Bool). Leaves 2 p t) (sym (postfix_shape b (t ∷ r) m.4)) leaves))

-- `? :`
question_told : (sh : Shape) (st : List Frame) (out : List Event) (q : Lexeme) → q.word ≡ W.Question → top_floor st ≤ 4 → after sh st out q ≡ Some (At M.Operand (F.Test ∷ st) out)
question_told sh st out q e h = at_word (λ u. after sh st out u ≡ Some (At M.Operand (F.Test ∷ st) out)) q W.Question e
    (stops 4 sh st out (λ shape below events. Some (At M.Operand (F.Test ∷ below) events)) (record { most = omega arith; gap = λ k. omega arith }) (omega arith) h)

pub conditional_told : (a b d : Phrase) (q c : Lexeme) → AsExpression a → AsExpression b → AsExpression d → AsExpression (Conditional a q b c d)
conditional_told a b d q c ta tb td e st out t r m fits bare leaves =
    let first : 4 ≤ level a = at_least 4 (level a) m.0 in
    let middle : 2 ≤ level b = at_least 2 (level b) m.3 in
    let last : 2 ≤ level d = at_least 2 (level d) m.6 in
    let least : top_floor st ≤ 3 = fits.least in
    ta (is_at_least 1 (level a) (omega arith)) st out q (spell b (c ∷ spell d (t ∷ r))) m.1 (fits_up st 3 (level a) fits (omega arith) (omega arith))
    (λ h. or_left (has_bare_in a) (has_bare_in d) (bare h)) (leaves_word (level a) (ends_postfix a) q W.Question m.2 (λ f. absurd (false_true f), first))
    ∙ ap (λ (s : Option State). go s (spell b (c ∷ spell d (t ∷ r)))) (question_told (shape a) st (emit a out) q m.2 (omega arith))
    ∙ tb (is_at_least 1 (level b) (omega arith)) (F.Test ∷ st) (emit a out) c (spell d (t ∷ r)) m.4 (record { least = middle; other = λ f _. false_true f }) (λ f. false_true f)
    (leaves_ender (level b) (ends_postfix b) c (ap is_ender m.5))
    ∙ ap (λ (s : Option State). go s (spell d (t ∷ r)))
    (at_word (λ u. after (shape b) (F.Test ∷ st) (emit b (emit a out)) u ≡ Some (At M.Operand (F.Operator P.Choice (top_bars st) ∷ st) (emit b (emit a out)))) c W.Colon m.5 refl)
    ∙ td (is_at_least 1 (level d) (omega arith)) (F.Operator P.Choice (top_bars st) ∷ st) (emit b (emit a out)) t r m.7 (record { least = last; other = λ f _. false_true f })
    (λ h. or_right (has_bare_in a) (has_bare_in d) (bare h)) (leaves_up 2 (level d) (ends_postfix d) t (leaves_down (ends_postfix d) t leaves) last)
    ∙ ap (λ (s : Option State). go s r) (pop P.Choice st (shape d) (emit d (emit b (emit a out))) t (omega arith) refl (omega arith)
    (subst (λ (p : Bool). Leaves 3 p t) (sym (postfix_shape d (t ∷ r) m.7)) leaves))

-- `++` and `--` behind a target
step_word : (w : Word) → is_step w ≡ true → (binds w ≡ 0) × (is_assignment w ≡ false)
step_word (W.Step op) e = (refl, refl)
step_word _ e = absurd (false_true e)

step_mark : (w : Word) (sh : Shape) (st : List Frame) (out : List Event) (t : Lexeme) → is_step w ≡ true → after_mark w sh st out t ≡ cond t.line_before (leave sh st out t) (postfix sh st out t)
step_mark (W.Step op) sh st out t e = refl
step_mark _ sh st out t e = absurd (false_true e)

pub postfix_told : (v : Phrase) (o : Lexeme) → AsExpression v → AsExpression (Postfix v o)
postfix_told v o tv e st out t r m fits bare leaves =
    let tall : 17 ≤ level v = target_level v (o ∷ t ∷ r) m.1 m.2 in
    let least : top_floor st ≤ 15 = fits.least in
    let none = step_word o.word m.3 in
    tv (is_at_least 1 (level v) (omega arith)) st out o (t ∷ r) m.2 (fits_up st 15 (level v) fits (omega arith) (omega arith)) (λ h. tight_bare v (omega arith)) (leaves_tight (level v) (ends_postfix v) o tall)
    ∙ ap (λ (s : Option State). go s (t ∷ r))
    (ap (λ (k : ℕ). after_by k (shape v) st (emit v out) o) none.0 ∙ cond_false (is_assignment o.word) _ _ none.1 ∙ step_mark o.word (shape v) st (emit v out) o m.3
    ∙ cond_false o.line_before _ _ m.4 ∙ cond_true (may_be_target (shape v) && nat_le (top_floor st) 15) _ _ (both_true _ _ (target_shape v ∙ m.1) (is_at_least (top_floor st) 15 least)))
