-- The machine reads statements that end with `;` or with its empty spelling.
use Rattle.std.proofs.Common.{◌≡◌, ℕ, ◌≤◌, Bool, true, false, not, ◌&&◌, ◌||◌, List, [], ◌∷◌, Option, Some, refl, sym, ap, ◌∙◌, subst, ◌⊎◌, inl, inr, arith}
use Rattle.rip_grammar.specs.declared.word.Word.{Word}
use Rattle.rip_grammar.specs.declared.word.Word.TheVariants as W
use Rattle.rip_grammar.specs.declared.word.Lexeme.{Lexeme}
use Rattle.rip_grammar.specs.declared.event.Head.TheVariants as H
use Rattle.rip_grammar.specs.declared.event.Event.{Event}
use Rattle.rip_grammar.specs.declared.event.Event.TheVariants as E
use Rattle.rip_automaton.specs.declared.frame.Frame.{Frame}
use Rattle.rip_automaton.specs.declared.frame.Frame.TheVariants as F
use Rattle.rip_automaton.specs.declared.mode.Mode.TheVariants as M
use Rattle.rip_automaton.specs.declared.mode.Shape.{Shape}
use Rattle.rip_grammar.specs.Words.{is_semicolon, is_close, is_no_beginning}
use Rattle.rip_grammar.specs.Phrases.{Ending, Written, Inserted, Phrase, Absent, Empty, Expression, Continue, Break, Return, Throw, spell, spell_ending}
use Rattle.rip_grammar.specs.Levels.{level}
use Rattle.rip_grammar.specs.Semicolons.{IsEnded, continues, continues_nothing, is_inserted, ends_postfix}
use Rattle.rip_grammar.specs.Grammar.{IsMade, is_absent, is_expression, may_be_expression, continues_return}
use Rattle.rip_grammar.specs.Events.{node_at, node_behind, emit}
use Rattle.rip_automaton.specs.Frames.{in_postfix, top_floor, top_bars}
use Rattle.rip_automaton.specs.States.{State, At}
use Rattle.rip_automaton.specs.Operands.{operand}
use Rattle.rip_automaton.specs.Statements.{start, ended, finish}
use Rattle.rip_automaton.specs.Headers.{returning}
use Rattle.rip_automaton.specs.Continuations.{leave, after}
use Rattle.rip_automaton.specs.Machine.{go}
use Rattle.rip_automaton.proofs.Stepping.{at_word, false_true, cond_true, cond_false, bool, at_least, turn}
use Rattle.rip_automaton.proofs.Shapes.{shape, postfix_shape, new_top}
use Rattle.rip_automaton.proofs.Leaving.{is_ender, leaves_ender, leaves_inserted, inserted, leaves_operators, finish_inserted, finish_written}
use Rattle.rip_automaton.proofs.Beginnings.{is_beginning, expression_begins, expression_next, on_line, return_continues, next_both, statement_begins, beginning_is_other}
use Rattle.rip_automaton.proofs.Roles.{AsExpression, AsElement}

-- `;` of a statement that nothing continues
pub nothing_told : (z : Ending) (st : List Frame) (out : List Event) (t : Lexeme) (r : List Lexeme) → IsEnded continues_nothing z (t ∷ r)
    → go (Some (At M.Semicolon st out)) (spell_ending z (t ∷ r)) ≡ go (ended st out t) r
nothing_told (Written v) st out t r e = ap (λ (s : Option State). go s (t ∷ r)) (finish_written (is_inserted continues_nothing v) st out v e)
nothing_told Inserted st out t r e = ap (λ (s : Option State). go s r) (finish_inserted (is_inserted continues_nothing t) st out t (inserted continues_nothing t e).other e)

-- an expression at the end of a statement
pub end_told : (d : Phrase) (z : Ending) (f : Frame) (event : Event) (st : List Frame) (out : List Event) (t : Lexeme) (r : List Lexeme) → AsExpression d → is_expression d ≡ true → new_top (f ∷ st) ≡ false → top_floor (f ∷ st) ≤ 1
    → top_bars (f ∷ st) ≡ false → ((sh : Shape) (was : List Event) (u : Lexeme) → leave sh (f ∷ st) was u ≡ finish (is_inserted (continues (in_postfix sh)) u) st (event ∷ was) u)
    → IsMade d (spell_ending z (t ∷ r)) → IsEnded (continues (ends_postfix d)) z (t ∷ r)
    → go (Some (At M.Operand (f ∷ st) out)) (spell d (spell_ending z (t ∷ r))) ≡ go (ended st (event ∷ emit d out) t) r
end_told d (Written v) f event st out t r td high other low bars closes m e =
    let some : 1 ≤ level d = at_least 1 (level d) high in
    td high (f ∷ st) out v (t ∷ r) m (record { least = omega arith; other = λ h _. false_true (sym other ∙ h) }) (λ h. false_true (sym bars ∙ h)) (leaves_ender (level d) (ends_postfix d) v (ap is_ender e))
    ∙ ap (λ (s : Option State). go s (t ∷ r))
    (at_word (λ u. after (shape d) (f ∷ st) (emit d out) u ≡ leave (shape d) (f ∷ st) (emit d out) u) v W.Semicolon e refl
    ∙ closes (shape d) (emit d out) v ∙ finish_written (is_inserted (continues (in_postfix (shape d))) v) st (event ∷ emit d out) v e)
end_told d Inserted f event st out t r td high other low bars closes m e =
    let some : 1 ≤ level d = at_least 1 (level d) high in
    let same = sym (postfix_shape d (t ∷ r) m) in
    let breaks : is_inserted (continues (in_postfix (shape d))) t ≡ true = subst (λ (p : Bool). is_inserted (continues p) t ≡ true) same e in
    td high (f ∷ st) out t r m (record { least = omega arith; other = λ h _. false_true (sym other ∙ h) }) (λ h. false_true (sym bars ∙ h)) (leaves_inserted (level d) (ends_postfix d) t (inserted (continues (ends_postfix d)) t e))
    ∙ ap (λ (s : Option State). go s r)
    (leaves_operators (shape d) (f ∷ st) (emit d out) t (inserted (continues (in_postfix (shape d))) t breaks)
    ∙ closes (shape d) (emit d out) t
    ∙ finish_inserted (is_inserted (continues (in_postfix (shape d))) t) st (event ∷ emit d out) t (inserted (continues (in_postfix (shape d))) t breaks).other breaks)

-- `;` alone
pub empty_told : (v : Lexeme) → AsElement (Empty v)
empty_told v e st out t r m declares other = ap (λ (s : Option State). go s (t ∷ r)) (at_word (λ u. start st out u ≡ Some (At M.Ended st (node_at u.start H.Empty 0 ∷ out))) v W.Semicolon m refl)

-- an expression
pub expression_told : (d : Phrase) (z : Ending) → AsExpression d → AsElement (Expression d z)
expression_told d z td e st out t r m declares other =
    let x = spell_ending z (t ∷ r) in
    turn (λ u. (is_beginning u.word ≡ true) × (is_no_beginning u.word ≡ false)) (Some (At M.Statement st out)) (Some (At M.Operand (F.Expression ∷ st) out))
    (λ u b. statement_begins u.word st out u b.0 b.1) (spell d x)
    (next_both (λ u. is_beginning u.word ≡ true) (λ u. is_no_beginning u.word ≡ false) (spell d x) (expression_begins d x m.0 m.2) (expression_next (λ u. is_no_beginning u.word ≡ false) d [] x m.0 m.1))
    ∙ end_told d z F.Expression (node_behind H.Expression 1) st out t r td m.0 refl (omega arith) refl (λ sh was u. refl) m.2 m.3

-- `continue` and `break`
pub continue_told : (v : Lexeme) (z : Ending) → AsElement (Continue v z)
continue_told v z e st out t r m declares other =
    ap (λ (s : Option State). go s (spell_ending z (t ∷ r))) (at_word (λ u. start st out u ≡ Some (At M.Semicolon st (node_at u.start H.Continue 0 ∷ out))) v W.Continue m.0 refl)
    ∙ nothing_told z st (node_at v.start H.Continue 0 ∷ out) t r m.1

pub break_told : (v : Lexeme) (z : Ending) → AsElement (Break v z)
break_told v z e st out t r m declares other =
    ap (λ (s : Option State). go s (spell_ending z (t ∷ r))) (at_word (λ u. start st out u ≡ Some (At M.Semicolon st (node_at u.start H.Break 0 ∷ out))) v W.Break m.0 refl)
    ∙ nothing_told z st (node_at v.start H.Break 0 ∷ out) t r m.1

-- an expression that may be absent
pub absent : (d : Phrase) → is_absent d ≡ true → d ≡ Absent
absent Absent e = refl
absent _ e = absurd (false_true e)

pub optional : (Q : Phrase → Type 0) (d : Phrase) → may_be_expression d ≡ true → Q Absent → (is_expression d ≡ true → Q d) → Q d
optional Q d e none some = by_absent (bool (is_absent d))
  where
    by_absent : ((is_absent d ≡ true) ⊎ (is_absent d ≡ false)) → Q d
    by_absent (inl h) = subst Q (sym (absent d h)) none
    by_absent (inr h) = some (sym (ap (λ (b : Bool). b || is_expression d) h) ∙ e)

-- a lexeme on the line does not end the statement
not_broken : (continued : Word → Bool) (t : Lexeme) → is_close t.word ≡ false → t.line_before ≡ false → is_inserted continued t ≡ false
not_broken continued t c l = ap (λ (b : Bool). (b || t.line_before) && not (is_semicolon t.word) && not (continued t.word)) c ∙ ap (λ (b : Bool). b && not (is_semicolon t.word) && not (continued t.word)) l

-- `return`
ended_as : (c k : Word → Bool) (z : Ending) (t : Lexeme) (r : List Lexeme) → ((w : Word) → c w ≡ k w) → IsEnded c z (t ∷ r) → IsEnded k z (t ∷ r)
ended_as c k (Written v) t r same e = e
ended_as c k Inserted t r same e = sym (ap (λ (b : Bool). (is_close t.word || t.line_before) && not (is_semicolon t.word) && not b) (same t.word)) ∙ e

return_nothing : (z : Ending) (place : ℕ) (st : List Frame) (out : List Event) (t : Lexeme) (r : List Lexeme) → IsEnded continues_nothing z (t ∷ r)
    → go (Some (At M.Returning (F.Return place ∷ st) out)) (spell_ending z (t ∷ r)) ≡ go (ended st (node_at place H.Return 1 ∷ E.Absent ∷ out) t) r
return_nothing (Written v) place st out t r e = ap (λ (s : Option State). go s (t ∷ r))
    (cond_true (is_semicolon v.word) _ _ (ap is_semicolon e) ∙ finish_written false st (node_at place H.Return 1 ∷ E.Absent ∷ out) v e)
return_nothing Inserted place st out t r e = ap (λ (s : Option State). go s r)
    (cond_false (is_semicolon t.word) _ _ (inserted continues_nothing t e).other ∙ cond_true (is_inserted continues_nothing t) _ _ e
    ∙ finish_inserted true st (node_at place H.Return 1 ∷ E.Absent ∷ out) t (inserted continues_nothing t e).other refl)

returns : (st : List Frame) (out : List Event) (u : Lexeme) → is_beginning u.word ≡ true → u.line_before ≡ false → returning st out u ≡ operand st out u
returns st out u b l = let rest = beginning_is_other u.word b in
    cond_false (is_semicolon u.word) _ _ rest.0 ∙ cond_false (is_inserted continues_nothing u) _ _ (not_broken continues_nothing u rest.1 l)

pub return_told : (v : Lexeme) (d : Phrase) (z : Ending) → AsExpression d → AsElement (Return v d z)
return_told v d z td e st out t r m declares other =
    let x = spell_ending z (t ∷ r) in
    ap (λ (s : Option State). go s (spell d x)) (at_word (λ u. start st out u ≡ Some (At M.Returning (F.Return u.start ∷ st) out)) v W.Return m.0 refl)
    ∙ optional (λ k. IsEnded (continues_return k) z (t ∷ r) → go (Some (At M.Returning (F.Return v.start ∷ st) out)) (spell k x) ≡ go (ended st (node_at v.start H.Return 1 ∷ emit k out) t) r) d m.1
    (λ end. return_nothing z v.start st out t r end)
    (λ h end.
    turn (λ u. (is_beginning u.word ≡ true) × (u.line_before ≡ false)) (Some (At M.Returning (F.Return v.start ∷ st) out)) (Some (At M.Operand (F.Return v.start ∷ st) out))
    (λ u b. returns (F.Return v.start ∷ st) out u b.0 b.1) (spell d x)
    (next_both (λ u. is_beginning u.word ≡ true) (λ u. u.line_before ≡ false) (spell d x) (expression_begins d x h m.3) (expression_next (λ u. u.line_before ≡ false) d [] x h (on_line d h m.2)))
    ∙ end_told d z (F.Return v.start) (node_at v.start H.Return 1) st out t r td h refl (omega arith) refl (λ sh was u. refl) m.3
    (ended_as (continues_return d) (continues (ends_postfix d)) z t r (λ w. return_continues d w h) end))
    m.4

-- `throw`
pub throw_told : (v : Lexeme) (d : Phrase) (z : Ending) → AsExpression d → AsElement (Throw v d z)
throw_told v d z td e st out t r m declares other =
    let x = spell_ending z (t ∷ r) in
    ap (λ (s : Option State). go s (spell d x)) (at_word (λ u. start st out u ≡ Some (At M.Throwing (F.Throw u.start ∷ st) out)) v W.Throw m.0 refl)
    ∙ turn (λ u. u.line_before ≡ false) (Some (At M.Throwing (F.Throw v.start ∷ st) out)) (Some (At M.Operand (F.Throw v.start ∷ st) out))
    (λ u l. cond_false u.line_before _ _ l) (spell d x) (expression_next (λ u. u.line_before ≡ false) d [] x m.1 (on_line d m.1 m.2))
    ∙ end_told d z (F.Throw v.start) (node_at v.start H.Throw 1) st out t r td m.1 refl (omega arith) refl (λ sh was u. refl) m.3 m.4
