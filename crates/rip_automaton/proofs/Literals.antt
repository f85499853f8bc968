-- The machine reads array and object literals.
use Rattle.std.proofs.Common.{◌≡◌, ℕ, ◌+◌, Bool, true, List, ◌∷◌, Option, Some, None, refl, sym, ap, ◌∙◌, arith}
use Rattle.rip_grammar.specs.declared.word.Word.{Word}
use Rattle.rip_grammar.specs.declared.word.Word.TheVariants as W
use Rattle.rip_grammar.specs.declared.word.Lexeme.{Lexeme}
use Rattle.rip_grammar.specs.declared.event.Head.TheVariants as H
use Rattle.rip_grammar.specs.declared.event.Event.{Event}
use Rattle.rip_automaton.specs.declared.frame.Frame.{Frame}
use Rattle.rip_automaton.specs.declared.frame.Frame.TheVariants as F
use Rattle.rip_automaton.specs.declared.mode.Mode.TheVariants as M
use Rattle.rip_automaton.specs.declared.mode.Shape.TheVariants as S
use Rattle.rip_grammar.specs.Words.{is_key}
use Rattle.rip_grammar.specs.Phrases.{Phrase, Nothing, Trailing, Array, Object, Entry, spell}
use Rattle.rip_grammar.specs.Grammar.{IsMade, is_assigned, is_entry, may_be_commas, may_end_in_comma}
use Rattle.rip_grammar.specs.Events.{node_at, emit, width}
use Rattle.rip_automaton.specs.States.{State, At}
use Rattle.rip_automaton.specs.Operands.{operand, element, key, key_by, entry_begins}
use Rattle.rip_automaton.specs.Continuations.{after, entries_by}
use Rattle.rip_automaton.specs.Machine.{feed, go}
use Rattle.rip_automaton.proofs.Stepping.{at_word, false_true, cond_true, turn}
use Rattle.rip_automaton.proofs.Shapes.{shape}
use Rattle.rip_automaton.proofs.Leaving.{Leaves, leaves_word, is_ender, leaves_ender}
use Rattle.rip_automaton.proofs.Beginnings.{is_beginning, expression_begins, element_begins, higher}
use Rattle.rip_automaton.proofs.Roles.{AsExpression, AsEntry, Own, Each, is_entry_end}
use Rattle.rip_automaton.proofs.CommaLists.{parts, last, before, counted, Rules, list_told, commas}
use Rattle.rip_automaton.proofs.Members.{comma_leaves, part_told}

-- elements
element_told : (place n : ℕ) (st : List Frame) (d : Phrase) (out : List Event) (t : Lexeme) (r : List Lexeme) → Own d → is_assigned d ≡ true → IsMade d (t ∷ r) → ((p : Bool) → Leaves 2 p t)
    → go (Some (At M.Element (F.Elements place n ∷ st) out)) (spell d (t ∷ r)) ≡ go (after (shape d) (F.Elements place n ∷ st) (emit d out) t) r
element_told place n st d out t r own h m e =
    turn (λ u. is_beginning u.word ≡ true) (Some (At M.Element (F.Elements place n ∷ st) out)) (Some (At M.Operand (F.Elements place n ∷ st) out))
    (λ u b. element_begins u.word (F.Elements place n ∷ st) out u b) (spell d (t ∷ r)) (expression_begins d (t ∷ r) (higher 2 1 d h (omega arith)) m)
    ∙ part_told d (F.Elements place n) st out t r own.expression h refl (omega arith) refl m e

element_rules : (place : ℕ) (st : List Frame)
    → Rules (λ d. is_assigned d ≡ true) M.Element M.Element (λ n. F.Elements place n) st (λ d n out t. after (shape d) (F.Elements place n ∷ st) out t) (λ d t. (p : Bool) → Leaves 2 p t)
element_rules place st = record {
  at_first = λ d out t r own h m e. element_told place 0 st d out t r own h m e;
  at_later = λ d n out t r own h m e. element_told place n st d out t r own h m e;
  comma = λ d n out c e. at_word (λ u. after (shape d) (F.Elements place n ∷ st) out u ≡ Some (At M.Element (F.Elements place (n + 1) ∷ st) out)) c W.Comma e refl;
  separates = comma_leaves;
}

-- what an array literal comes to
abbrev array : ℕ → List Frame → Phrase → List Event → Option State
array place st l out = Some (At (M.After S.Plain) st (node_at place H.Array (width l) ∷ emit l out))

elements_end_told : (place : ℕ) (st : List Frame) (l : Phrase) (out : List Event) (c : Lexeme) (r : List Lexeme) → Each l → may_be_commas is_assigned l ≡ true → IsMade l (c ∷ r) → c.word ≡ W.CloseBracket
    → go (Some (At M.Element (F.Elements place 0 ∷ st) out)) (spell l (c ∷ r)) ≡ go (array place st l out) r
elements_end_told place st l out c r each h m e = commas
    (λ k. Each k → IsMade k (c ∷ r) → go (Some (At M.Element (F.Elements place 0 ∷ st) out)) (spell k (c ∷ r)) ≡ go (array place st k out) r)
    is_assigned l h
    (λ _ _. ap (λ (s : Option State). go s r) (at_word (λ u. element (F.Elements place 0 ∷ st) out u ≡ array place st Nothing out) c W.CloseBracket e refl))
    (λ some each m. let p = parts is_assigned l some in
    list_told _ _ _ _ _ _ _ (element_rules place st) l out c r each p m (λ q. leaves_ender 2 q c (ap is_ender e))
    ∙ ap (λ (s : Option State). go s r)
    (at_word (λ u. after (shape (last l)) (F.Elements place (before l) ∷ st) (emit l out) u ≡ Some (At (M.After S.Plain) st (node_at place H.Array (before l + 1) ∷ emit l out))) c W.CloseBracket e refl
    ∙ ap (λ (n : ℕ). Some (At (M.After S.Plain) st (node_at place H.Array n ∷ emit l out))) (sym (counted _ l p))))
    each m

elements_told : (place : ℕ) (st : List Frame) (l : Phrase) (out : List Event) (c : Lexeme) (r : List Lexeme) → Each l → may_end_in_comma is_assigned l ≡ true → IsMade l (c ∷ r) → c.word ≡ W.CloseBracket
    → go (Some (At M.Element (F.Elements place 0 ∷ st) out)) (spell l (c ∷ r)) ≡ go (array place st l out) r
elements_told place st (Trailing k d) out c r each h m e = let p = parts is_assigned k h in
    list_told _ _ _ _ _ _ _ (element_rules place st) k out d (c ∷ r) each p m.0 (comma_leaves (last k) d m.1)
    ∙ ap (λ (s : Option State). go s (c ∷ r)) (at_word (λ u. after (shape (last k)) (F.Elements place (before k) ∷ st) (emit k out) u ≡ Some (At M.Element (F.Elements place (before k + 1) ∷ st) (emit k out))) d W.Comma m.1 refl)
    ∙ ap (λ (s : Option State). go s r)
    (at_word (λ u. element (F.Elements place (before k + 1) ∷ st) (emit k out) u ≡ Some (At (M.After S.Plain) st (node_at place H.Array (before k + 1) ∷ emit k out))) c W.CloseBracket e refl
    ∙ ap (λ (n : ℕ). Some (At (M.After S.Plain) st (node_at place H.Array n ∷ emit k out))) (sym (counted _ k p)))
elements_told place st l out c r each h m e = elements_end_told place st l out c r each h m e

pub array_told : (o c : Lexeme) (l : Phrase) → Each l → AsExpression (Array o l c)
array_told o c l each e st out t r m fits bare leaves =
    ap (λ (s : Option State). go s (spell l (c ∷ t ∷ r))) (at_word (λ u. operand st out u ≡ Some (At M.Element (F.Elements u.start 0 ∷ st) out)) o W.OpenBracket m.0 refl)
    ∙ elements_told o.start st l out c (t ∷ r) each m.1 m.2 m.3

-- an entry
key_read : (w : Word) (st : List Frame) (out : List Event) (t : Lexeme) → is_key w ≡ true → key_by w st out t ≡ entry_begins st out t
key_read W.CloseBrace st out t e = absurd (false_true e)
key_read w st out t e = cond_true (is_key w) (entry_begins st out t) None e

entry_leaves : (w : Word) (t : Lexeme) → t.word ≡ w → is_entry_end w ≡ true → (p : Bool) → Leaves 2 p t
entry_leaves W.Comma t e h p = leaves_word 2 p t W.Comma e (omega arith)
entry_leaves W.CloseBrace t e h p = leaves_ender 2 p t (ap is_ender e)
entry_leaves _ t e h p = absurd (false_true h)

entry_ends : (w : Word) (v : Phrase) (place count : ℕ) (k : Lexeme) (st : List Frame) (out : List Event) (t : Lexeme) → t.word ≡ w → is_entry_end w ≡ true
    → after (shape v) (F.Entry place count k ∷ st) out t ≡ entries_by t.word place (count + 1) st (node_at k.start (H.Entry k) 1 ∷ out)
entry_ends W.Comma v place count k st out t e h = at_word (λ u. after (shape v) (F.Entry place count k ∷ st) out u ≡ entries_by u.word place (count + 1) st (node_at k.start (H.Entry k) 1 ∷ out)) t W.Comma e refl
entry_ends W.CloseBrace v place count k st out t e h = at_word (λ u. after (shape v) (F.Entry place count k ∷ st) out u ≡ entries_by u.word place (count + 1) st (node_at k.start (H.Entry k) 1 ∷ out)) t W.CloseBrace e refl
entry_ends _ v place count k st out t e h = absurd (false_true h)

pub entry_told : (k c : Lexeme) (v : Phrase) → AsExpression v → AsEntry (Entry k c v)
entry_told k c v tv e place count st out t r m end =
    ap (λ (s : Option State). go s (c ∷ spell v (t ∷ r))) (key_read k.word (F.Object place count ∷ st) out k m.0)
    ∙ ap (λ (s : Option State). go s (spell v (t ∷ r))) (at_word (λ u. feed (Some (At M.EntryColon (F.Entry place count k ∷ st) out)) u ≡ Some (At M.Operand (F.Entry place count k ∷ st) out)) c W.Colon m.1 refl)
    ∙ part_told v (F.Entry place count k) st out t r tv m.2 refl (omega arith) refl m.3 (entry_leaves t.word t refl end)
    ∙ ap (λ (s : Option State). go s r) (entry_ends t.word v place count k st (emit v out) t refl end)

-- entries
entry_rules : (place : ℕ) (st : List Frame)
    → Rules (λ d. is_entry d ≡ true) M.Key M.Key (λ n. F.Object place n) st (λ d n out t. entries_by t.word place (n + 1) st out) (λ d t. is_entry_end t.word ≡ true)
entry_rules place st = record {
  at_first = λ d out t r own h m e. own.entry h place 0 st out t r m e;
  at_later = λ d n out t r own h m e. own.entry h place n st out t r m e;
  comma = λ d n out c e. ap (λ (w : Word). entries_by w place (n + 1) st out) e;
  separates = λ d c e. ap is_entry_end e;
}

-- what an object literal comes to
abbrev object : ℕ → List Frame → Phrase → List Event → Option State
object place st l out = Some (At (M.After S.Plain) st (node_at place H.Object (width l) ∷ emit l out))

entries_end_told : (place : ℕ) (st : List Frame) (l : Phrase) (out : List Event) (c : Lexeme) (r : List Lexeme) → Each l → may_be_commas is_entry l ≡ true → IsMade l (c ∷ r) → c.word ≡ W.CloseBrace
    → go (Some (At M.Key (F.Object place 0 ∷ st) out)) (spell l (c ∷ r)) ≡ go (object place st l out) r
entries_end_told place st l out c r each h m e = commas
    (λ k. Each k → IsMade k (c ∷ r) → go (Some (At M.Key (F.Object place 0 ∷ st) out)) (spell k (c ∷ r)) ≡ go (object place st k out) r)
    is_entry l h
    (λ _ _. ap (λ (s : Option State). go s r) (at_word (λ u. key (F.Object place 0 ∷ st) out u ≡ object place st Nothing out) c W.CloseBrace e refl))
    (λ some each m. let p = parts is_entry l some in
    list_told _ _ _ _ _ _ _ (entry_rules place st) l out c r each p m (ap is_entry_end e)
    ∙ ap (λ (s : Option State). go s r)
    (ap (λ (w : Word). entries_by w place (before l + 1) st (emit l out)) e ∙ ap (λ (n : ℕ). Some (At (M.After S.Plain) st (node_at place H.Object n ∷ emit l out))) (sym (counted _ l p))))
    each m

entries_told : (place : ℕ) (st : List Frame) (l : Phrase) (out : List Event) (c : Lexeme) (r : List Lexeme) → Each l → may_end_in_comma is_entry l ≡ true → IsMade l (c ∷ r) → c.word ≡ W.CloseBrace
    → go (Some (At M.Key (F.Object place 0 ∷ st) out)) (spell l (c ∷ r)) ≡ go (object place st l out) r
entries_told place st (Trailing k d) out c r each h m e = let p = parts is_entry k h in
    list_told _ _ _ _ _ _ _ (entry_rules place st) k out d (c ∷ r) each p m.0 (ap is_entry_end m.1)
    ∙ ap (λ (s : Option State). go s (c ∷ r)) (ap (λ (w : Word). entries_by w place (before k + 1) st (emit k out)) m.1)
    ∙ ap (λ (s : Option State). go s r)
    (at_word (λ u. key (F.Object place (before k + 1) ∷ st) (emit k out) u ≡ Some (At (M.After S.Plain) st (node_at place H.Object (before k + 1) ∷ emit k out))) c W.CloseBrace e refl
    ∙ ap (λ (n : ℕ). Some (At (M.After S.Plain) st (node_at place H.Object n ∷ emit k out))) (sym (counted _ k p)))
entries_told place st l out c r each h m e = entries_end_told place st l out c r each h m e

pub object_told : (o c : Lexeme) (l : Phrase) → Each l → AsExpression (Object o l c)
object_told o c l each e st out t r m fits bare leaves =
    ap (λ (s : Option State). go s (spell l (c ∷ t ∷ r))) (at_word (λ u. operand st out u ≡ Some (At M.Key (F.Object u.start 0 ∷ st) out)) o W.OpenBrace m.0 refl)
    ∙ entries_told o.start st l out c (t ∷ r) each m.1 m.2 m.3
