-- The machine reads `if`, loops, `switch` and `try`.
use Rattle.std.proofs.Common.{◌≡◌, ℕ, ◌+◌, ◌≤◌, Bool, true, false, ◌&&◌, ◌||◌, List, ◌∷◌, Option, Some, refl, sym, ap, ◌∙◌, subst, ◌⊎◌, inl, inr, arith}
use Rattle.rip_grammar.specs.declared.word.Word.{Word}
use Rattle.rip_grammar.specs.declared.word.Word.TheVariants as W
use Rattle.rip_grammar.specs.declared.word.Lexeme.{Lexeme}
use Rattle.rip_grammar.specs.declared.event.Head.TheVariants as H
use Rattle.rip_grammar.specs.declared.event.Event.{Event}
use Rattle.rip_grammar.specs.declared.event.Event.TheVariants as E
use Rattle.rip_automaton.specs.declared.frame.Header.{Header}
use Rattle.rip_automaton.specs.declared.frame.Header.TheVariants as C
use Rattle.rip_automaton.specs.declared.frame.Frame.{Frame}
use Rattle.rip_automaton.specs.declared.frame.Frame.TheVariants as F
use Rattle.rip_automaton.specs.declared.mode.Mode.TheVariants as M
use Rattle.rip_grammar.specs.Words.{is_else}
use Rattle.rip_grammar.specs.Phrases.{Ending, Phrase, Absent, Nothing, More, If, IfElse, DoWhile, While, For, Switch, Case, Default, Try, Catch, Finally, spell, spell_ending}
use Rattle.rip_grammar.specs.Levels.{level}
use Rattle.rip_grammar.specs.Semicolons.{Next}
use Rattle.rip_grammar.specs.Grammar.{IsMade, is_absent, is_expression, may_be_expression, is_statement, is_clause, is_catch, is_finally, is_list, default_count}
use Rattle.rip_grammar.specs.Events.{node_at, emit, width}
use Rattle.rip_automaton.specs.States.{State, At}
use Rattle.rip_automaton.specs.Statements.{start, ended, handled, clause}
use Rattle.rip_automaton.specs.Continuations.{header_ends, after}
use Rattle.rip_automaton.specs.Machine.{feed, go}
use Rattle.rip_automaton.proofs.Stepping.{at_word, false_true, cond_true, cond_false, and_left, and_right, bool, at_least, is_finally_word, turn, on_first}
use Rattle.rip_automaton.proofs.Shapes.{shape}
use Rattle.rip_automaton.proofs.Leaving.{is_ender}
use Rattle.rip_automaton.proofs.Beginnings.{is_beginning, expression_begins, test_begins, update_begins}
use Rattle.rip_automaton.proofs.Roles.{AsExpression, AsElement, AsBlock, AsClause, AsCatch, AsFinally, AsInit, Each, is_clause_end, is_default}
use Rattle.rip_automaton.proofs.Members.{inside}
use Rattle.rip_automaton.proofs.StatementLists.{statements_told, statement_element, no_declaration}
use Rattle.rip_automaton.proofs.SimpleStatements.{nothing_told, optional}

-- a header: an expression in parentheses
header_told : (header : Header) (place : ℕ) (o c : Lexeme) (d : Phrase) (st : List Frame) (out : List Event) (r : List Lexeme) → AsExpression d → o.word ≡ W.OpenParenthesis → is_expression d ≡ true → IsMade d (c ∷ r) → c.word ≡ W.CloseParenthesis
    → go (Some (At M.OpenHeader (F.Condition header place ∷ st) out)) (o ∷ spell d (c ∷ r)) ≡ go (header_ends header place st (emit d out)) r
header_told header place o c d st out r td opens high m closes =
    ap (λ (s : Option State). go s (spell d (c ∷ r)))
    (at_word (λ u. feed (Some (At M.OpenHeader (F.Condition header place ∷ st) out)) u ≡ Some (At M.Operand (F.Condition header place ∷ st) out)) o W.OpenParenthesis opens refl)
    ∙ inside d (F.Condition header place) 1 st out c r td (omega arith) (at_least 1 (level d) high) refl (omega arith) refl m (ap is_ender closes)
    ∙ ap (λ (s : Option State). go s r) (at_word (λ u. after (shape d) (F.Condition header place ∷ st) (emit d out) u ≡ header_ends header place st (emit d out)) c W.CloseParenthesis closes refl)

-- a statement that is a part of another
part_statement : (d : Phrase) (st : List Frame) (out : List Event) (t : Lexeme) (r : List Lexeme) → AsElement d → is_statement d ≡ true → IsMade d (t ∷ r) → is_finally_word t.word ≡ false
    → go (Some (At M.Statement st out)) (spell d (t ∷ r)) ≡ go (ended st (emit d out) t) r
part_statement d st out t r td e m other = td (statement_element d e) st out t r m (λ f. absurd (false_true (sym f ∙ e))) other

-- `if`
pub if_told : (i o c : Lexeme) (d s : Phrase) → AsExpression d → AsElement s → AsElement (If i o d c s)
if_told i o c d s td ts e st out t r m declares other =
    ap (λ (z : Option State). go z (o ∷ spell d (c ∷ spell s (t ∷ r)))) (at_word (λ u. start st out u ≡ Some (At M.OpenHeader (F.Condition C.If u.start ∷ st) out)) i W.If m.0 refl)
    ∙ header_told C.If i.start o c d st out (spell s (t ∷ r)) td m.1 m.2 m.3 m.4
    ∙ part_statement s (F.Then i.start ∷ st) (emit d out) t r ts m.5 m.6 other
    ∙ ap (λ (z : Option State). go z r) (cond_false (is_else t.word) _ _ m.7)

pub if_else_told : (i o c l : Lexeme) (d s u : Phrase) → AsExpression d → AsElement s → AsElement u → AsElement (IfElse i o d c s l u)
if_else_told i o c l d s u td ts tu e st out t r m declares other =
    ap (λ (z : Option State). go z (o ∷ spell d (c ∷ spell s (l ∷ spell u (t ∷ r))))) (at_word (λ v. start st out v ≡ Some (At M.OpenHeader (F.Condition C.If v.start ∷ st) out)) i W.If m.0 refl)
    ∙ header_told C.If i.start o c d st out (spell s (l ∷ spell u (t ∷ r))) td m.1 m.2 m.3 m.4
    ∙ part_statement s (F.Then i.start ∷ st) (emit d out) l (spell u (t ∷ r)) ts m.5 m.6 (ap is_finally_word m.7)
    ∙ ap (λ (z : Option State). go z (spell u (t ∷ r))) (cond_true (is_else l.word) _ _ (ap is_else m.7))
    ∙ part_statement u (F.Otherwise i.start ∷ st) (emit s (emit d out)) t r tu m.8 m.9 other

-- loops
pub do_while_told : (d w o c : Lexeme) (s v : Phrase) (z : Ending) → AsElement s → AsExpression v → AsElement (DoWhile d s w o v c z)
do_while_told d w o c s v z ts tv e st out t r m declares other =
    ap (λ (q : Option State). go q (spell s (w ∷ o ∷ spell v (c ∷ spell_ending z (t ∷ r))))) (at_word (λ u. start st out u ≡ Some (At M.Statement (F.Do u.start ∷ st) out)) d W.Do m.0 refl)
    ∙ part_statement s (F.Do d.start ∷ st) out w (o ∷ spell v (c ∷ spell_ending z (t ∷ r))) ts m.1 m.2 (ap is_finally_word m.3)
    ∙ ap (λ (q : Option State). go q (o ∷ spell v (c ∷ spell_ending z (t ∷ r))))
    (at_word (λ u. ended (F.Do d.start ∷ st) (emit s out) u ≡ Some (At M.OpenHeader (F.Condition C.DoWhile d.start ∷ st) (emit s out))) w W.While m.3 refl)
    ∙ header_told C.DoWhile d.start o c v st (emit s out) (spell_ending z (t ∷ r)) tv m.4 m.5 m.6 m.7
    ∙ nothing_told z st (node_at d.start H.DoWhile 2 ∷ emit v (emit s out)) t r m.8

pub while_told : (w o c : Lexeme) (d s : Phrase) → AsExpression d → AsElement s → AsElement (While w o d c s)
while_told w o c d s td ts e st out t r m declares other =
    ap (λ (z : Option State). go z (o ∷ spell d (c ∷ spell s (t ∷ r)))) (at_word (λ u. start st out u ≡ Some (At M.OpenHeader (F.Condition C.While u.start ∷ st) out)) w W.While m.0 refl)
    ∙ header_told C.While w.start o c d st out (spell s (t ∷ r)) td m.1 m.2 m.3 m.4
    ∙ part_statement s (F.While w.start ∷ st) (emit d out) t r ts m.5 m.6 other

-- the test and the update of a `for`
test_told : (d : Phrase) (place : ℕ) (st : List Frame) (out : List Event) (q : Lexeme) (r : List Lexeme) → AsExpression d → may_be_expression d ≡ true → IsMade d (q ∷ r) → q.word ≡ W.Semicolon
    → go (Some (At M.ForTest (F.ForTest place ∷ st) out)) (spell d (q ∷ r)) ≡ go (Some (At M.ForUpdate (F.ForUpdate place ∷ st) (emit d out))) r
test_told d place st out q r td may m e = optional
    (λ k. go (Some (At M.ForTest (F.ForTest place ∷ st) out)) (spell k (q ∷ r)) ≡ go (Some (At M.ForUpdate (F.ForUpdate place ∷ st) (emit k out))) r) d may
    (ap (λ (s : Option State). go s r) (at_word (λ u. feed (Some (At M.ForTest (F.ForTest place ∷ st) out)) u ≡ Some (At M.ForUpdate (F.ForUpdate place ∷ st) (E.Absent ∷ out))) q W.Semicolon e refl))
    (λ h. turn (λ u. is_beginning u.word ≡ true) (Some (At M.ForTest (F.ForTest place ∷ st) out)) (Some (At M.Operand (F.ForTest place ∷ st) out))
    (λ u b. test_begins u.word (F.ForTest place ∷ st) out u b) (spell d (q ∷ r)) (expression_begins d (q ∷ r) h m)
    ∙ inside d (F.ForTest place) 1 st out q r td (omega arith) (at_least 1 (level d) h) refl (omega arith) refl m (ap is_ender e)
    ∙ ap (λ (s : Option State). go s r) (at_word (λ u. after (shape d) (F.ForTest place ∷ st) (emit d out) u ≡ Some (At M.ForUpdate (F.ForUpdate place ∷ st) (emit d out))) q W.Semicolon e refl))

update_told : (d : Phrase) (place : ℕ) (st : List Frame) (out : List Event) (c : Lexeme) (r : List Lexeme) → AsExpression d → may_be_expression d ≡ true → IsMade d (c ∷ r) → c.word ≡ W.CloseParenthesis
    → go (Some (At M.ForUpdate (F.ForUpdate place ∷ st) out)) (spell d (c ∷ r)) ≡ go (Some (At M.Statement (F.For place ∷ st) (emit d out))) r
update_told d place st out c r td may m e = optional
    (λ k. go (Some (At M.ForUpdate (F.ForUpdate place ∷ st) out)) (spell k (c ∷ r)) ≡ go (Some (At M.Statement (F.For place ∷ st) (emit k out))) r) d may
    (ap (λ (s : Option State). go s r) (at_word (λ u. feed (Some (At M.ForUpdate (F.ForUpdate place ∷ st) out)) u ≡ Some (At M.Statement (F.For place ∷ st) (E.Absent ∷ out))) c W.CloseParenthesis e refl))
    (λ h. turn (λ u. is_beginning u.word ≡ true) (Some (At M.ForUpdate (F.ForUpdate place ∷ st) out)) (Some (At M.Operand (F.ForUpdate place ∷ st) out))
    (λ u b. update_begins u.word (F.ForUpdate place ∷ st) out u b) (spell d (c ∷ r)) (expression_begins d (c ∷ r) h m)
    ∙ inside d (F.ForUpdate place) 1 st out c r td (omega arith) (at_least 1 (level d) h) refl (omega arith) refl m (ap is_ender e)
    ∙ ap (λ (s : Option State). go s r) (at_word (λ u. after (shape d) (F.ForUpdate place ∷ st) (emit d out) u ≡ Some (At M.Statement (F.For place ∷ st) (emit d out))) c W.CloseParenthesis e refl))

pub for_told : (f o p q c : Lexeme) (i v u s : Phrase) → AsInit i → AsExpression v → AsExpression u → AsElement s → AsElement (For f o i p v q u c s)
for_told f o p q c i v u s ti tv tu ts e st out t r m declares other =
    ap (λ (z : Option State). go z (o ∷ spell i (p ∷ spell v (q ∷ spell u (c ∷ spell s (t ∷ r)))))) (at_word (λ w. start st out w ≡ Some (At M.OpenFor (F.ForInit w.start ∷ st) out)) f W.For m.0 refl)
    ∙ ap (λ (z : Option State). go z (spell i (p ∷ spell v (q ∷ spell u (c ∷ spell s (t ∷ r))))))
    (at_word (λ w. feed (Some (At M.OpenFor (F.ForInit f.start ∷ st) out)) w ≡ Some (At M.ForInit (F.ForInit f.start ∷ st) out)) o W.OpenParenthesis m.1 refl)
    ∙ ti m.2 f.start st out p (spell v (q ∷ spell u (c ∷ spell s (t ∷ r)))) m.4 m.3 m.5
    ∙ test_told v f.start st (emit i out) q (spell u (c ∷ spell s (t ∷ r))) tv m.6 m.7 m.8
    ∙ update_told u f.start st (emit v (emit i out)) c (spell s (t ∷ r)) tu m.9 m.10 m.11
    ∙ part_statement s (F.For f.start ∷ st) (emit u (emit v (emit i out))) t r ts m.12 m.13 other

-- clauses
clause_finally : (w : Word) → is_clause_end w ≡ true → is_finally_word w ≡ false
clause_finally W.Case e = refl
clause_finally W.Default e = refl
clause_finally W.CloseBrace e = refl
clause_finally _ e = absurd (false_true e)

case_ends : (w : Word) (p q n k : ℕ) (seen : Bool) (st : List Frame) (out : List Event) (t : Lexeme) → t.word ≡ w → is_clause_end w ≡ true
    → start (F.CaseBody q n ∷ F.Switch p k seen ∷ st) out t ≡ clause (F.Switch p (k + 1) seen ∷ st) (node_at q H.Case (1 + n) ∷ out) t
case_ends W.Case p q n k seen st out t e h = at_word (λ u. start (F.CaseBody q n ∷ F.Switch p k seen ∷ st) out u ≡ clause (F.Switch p (k + 1) seen ∷ st) (node_at q H.Case (1 + n) ∷ out) u) t W.Case e refl
case_ends W.Default p q n k seen st out t e h = at_word (λ u. start (F.CaseBody q n ∷ F.Switch p k seen ∷ st) out u ≡ clause (F.Switch p (k + 1) seen ∷ st) (node_at q H.Case (1 + n) ∷ out) u) t W.Default e refl
case_ends W.CloseBrace p q n k seen st out t e h = at_word (λ u. start (F.CaseBody q n ∷ F.Switch p k seen ∷ st) out u ≡ clause (F.Switch p (k + 1) seen ∷ st) (node_at q H.Case (1 + n) ∷ out) u) t W.CloseBrace e refl
case_ends _ p q n k seen st out t e h = absurd (false_true h)

default_ends : (w : Word) (p q n k : ℕ) (seen : Bool) (st : List Frame) (out : List Event) (t : Lexeme) → t.word ≡ w → is_clause_end w ≡ true
    → start (F.Default q n ∷ F.Switch p k seen ∷ st) out t ≡ clause (F.Switch p (k + 1) seen ∷ st) (node_at q H.Default n ∷ out) t
default_ends W.Case p q n k seen st out t e h = at_word (λ u. start (F.Default q n ∷ F.Switch p k seen ∷ st) out u ≡ clause (F.Switch p (k + 1) seen ∷ st) (node_at q H.Default n ∷ out) u) t W.Case e refl
default_ends W.Default p q n k seen st out t e h = at_word (λ u. start (F.Default q n ∷ F.Switch p k seen ∷ st) out u ≡ clause (F.Switch p (k + 1) seen ∷ st) (node_at q H.Default n ∷ out) u) t W.Default e refl
default_ends W.CloseBrace p q n k seen st out t e h = at_word (λ u. start (F.Default q n ∷ F.Switch p k seen ∷ st) out u ≡ clause (F.Switch p (k + 1) seen ∷ st) (node_at q H.Default n ∷ out) u) t W.CloseBrace e refl
default_ends _ p q n k seen st out t e h = absurd (false_true h)

pub case_told : (w c : Lexeme) (d l : Phrase) → AsExpression d → Each l → AsClause (Case w d c l)
case_told w c d l td each e place count seen st out t r m once end =
    let below = F.Switch place count seen ∷ st in
    ap (λ (s : Option State). go s (spell d (c ∷ spell l (t ∷ r)))) (at_word (λ u. clause below out u ≡ Some (At M.Operand (F.Case u.start ∷ below) out)) w W.Case m.0 refl)
    ∙ inside d (F.Case w.start) 1 below out c (spell l (t ∷ r)) td (omega arith) (at_least 1 (level d) m.1) refl (omega arith) refl m.2 (ap is_ender m.3)
    ∙ ap (λ (s : Option State). go s (spell l (t ∷ r))) (at_word (λ u. after (shape d) (F.Case w.start ∷ below) (emit d out) u ≡ Some (At M.Statement (F.CaseBody w.start 0 ∷ below) (emit d out))) c W.Colon m.3 refl)
    ∙ statements_told is_statement (λ n. F.CaseBody w.start n) below statement_element (no_declaration (λ n. F.CaseBody w.start n) below) (λ n out t. refl) l (emit d out) t r each m.4 m.5 (clause_finally t.word end)
    ∙ ap (λ (s : Option State). go s r) (case_ends t.word place w.start (width l) count seen st (emit l (emit d out)) t refl end)

pub default_told : (w c : Lexeme) (l : Phrase) → Each l → AsClause (Default w c l)
default_told w c l each e place count seen st out t r m once end =
    let below = F.Switch place count true ∷ st in
    ap (λ (s : Option State). go s (c ∷ spell l (t ∷ r)))
    (at_word (λ u. clause (F.Switch place count seen ∷ st) out u ≡ Some (At M.DefaultColon (F.Default u.start 0 ∷ below) out)) w W.Default m.0
    (subst (λ (b : Bool). clause (F.Switch place count b ∷ st) out (record w { word = W.Default }) ≡ Some (At M.DefaultColon (F.Default w.start 0 ∷ below) out)) (sym (once refl)) refl))
    ∙ ap (λ (s : Option State). go s (spell l (t ∷ r))) (at_word (λ u. feed (Some (At M.DefaultColon (F.Default w.start 0 ∷ below) out)) u ≡ Some (At M.Statement (F.Default w.start 0 ∷ below) out)) c W.Colon m.1 refl)
    ∙ statements_told is_statement (λ n. F.Default w.start n) below statement_element (no_declaration (λ n. F.Default w.start n) below) (λ n out t. refl) l out t r each m.2 m.3 (clause_finally t.word end)
    ∙ ap (λ (s : Option State). go s r) (default_ends t.word place w.start (width l) count true st (emit l out) t refl end)

-- whether a list of clauses has a `default`
abbrev has_default : Phrase → Bool
has_default (More l d) = is_default d || has_default l
has_default _ = false

default_one : (l d : Phrase) → is_default d ≡ true → default_count (More l d) ≡ default_count l + 1
default_one l (Default w c s) e = refl
default_one l _ e = absurd (false_true e)

default_more : (l d : Phrase) → default_count l ≤ default_count (More l d)
default_more l (Default w c s) = omega arith
default_more l _ = omega arith

default_by : (l d : Phrase) → ((is_default d ≡ true) ⊎ (is_default d ≡ false)) → default_count (More l d) ≡ 0 → (default_count l ≡ 0 → has_default l ≡ false) → (is_default d || has_default l) ≡ false
default_by l d (inl h) e none = let k : default_count (More l d) ≡ default_count l + 1 = default_one l d h in let j : default_count (More l d) ≡ 0 = e in absurd (omega arith)
default_by l d (inr h) e none = let k : default_count l ≤ default_count (More l d) = default_more l d in let j : default_count (More l d) ≡ 0 = e in
    ap (λ (b : Bool). b || has_default l) h ∙ none (omega arith)

default_none : (l : Phrase) → default_count l ≡ 0 → has_default l ≡ false
default_none (More l d) e = default_by l d (bool (is_default d)) e (λ k. default_none l k)
default_none _ e = refl

clause_begins : (d : Phrase) (r : List Lexeme) → is_clause d ≡ true → IsMade d r → Next (spell d r) (λ t. is_clause_end t.word ≡ true)
clause_begins (Case w v c l) r e m = ap is_clause_end m.0
clause_begins (Default w c l) r e m = ap is_clause_end m.0
clause_begins _ r e m = absurd (false_true e)

clauses_told : (l : Phrase) (place : ℕ) (st : List Frame) (out : List Event) (t : Lexeme) (r : List Lexeme) → Each l → is_list is_clause l ≡ true → default_count l ≤ 1 → IsMade l (t ∷ r) → is_clause_end t.word ≡ true
    → go (Some (At M.Clause (F.Switch place 0 false ∷ st) out)) (spell l (t ∷ r)) ≡ go (clause (F.Switch place (width l) (has_default l) ∷ st) (emit l out) t) r
clauses_told Nothing place st out t r each e few m end = refl
clauses_told (More l d) place st out t r each e few m end =
    let part = and_right (is_list is_clause l) (is_clause d) e in
    let fewer : default_count l ≤ default_count (More l d) = default_more l d in
    let most : default_count (More l d) ≤ 1 = few in
    on_first (λ u. is_clause_end u.word ≡ true)
    (λ x. IsMade l x → go (Some (At M.Clause (F.Switch place 0 false ∷ st) out)) (spell l x) ≡ go (Some (At M.Clause (F.Switch place (width l) (has_default l) ∷ st) (emit l out))) x)
    (λ u q n made. clauses_told l place st out u q each.0 (and_left (is_list is_clause l) (is_clause d) e) (omega arith) made n)
    (spell d (t ∷ r)) (clause_begins d (t ∷ r) part m.1) m.0
    ∙ each.1.clause part place (width l) (has_default l) st (emit l out) t r m.1
    (λ h. let k : default_count (More l d) ≡ default_count l + 1 = default_one l d h in default_none l (omega arith)) end
clauses_told _ place st out t r each e few m end = absurd (false_true e)

pub switch_told : (s o c b d : Lexeme) (v l : Phrase) → AsExpression v → Each l → AsElement (Switch s o v c b l d)
switch_told s o c b d v l tv each e st out t r m declares other =
    ap (λ (z : Option State). go z (o ∷ spell v (c ∷ b ∷ spell l (d ∷ t ∷ r)))) (at_word (λ u. start st out u ≡ Some (At M.OpenHeader (F.Condition C.Switch u.start ∷ st) out)) s W.Switch m.0 refl)
    ∙ header_told C.Switch s.start o c v st out (b ∷ spell l (d ∷ t ∷ r)) tv m.1 m.2 m.3 m.4
    ∙ ap (λ (z : Option State). go z (spell l (d ∷ t ∷ r)))
    (at_word (λ u. feed (Some (At M.OpenSwitch (F.Switch s.start 0 false ∷ st) (emit v out))) u ≡ Some (At M.Clause (F.Switch s.start 0 false ∷ st) (emit v out))) b W.OpenBrace m.5 refl)
    ∙ clauses_told l s.start st (emit v out) d (t ∷ r) each m.6 m.7 m.8 (ap is_clause_end m.9)
    ∙ ap (λ (z : Option State). go z (t ∷ r))
    (at_word (λ u. clause (F.Switch s.start (width l) (has_default l) ∷ st) (emit l (emit v out)) u ≡ Some (At M.Ended st (node_at s.start H.Switch (1 + width l) ∷ emit l (emit v out)))) d W.CloseBrace m.9 refl)

-- `try`
pub catch_told : (w o n c : Lexeme) (b : Phrase) → AsBlock b → AsCatch (Catch w o n c b)
catch_told w o n c b tb e place st out t r m =
    let below = F.Handled place ∷ st in
    ap (λ (s : Option State). go s (o ∷ n ∷ c ∷ spell b (t ∷ r))) (at_word (λ u. ended (F.Try place ∷ st) out u ≡ Some (At (M.OpenCatch u.start) below out)) w W.Catch m.0 refl)
    ∙ ap (λ (s : Option State). go s (n ∷ c ∷ spell b (t ∷ r))) (at_word (λ u. feed (Some (At (M.OpenCatch w.start) below out)) u ≡ Some (At (M.CatchName w.start) below out)) o W.OpenParenthesis m.1 refl)
    ∙ ap (λ (s : Option State). go s (c ∷ spell b (t ∷ r))) (at_word (λ u. feed (Some (At (M.CatchName w.start) below out)) u ≡ Some (At M.CloseCatch (F.Catch w.start u ∷ below) out)) n W.Name m.2 refl)
    ∙ ap (λ (s : Option State). go s (spell b (t ∷ r))) (at_word (λ u. feed (Some (At M.CloseCatch (F.Catch w.start n ∷ below) out)) u ≡ Some (At M.OpenBlock (F.Catch w.start n ∷ below) out)) c W.CloseParenthesis m.3 refl)
    ∙ tb m.4 (F.Catch w.start n ∷ below) out t r m.5

pub finally_told : (w : Lexeme) (b : Phrase) → AsBlock b → AsFinally (Finally w b)
finally_told w b tb e place before was st out t r m leads =
    ap (λ (s : Option State). go s (spell b (t ∷ r))) (leads w m.0)
    ∙ tb m.1 (F.Finally place ∷ st) out t r m.2

-- lexemes that are not at their end
abbrev Begun : List Lexeme → Type 0
Begun x = Next x (λ _. Unit {0})

finally_some : (f : Phrase) (t : Lexeme) (r : List Lexeme) → (is_absent f || is_finally f) ≡ true → Begun (spell f (t ∷ r))
finally_some Absent t r e = tt
finally_some (Finally w b) t r e = tt
finally_some _ t r e = absurd (false_true e)

catch_some : (h : Phrase) (x : List Lexeme) → (is_absent h || is_catch h) ≡ true → Begun x → Begun (spell h x)
catch_some Absent x e s = s
catch_some (Catch w o n c b) x e s = tt
catch_some _ x e s = absurd (false_true e)

not_finally : (w : Word) (place : ℕ) (st : List Frame) (out : List Event) (next : Option State) → is_finally_word w ≡ false → handled w place st out next ≡ next
not_finally W.Finally place st out next e = absurd (false_true (sym e))
not_finally _ place st out next e = refl

-- behind the catch clause
behind_catch : (f : Phrase) (place : ℕ) (st : List Frame) (out : List Event) (t : Lexeme) (r : List Lexeme) → AsFinally f → (is_absent f || is_finally f) ≡ true → IsMade f (t ∷ r) → is_finally_word t.word ≡ false
    → go (Some (At M.Ended (F.Handled place ∷ st) out)) (spell f (t ∷ r)) ≡ go (ended st (node_at place H.Try 3 ∷ emit f out) t) r
behind_catch Absent place st out t r tf e m other = ap (λ (s : Option State). go s r) (not_finally t.word place st out (ended st (node_at place H.Try 3 ∷ E.Absent ∷ out) t) other)
behind_catch f place st out t r tf e m other = tf e place (F.Handled place ∷ st) out st out t r m
    (λ u h. at_word (λ v. ended (F.Handled place ∷ st) out v ≡ Some (At M.OpenBlock (F.Finally place ∷ st) out)) u W.Finally h refl)

-- behind the block
behind_block : (h f : Phrase) (place : ℕ) (st : List Frame) (out : List Event) (t : Lexeme) (r : List Lexeme) → AsCatch h → AsFinally f → (is_absent h || is_catch h) ≡ true → (is_absent f || is_finally f) ≡ true
    → (is_absent h && is_absent f) ≡ false → IsMade h (spell f (t ∷ r)) → IsMade f (t ∷ r) → is_finally_word t.word ≡ false
    → go (Some (At M.Ended (F.Try place ∷ st) out)) (spell h (spell f (t ∷ r))) ≡ go (ended st (node_at place H.Try 3 ∷ emit f (emit h out)) t) r
behind_block Absent f place st out t r th tf catches finishes one made m other =
    tf (sym (ap (λ (b : Bool). b || is_finally f) one) ∙ finishes) place (F.Try place ∷ st) out st (E.Absent ∷ out) t r m
    (λ u h. at_word (λ v. ended (F.Try place ∷ st) out v ≡ Some (At M.OpenBlock (F.Finally place ∷ st) (E.Absent ∷ out))) u W.Finally h refl)
behind_block h f place st out t r th tf catches finishes one made m other =
    on_first (λ _. Unit {0}) (λ x. IsMade h x → go (Some (At M.Ended (F.Try place ∷ st) out)) (spell h x) ≡ go (Some (At M.Ended (F.Handled place ∷ st) (emit h out))) x)
    (λ u q n made. th catches place st out u q made) (spell f (t ∷ r)) (finally_some f t r finishes) made
    ∙ behind_catch f place st (emit h out) t r tf finishes m other

pub try_told : (v : Lexeme) (b h f : Phrase) → AsBlock b → AsCatch h → AsFinally f → AsElement (Try v b h f)
try_told v b h f tb th tf e st out t r m declares other =
    let x = spell h (spell f (t ∷ r)) in
    ap (λ (s : Option State). go s (spell b x)) (at_word (λ u. start st out u ≡ Some (At M.OpenBlock (F.Try u.start ∷ st) out)) v W.Try m.0 refl)
    ∙ on_first (λ _. Unit {0}) (λ y. IsMade b y → go (Some (At M.OpenBlock (F.Try v.start ∷ st) out)) (spell b y) ≡ go (Some (At M.Ended (F.Try v.start ∷ st) (emit b out))) y)
    (λ u q n made. tb m.1 (F.Try v.start ∷ st) out u q made) x (catch_some h (spell f (t ∷ r)) m.3 (finally_some f t r m.5)) m.2
    ∙ behind_block h f v.start st (emit b out) t r th tf m.3 m.5 m.7 m.4 m.6 other
