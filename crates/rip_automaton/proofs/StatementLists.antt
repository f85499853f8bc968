-- The machine reads lists of statements, blocks, and functions.
use Rattle.std.proofs.Common.{◌≡◌, ℕ, ◌+◌, Bool, true, false, List, [], ◌∷◌, Option, Some, None, refl, sym, ap, ◌∙◌}
use Rattle.rip_grammar.specs.declared.word.Word.TheVariants as W
use Rattle.rip_grammar.specs.declared.word.Lexeme.{Lexeme}
use Rattle.rip_grammar.specs.declared.event.Head.TheVariants as H
use Rattle.rip_grammar.specs.declared.event.Event.{Event}
use Rattle.rip_automaton.specs.declared.frame.Owner.{Owner}
use Rattle.rip_automaton.specs.declared.frame.Owner.TheVariants as O
use Rattle.rip_automaton.specs.declared.frame.Frame.{Frame}
use Rattle.rip_automaton.specs.declared.frame.Frame.TheVariants as F
use Rattle.rip_automaton.specs.declared.mode.Mode.TheVariants as M
use Rattle.rip_grammar.specs.Phrases.{Phrase, Absent, Nothing, More, Single, Block, Function, Declaration, Parameter, spell}
use Rattle.rip_grammar.specs.Grammar.{IsMade, IsName, is_list, is_label, is_statement, is_element, is_parameter, may_be_commas}
use Rattle.rip_grammar.specs.Events.{node_at, emit, width, label}
use Rattle.rip_automaton.specs.States.{State, At}
use Rattle.rip_automaton.specs.Operands.{operand, after_parameter}
use Rattle.rip_automaton.specs.Statements.{function_ends, declaration_begins, start, ended}
use Rattle.rip_automaton.specs.Machine.{feed, go}
use Rattle.rip_automaton.proofs.Stepping.{at_word, false_true, and_left, and_right, is_finally_word, on_first}
use Rattle.rip_automaton.proofs.Beginnings.{element_begins_otherwise}
use Rattle.rip_automaton.proofs.Roles.{AsExpression, AsElement, AsBlock, Each, takes_declarations}
use Rattle.rip_automaton.proofs.CommaLists.{parts, before, counted, Rules, list_told, commas}

-- a list of statements, in a form that counts them
pub statements_told : (p : Phrase → Bool) (frame : ℕ → Frame) (st : List Frame) → ((d : Phrase) → p d ≡ true → is_element d ≡ true)
    → ((d : Phrase) (n : ℕ) → p d ≡ true → is_statement d ≡ false → takes_declarations (frame n ∷ st) ≡ true)
    → ((n : ℕ) (out : List Event) (t : Lexeme) → ended (frame n ∷ st) out t ≡ start (frame (n + 1) ∷ st) out t)
    → (l : Phrase) (out : List Event) (t : Lexeme) (r : List Lexeme) → Each l → is_list p l ≡ true → IsMade l (t ∷ r) → is_finally_word t.word ≡ false
    → go (Some (At M.Statement (frame 0 ∷ st) out)) (spell l (t ∷ r)) ≡ go (start (frame (width l) ∷ st) (emit l out) t) r
statements_told p frame st elements declares more Nothing out t r each e m other = refl
statements_told p frame st elements declares more (More l d) out t r each e m other =
    let part = and_right (is_list p l) (p d) e in
    on_first (λ u. is_finally_word u.word ≡ false)
    (λ x. IsMade l x → go (Some (At M.Statement (frame 0 ∷ st) out)) (spell l x) ≡ go (Some (At M.Statement (frame (width l) ∷ st) (emit l out))) x)
    (λ u q n made. statements_told p frame st elements declares more l out u q each.0 (and_left (is_list p l) (p d) e) made n)
    (spell d (t ∷ r)) (element_begins_otherwise d (t ∷ r) (elements d part) m.1) m.0
    ∙ each.1.element (elements d part) (frame (width l) ∷ st) (emit l out) t r m.1 (declares d (width l) part) other
    ∙ ap (λ (s : Option State). go s r) (more (width l) (emit d (emit l out)) t)
statements_told p frame st elements declares more _ out t r each e m other = absurd (false_true e)

-- a statement is no declaration
pub statement_element : (d : Phrase) → is_statement d ≡ true → is_element d ≡ true
statement_element (Declaration f n o l c b s d) e = refl
statement_element _ e = e

pub no_declaration : (frame : ℕ → Frame) (st : List Frame) (d : Phrase) (n : ℕ) → is_statement d ≡ true → is_statement d ≡ false → takes_declarations (frame n ∷ st) ≡ true
no_declaration frame st d n e f = absurd (false_true (sym f ∙ e))

-- a block
block_inside : (o c : Lexeme) (l : Phrase) (st : List Frame) (out : List Event) (t : Lexeme) (r : List Lexeme) → Each l → is_list is_statement l ≡ true → IsMade l (c ∷ t ∷ r) → c.word ≡ W.CloseBrace
    → go (Some (At M.Statement (F.Block o.start 0 ∷ st) out)) (spell l (c ∷ t ∷ r)) ≡ go (ended st (node_at o.start H.Block (width l) ∷ emit l out) t) r
block_inside o c l st out t r each h m e =
    statements_told is_statement (λ n. F.Block o.start n) st statement_element (no_declaration (λ n. F.Block o.start n) st) (λ n out t. refl) l out c (t ∷ r) each h m (ap is_finally_word e)
    ∙ ap (λ (s : Option State). go s (t ∷ r)) (at_word (λ u. start (F.Block o.start (width l) ∷ st) (emit l out) u ≡ Some (At M.Ended st (node_at o.start H.Block (width l) ∷ emit l out))) c W.CloseBrace e refl)

pub block_told : (o c : Lexeme) (l : Phrase) → Each l → AsElement (Block o l c)
block_told o c l each e st out t r m declares other =
    ap (λ (s : Option State). go s (spell l (c ∷ t ∷ r))) (at_word (λ u. start st out u ≡ Some (At M.Statement (F.Block u.start 0 ∷ st) out)) o W.OpenBrace m.0 refl)
    ∙ block_inside o c l st out t r each m.1 m.2 m.3

pub try_block_told : (o c : Lexeme) (l : Phrase) → Each l → AsBlock (Block o l c)
try_block_told o c l each e st out t r m =
    ap (λ (s : Option State). go s (spell l (c ∷ t ∷ r))) (at_word (λ u. feed (Some (At M.OpenBlock st out)) u ≡ Some (At M.Statement (F.Block u.start 0 ∷ st) out)) o W.OpenBrace m.0 refl)
    ∙ block_inside o c l st out t r each m.1 m.2 m.3

-- parameters
first_parameter_told : (owner : Owner) (n : ℕ) (st : List Frame) (d : Phrase) (out : List Event) (t : Lexeme) (r : List Lexeme) → is_parameter d ≡ true → IsMade d (t ∷ r)
    → go (Some (At M.FirstParameter (F.Parameters owner n ∷ st) out)) (spell d (t ∷ r)) ≡ go (after_parameter (F.Parameters owner (n + 1) ∷ st) (emit d out) t) r
first_parameter_told owner n st (Parameter v) out t r h m = ap (λ (s : Option State). go s (t ∷ r))
    (at_word (λ u. feed (Some (At M.FirstParameter (F.Parameters owner n ∷ st) out)) u ≡ Some (At M.AfterParameter (F.Parameters owner (n + 1) ∷ st) (node_at u.start (H.Parameter u) 0 ∷ out))) v W.Name m refl)
first_parameter_told owner n st _ out t r h m = absurd (false_true h)

later_parameter_told : (owner : Owner) (n : ℕ) (st : List Frame) (d : Phrase) (out : List Event) (t : Lexeme) (r : List Lexeme) → is_parameter d ≡ true → IsMade d (t ∷ r)
    → go (Some (At M.Parameter (F.Parameters owner n ∷ st) out)) (spell d (t ∷ r)) ≡ go (after_parameter (F.Parameters owner (n + 1) ∷ st) (emit d out) t) r
later_parameter_told owner n st (Parameter v) out t r h m = ap (λ (s : Option State). go s (t ∷ r))
    (at_word (λ u. feed (Some (At M.Parameter (F.Parameters owner n ∷ st) out)) u ≡ Some (At M.AfterParameter (F.Parameters owner (n + 1) ∷ st) (node_at u.start (H.Parameter u) 0 ∷ out))) v W.Name m refl)
later_parameter_told owner n st _ out t r h m = absurd (false_true h)

parameter_rules : (owner : Owner) (st : List Frame)
    → Rules (λ d. is_parameter d ≡ true) M.FirstParameter M.Parameter (λ n. F.Parameters owner n) st (λ d n out t. after_parameter (F.Parameters owner (n + 1) ∷ st) out t) (λ d t. Unit {0})
parameter_rules owner st = record {
  at_first = λ d out t r own h m e. first_parameter_told owner 0 st d out t r h m;
  at_later = λ d n out t r own h m e. later_parameter_told owner n st d out t r h m;
  comma = λ d n out c e. at_word (λ u. after_parameter (F.Parameters owner (n + 1) ∷ st) out u ≡ Some (At M.Parameter (F.Parameters owner (n + 1) ∷ st) out)) c W.Comma e refl;
  separates = λ d c e. tt;
}

parameters_told : (owner : Owner) (st : List Frame) (l : Phrase) (out : List Event) (c : Lexeme) (r : List Lexeme) → Each l → may_be_commas is_parameter l ≡ true → IsMade l (c ∷ r) → c.word ≡ W.CloseParenthesis
    → go (Some (At M.FirstParameter (F.Parameters owner 0 ∷ st) out)) (spell l (c ∷ r)) ≡ go (Some (At M.OpenBody (F.Parameters owner (width l) ∷ st) (emit l out))) r
parameters_told owner st l out c r each h m e = commas
    (λ k. Each k → IsMade k (c ∷ r) → go (Some (At M.FirstParameter (F.Parameters owner 0 ∷ st) out)) (spell k (c ∷ r)) ≡ go (Some (At M.OpenBody (F.Parameters owner (width k) ∷ st) (emit k out))) r)
    is_parameter l h
    (λ _ _. ap (λ (s : Option State). go s r) (at_word (λ u. feed (Some (At M.FirstParameter (F.Parameters owner 0 ∷ st) out)) u ≡ Some (At M.OpenBody (F.Parameters owner 0 ∷ st) out)) c W.CloseParenthesis e refl))
    (λ some each m. let p = parts is_parameter l some in
    list_told _ _ _ _ _ _ _ (parameter_rules owner st) l out c r each p m tt
    ∙ ap (λ (s : Option State). go s r)
    (at_word (λ u. after_parameter (F.Parameters owner (before l + 1) ∷ st) (emit l out) u ≡ Some (At M.OpenBody (F.Parameters owner (before l + 1) ∷ st) (emit l out))) c W.CloseParenthesis e refl
    ∙ ap (λ (n : ℕ). Some (At M.OpenBody (F.Parameters owner n ∷ st) (emit l out))) (sym (counted _ l p))))
    each m

-- what stands behind the `(` of a function
record Callable (l s : Phrase) (c b d : Lexeme) (r : List Lexeme) : Type 0 where
  parameters : may_be_commas is_parameter l ≡ true
  made : IsMade l (c ∷ b ∷ spell s (d ∷ r))
  closes : c.word ≡ W.CloseParenthesis
  opens : b.word ≡ W.OpenBrace
  elements : is_list is_element s ≡ true
  body : IsMade s (d ∷ r)
  ends : d.word ≡ W.CloseBrace

callable_told : (owner : Owner) (l s : Phrase) (c b d : Lexeme) (st : List Frame) (out : List Event) (r : List Lexeme) → Each l → Each s → Callable l s c b d r
    → go (Some (At M.FirstParameter (F.Parameters owner 0 ∷ st) out)) (spell l (c ∷ b ∷ spell s (d ∷ r))) ≡ go (function_ends owner (width l) (width s) st (emit s (emit l out))) r
callable_told owner l s c b d st out r parameters body m =
    parameters_told owner st l out c (b ∷ spell s (d ∷ r)) parameters m.parameters m.made m.closes
    ∙ ap (λ (z : Option State). go z (spell s (d ∷ r)))
    (at_word (λ u. feed (Some (At M.OpenBody (F.Parameters owner (width l) ∷ st) (emit l out))) u ≡ Some (At M.Statement (F.Body owner (width l) 0 ∷ st) (emit l out))) b W.OpenBrace m.opens refl)
    ∙ statements_told is_element (λ n. F.Body owner (width l) n) st (λ d e. e) (λ d n e f. refl) (λ n out t. refl) s (emit l out) d r body m.elements m.body (ap is_finally_word m.ends)
    ∙ ap (λ (z : Option State). go z r)
    (at_word (λ u. start (F.Body owner (width l) (width s) ∷ st) (emit s (emit l out)) u ≡ function_ends owner (width l) (width s) st (emit s (emit l out))) d W.CloseBrace m.ends refl)

-- a function expression
name_told : (n : Phrase) (place : ℕ) (o : Lexeme) (st : List Frame) (out : List Event) (x : List Lexeme) → is_label n ≡ true → IsName n → o.word ≡ W.OpenParenthesis
    → go (Some (At (M.FunctionName place) st out)) (spell n (o ∷ x)) ≡ go (Some (At M.FirstParameter (F.Parameters (O.Expression place (label n)) 0 ∷ st) out)) x
name_told Absent place o st out x h m e = ap (λ (s : Option State). go s x)
    (at_word (λ u. feed (Some (At (M.FunctionName place) st out)) u ≡ Some (At M.FirstParameter (F.Parameters (O.Expression place None) 0 ∷ st) out)) o W.OpenParenthesis e refl)
name_told (Single v) place o st out x h m e =
    ap (λ (s : Option State). go s (o ∷ x)) (at_word (λ u. feed (Some (At (M.FunctionName place) st out)) u ≡ Some (At M.OpenParameters (F.Parameters (O.Expression place (Some u)) 0 ∷ st) out)) v W.Name m refl)
    ∙ ap (λ (s : Option State). go s x)
    (at_word (λ u. feed (Some (At M.OpenParameters (F.Parameters (O.Expression place (Some v)) 0 ∷ st) out)) u ≡ Some (At M.FirstParameter (F.Parameters (O.Expression place (Some v)) 0 ∷ st) out)) o W.OpenParenthesis e refl)
name_told _ place o st out x h m e = absurd (false_true h)

pub function_told : (f o c b d : Lexeme) (n l s : Phrase) → Each l → Each s → AsExpression (Function f n o l c b s d)
function_told f o c b d n l s parameters body e st out t r m fits bare leaves =
    ap (λ (z : Option State). go z (spell n (o ∷ spell l (c ∷ b ∷ spell s (d ∷ t ∷ r))))) (at_word (λ u. operand st out u ≡ Some (At (M.FunctionName u.start) st out)) f W.Function m.0 refl)
    ∙ name_told n f.start o st out (spell l (c ∷ b ∷ spell s (d ∷ t ∷ r))) m.1 m.2 m.3
    ∙ callable_told (O.Expression f.start (label n)) l s c b d st out (t ∷ r) parameters body
    (record { parameters = m.4; made = m.5; closes = m.6; opens = m.7; elements = m.8; body = m.9; ends = m.10 })

-- a function declaration
declares : (st : List Frame) (out : List Event) (t : Lexeme) → takes_declarations st ≡ true → declaration_begins st out t ≡ Some (At (M.DeclarationName t.start) st out)
declares [] out t e = absurd (false_true e)
declares (F.Script ∷ st) out t e = refl
declares (F.Body owner parameters count ∷ st) out t e = refl
declares (_ ∷ st) out t e = absurd (false_true e)

pub declaration_told : (f n o c b d : Lexeme) (l s : Phrase) → Each l → Each s → AsElement (Declaration f n o l c b s d)
declaration_told f n o c b d l s parameters body e st out t r m may other =
    ap (λ (z : Option State). go z (n ∷ o ∷ spell l (c ∷ b ∷ spell s (d ∷ t ∷ r))))
    (at_word (λ u. start st out u ≡ Some (At (M.DeclarationName u.start) st out)) f W.Function m.0 (declares st out (record f { word = W.Function }) (may refl)))
    ∙ ap (λ (z : Option State). go z (o ∷ spell l (c ∷ b ∷ spell s (d ∷ t ∷ r))))
    (at_word (λ u. feed (Some (At (M.DeclarationName f.start) st out)) u ≡ Some (At M.OpenParameters (F.Parameters (O.Declaration f.start u) 0 ∷ st) out)) n W.Name m.1 refl)
    ∙ ap (λ (z : Option State). go z (spell l (c ∷ b ∷ spell s (d ∷ t ∷ r))))
    (at_word (λ u. feed (Some (At M.OpenParameters (F.Parameters (O.Declaration f.start n) 0 ∷ st) out)) u ≡ Some (At M.FirstParameter (F.Parameters (O.Declaration f.start n) 0 ∷ st) out)) o W.OpenParenthesis m.2 refl)
    ∙ callable_told (O.Declaration f.start n) l s c b d st out (t ∷ r) parameters body
    (record { parameters = m.3; made = m.4; closes = m.5; opens = m.6; elements = m.7; body = m.8; ends = m.9 })
