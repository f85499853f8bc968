-- The machine reads every phrase: on the lexemes of a script it tells what is told of the script's phrase.
use Rattle.std.proofs.Common.{◌≡◌, false, List, [], ◌∷◌, Option, Some, None, ◌||◌, refl, sym, ap, ◌∙◌}
use Rattle.rip_grammar.specs.declared.word.Word.TheVariants as W
use Rattle.rip_grammar.specs.declared.word.Lexeme.{Lexeme}
use Rattle.rip_grammar.specs.declared.event.Event.{Event}
use Rattle.rip_automaton.specs.declared.frame.Frame.TheVariants as F
use Rattle.rip_automaton.specs.declared.mode.Mode.TheVariants as M
use Rattle.rip_grammar.specs.Phrases.{Phrase, Absent, Nothing, More, CommaMore, Trailing, Single, Array, Object, Entry, Parenthesized, Member, Index, New, NewCall, Call, Postfix, Prefix, Infix, Conditional, Assignment, Block, Var, Declarator, Initialised, Empty, Expression, If, IfElse, DoWhile, While, For, Bindings, Continue, Break, Return, Switch, Case, Default, Throw, Try, Catch, Finally, Function, Declaration, Parameter}
use Rattle.rip_grammar.specs.Grammar.{IsScript, is_expression, is_init, is_element, is_block}
use Rattle.rip_grammar.specs.Events.{emit}
use Rattle.rip_automaton.specs.States.{State, At}
use Rattle.rip_automaton.specs.Statements.{start}
use Rattle.rip_automaton.specs.Machine.{go, begins}
use Rattle.rip_automaton.proofs.Stepping.{at_word, false_true, by_false, is_finally_word}
use Rattle.rip_automaton.proofs.Roles.{AsExpression, AsElement, Own, Each, no_element, no_part, no_expression, is_part, own_expression, own_element, own_part}
use Rattle.rip_automaton.proofs.Operators.{single_told, infix_told, prefix_told, new_told, assignment_told, conditional_told, postfix_told}
use Rattle.rip_automaton.proofs.Members.{parenthesized_told, member_told, index_told, call_told, new_call_told}
use Rattle.rip_automaton.proofs.Literals.{array_told, entry_told, object_told}
use Rattle.rip_automaton.proofs.StatementLists.{statements_told, block_told, try_block_told, function_told, declaration_told}
use Rattle.rip_automaton.proofs.SimpleStatements.{empty_told, expression_told, continue_told, break_told, return_told, throw_told}
use Rattle.rip_automaton.proofs.Declarators.{declarator_told, initialised_told, var_told, bindings_told, absent_init_told, expression_init_told}
use Rattle.rip_automaton.proofs.CompoundStatements.{if_told, if_else_told, do_while_told, while_told, for_told, case_told, default_told, switch_told, catch_told, finally_told, try_told}

-- what the machine does on a phrase, as whatever it is, and on the parts of a list
record Read (d : Phrase) : Type 0 where
  own : Own d
  each : Each d

-- a phrase that is an expression, one that is a statement or a declaration, and one that plays no role
an_expression : (d : Phrase) → (is_element d || is_block d) ≡ false → is_part d ≡ false → is_init d ≡ is_expression d → AsExpression d → Own d
an_expression d e p same told = own_expression d (no_element d e) (no_part d p) told (expression_init_told d same told)

an_element : (d : Phrase) → (is_expression d || is_init d) ≡ false → is_part d ≡ false → is_block d ≡ false → AsElement d → Own d
an_element d e p b told = own_element d (no_expression d e) (no_part d p) told (λ h. by_false (is_block d) b h)

without_role : (d : Phrase) → (is_expression d || is_init d) ≡ false → (is_element d || is_block d) ≡ false → is_part d ≡ false → Own d
without_role d e s p = own_expression d (no_element d s) (no_part d p) (λ h. by_false (is_expression d) (no_expression d e).expression h) (λ h. by_false (is_init d) (no_expression d e).init h)

-- each form
read : (d : Phrase) → Read d
read Absent = record { own = own_expression Absent (no_element Absent refl) (no_part Absent refl) (λ h. false_true h) absent_init_told; each = tt }
read Nothing = record { own = without_role Nothing refl refl refl; each = tt }
read (More l d) = record { own = without_role (More l d) refl refl refl; each = ((read l).each, (read d).own) }
read (CommaMore l c d) = record { own = without_role (CommaMore l c d) refl refl refl; each = ((read l).each, (read d).own) }
read (Trailing l c) = record { own = without_role (Trailing l c) refl refl refl; each = (read l).each }
read (Single t) = record { own = an_expression (Single t) refl refl refl (single_told t); each = tt }
read (Array o l c) = record { own = an_expression (Array o l c) refl refl refl (array_told o c l (read l).each); each = tt }
read (Object o l c) = record { own = an_expression (Object o l c) refl refl refl (object_told o c l (read l).each); each = tt }
read (Entry k c v) = record {
  own = own_part (Entry k c v) (no_expression (Entry k c v) refl) (no_element (Entry k c v) refl) (entry_told k c v (read v).own.expression) (λ h. false_true h) (λ h. false_true h) (λ h. false_true h) (λ h. false_true h);
  each = tt;
}
read (Parenthesized o v c) = record { own = an_expression (Parenthesized o v c) refl refl refl (parenthesized_told o c v (read v).own.expression); each = tt }
read (Member b p n) = record { own = own_expression (Member b p n) (no_element (Member b p n) refl) (no_part (Member b p n) refl) (member_told b p n (read b).own.expression) (expression_init_told (Member b p n) refl (member_told b p n (read b).own.expression)); each = tt }
read (Index b o v c) = record { own = an_expression (Index b o v c) refl refl refl (index_told b v o c (read b).own.expression (read v).own.expression); each = tt }
read (New w f) = record { own = an_expression (New w f) refl refl refl (new_told w f (read f).own.expression); each = tt }
read (NewCall w f o l c) = record { own = an_expression (NewCall w f o l c) refl refl refl (new_call_told w o c f l (read f).own.expression (read l).each); each = tt }
read (Call f o l c) = record { own = an_expression (Call f o l c) refl refl refl (call_told f l o c (read f).own.expression (read l).each); each = tt }
read (Postfix v o) = record { own = an_expression (Postfix v o) refl refl refl (postfix_told v o (read v).own.expression); each = tt }
read (Prefix o v) = record { own = an_expression (Prefix o v) refl refl refl (prefix_told o v (read v).own.expression); each = tt }
read (Infix a o b) = record { own = an_expression (Infix a o b) refl refl refl (infix_told a b o (read a).own.expression (read b).own.expression); each = tt }
read (Conditional a q b c d) = record { own = an_expression (Conditional a q b c d) refl refl refl (conditional_told a b d q c (read a).own.expression (read b).own.expression (read d).own.expression); each = tt }
read (Assignment a o b) = record { own = an_expression (Assignment a o b) refl refl refl (assignment_told a b o (read a).own.expression (read b).own.expression); each = tt }
read (Block o l c) = record { own = own_element (Block o l c) (no_expression (Block o l c) refl) (no_part (Block o l c) refl) (block_told o c l (read l).each) (try_block_told o c l (read l).each); each = tt }
read (Var v l z) = record { own = an_element (Var v l z) refl refl refl (var_told v l z (read l).each); each = tt }
read (Declarator n) = record {
  own = own_part (Declarator n) (no_expression (Declarator n) refl) (no_element (Declarator n) refl) (λ h. false_true h) (declarator_told n) (λ h. false_true h) (λ h. false_true h) (λ h. false_true h);
  each = tt;
}
read (Initialised n q v) = record {
  own = own_part (Initialised n q v) (no_expression (Initialised n q v) refl) (no_element (Initialised n q v) refl) (λ h. false_true h) (initialised_told n q v (read v).own.expression) (λ h. false_true h) (λ h. false_true h) (λ h. false_true h);
  each = tt;
}
read (Empty t) = record { own = an_element (Empty t) refl refl refl (empty_told t); each = tt }
read (Expression v z) = record { own = an_element (Expression v z) refl refl refl (expression_told v z (read v).own.expression); each = tt }
read (If i o v c s) = record { own = an_element (If i o v c s) refl refl refl (if_told i o c v s (read v).own.expression (read s).own.element); each = tt }
read (IfElse i o v c s l u) = record { own = an_element (IfElse i o v c s l u) refl refl refl (if_else_told i o c l v s u (read v).own.expression (read s).own.element (read u).own.element); each = tt }
read (DoWhile d s w o v c z) = record { own = an_element (DoWhile d s w o v c z) refl refl refl (do_while_told d w o c s v z (read s).own.element (read v).own.expression); each = tt }
read (While w o v c s) = record { own = an_element (While w o v c s) refl refl refl (while_told w o c v s (read v).own.expression (read s).own.element); each = tt }
read (For f o i p v q u c s) = record {
  own = an_element (For f o i p v q u c s) refl refl refl (for_told f o p q c i v u s (read i).own.init (read v).own.expression (read u).own.expression (read s).own.element);
  each = tt;
}
read (Bindings v l) = record { own = own_expression (Bindings v l) (no_element (Bindings v l) refl) (no_part (Bindings v l) refl) (λ h. false_true h) (bindings_told v l (read l).each); each = tt }
read (Continue t z) = record { own = an_element (Continue t z) refl refl refl (continue_told t z); each = tt }
read (Break t z) = record { own = an_element (Break t z) refl refl refl (break_told t z); each = tt }
read (Return t v z) = record { own = an_element (Return t v z) refl refl refl (return_told t v z (read v).own.expression); each = tt }
read (Switch s o v c b l d) = record { own = an_element (Switch s o v c b l d) refl refl refl (switch_told s o c b d v l (read v).own.expression (read l).each); each = tt }
read (Case w v c l) = record {
  own = own_part (Case w v c l) (no_expression (Case w v c l) refl) (no_element (Case w v c l) refl) (λ h. false_true h) (λ h. false_true h) (case_told w c v l (read v).own.expression (read l).each) (λ h. false_true h) (λ h. false_true h);
  each = tt;
}
read (Default w c l) = record {
  own = own_part (Default w c l) (no_expression (Default w c l) refl) (no_element (Default w c l) refl) (λ h. false_true h) (λ h. false_true h) (default_told w c l (read l).each) (λ h. false_true h) (λ h. false_true h);
  each = tt;
}
read (Throw t v z) = record { own = an_element (Throw t v z) refl refl refl (throw_told t v z (read v).own.expression); each = tt }
read (Try t b h f) = record { own = an_element (Try t b h f) refl refl refl (try_told t b h f (read b).own.block (read h).own.handler (read f).own.finisher); each = tt }
read (Catch w o n c b) = record {
  own = own_part (Catch w o n c b) (no_expression (Catch w o n c b) refl) (no_element (Catch w o n c b) refl) (λ h. false_true h) (λ h. false_true h) (λ h. false_true h) (catch_told w o n c b (read b).own.block) (λ h. false_true h);
  each = tt;
}
read (Finally w b) = record {
  own = own_part (Finally w b) (no_expression (Finally w b) refl) (no_element (Finally w b) refl) (λ h. false_true h) (λ h. false_true h) (λ h. false_true h) (λ h. false_true h) (finally_told w b (read b).own.block);
  each = tt;
}
read (Function f n o l c b s d) = record { own = an_expression (Function f n o l c b s d) refl refl refl (function_told f o c b d n l s (read l).each (read s).each); each = tt }
read (Declaration f n o l c b s d) = record { own = an_element (Declaration f n o l c b s d) refl refl refl (declaration_told f n o c b d l s (read l).each (read s).each); each = tt }
read (Parameter n) = record { own = without_role (Parameter n) refl refl refl; each = tt }

-- The machine takes the lexemes of a script, and tells what is told of its phrase.
pub script : (lexemes : List Lexeme) (body : Phrase) → IsScript lexemes body → go begins lexemes ≡ Some (At M.Done [] (emit body []))
script lexemes body is =
    ap (go begins) is.whole
    ∙ statements_told is_element (λ n. F.Script) [] (λ d e. e) (λ d n e f. refl) (λ n out t. refl) body [] is.end [] (read body).each is.list is.made (ap is_finally_word is.ends)
    ∙ at_word (λ u. start (F.Script ∷ []) (emit body []) u ≡ Some (At M.Done [] (emit body []))) is.end W.End is.ends refl

-- So two phrases of the same lexemes are told alike.
told_of : Option State → List Event
told_of (Some (At mode st out)) = out
told_of None = []

pub one_telling : (lexemes : List Lexeme) (a b : Phrase) → IsScript lexemes a → IsScript lexemes b → emit a [] ≡ emit b []
unfolding told_of
one_telling lexemes a b first second = ap told_of (sym (script lexemes a first) ∙ script lexemes b second)
