-- What the machine does with scripts, as rows: the events of those that have a phrase, and the refusals.
use Rattle.std.proofs.Common.{◌≡◌, [], ◌∷◌, Some, None, refl}
use Rattle.rip_base.specs.declared.operator.BinaryOperator.TheVariants as B
use Rattle.rip_base.specs.declared.operator.LogicalOperator.TheVariants as L
use Rattle.rip_base.specs.declared.operator.StepOperator.TheVariants as S
use Rattle.rip_grammar.specs.declared.word.Word.TheVariants as W
use Rattle.rip_automaton.specs.declared.mode.Mode.TheVariants as M
use Rattle.rip_grammar.specs.Phrases.{Inserted, Absent, Nothing, More, Single, Parenthesized, Index, NewCall, Postfix, Prefix, Assignment, Block, Initialised, Expression, If, DoWhile, For, Bindings, Return, Empty}
use Rattle.rip_grammar.specs.Events.{emit}
use Rattle.rip_automaton.specs.States.{At}
use Rattle.rip_automaton.specs.Machine.{go, begins}
use Rattle.rip_grammar.proofs.Rows.{on_line, behind_line, name, opening, closing, semicolon, end, one, call, inner, minus, difference, equals, membership}

-- `a` line end `(b)` is the call
pub call_on_the_next_line : go begins (name 0 ∷ behind_line W.OpenParenthesis 2 ∷ name 3 ∷ closing 4 ∷ end 5 ∷ []) ≡ Some (At M.Done [] (emit (one (Expression call Inserted)) []))
call_on_the_next_line = refl

-- `a` line end `++b` is two statements
pub increment_on_the_next_line : go begins (name 0 ∷ behind_line (W.Step S.Increment) 2 ∷ name 4 ∷ end 5 ∷ [])
    ≡ Some (At M.Done [] (emit (More (one (Expression (Single (name 0)) Inserted)) (Expression (Prefix (behind_line (W.Step S.Increment) 2) (Single (name 4))) Inserted)) []))
increment_on_the_next_line = refl

-- `a++` line end `(b)` is two statements
pub call_after_postfix : go begins (name 0 ∷ on_line (W.Step S.Increment) 1 ∷ behind_line W.OpenParenthesis 4 ∷ name 5 ∷ closing 6 ∷ end 7 ∷ [])
    ≡ Some (At M.Done [] (emit (More (one (Expression (Postfix (Single (name 0)) (on_line (W.Step S.Increment) 1)) Inserted)) (Expression (Parenthesized (behind_line W.OpenParenthesis 4) (Single (name 5)) (closing 6)) Inserted)) []))
call_after_postfix = refl

-- `return` line end `1` returns nothing, and `1` is a statement
pub return_on_its_line : go begins (on_line W.Return 0 ∷ behind_line W.Numeral 7 ∷ end 8 ∷ [])
    ≡ Some (At M.Done [] (emit (More (one (Return (on_line W.Return 0) Absent Inserted)) (Expression (Single (behind_line W.Numeral 7)) Inserted)) []))
return_on_its_line = refl

-- `do;while(a)` line end `(b)` is two statements
pub statement_after_do_while : go begins (on_line W.Do 0 ∷ semicolon 2 ∷ on_line W.While 3 ∷ opening 8 ∷ name 9 ∷ closing 10 ∷ behind_line W.OpenParenthesis 12 ∷ name 13 ∷ closing 14 ∷ end 15 ∷ [])
    ≡ Some (At M.Done [] (emit (More (one (DoWhile (on_line W.Do 0) (Empty (semicolon 2)) (on_line W.While 3) (opening 8) (Single (name 9)) (closing 10) Inserted)) (Expression (Parenthesized (behind_line W.OpenParenthesis 12) (Single (name 13)) (closing 14)) Inserted)) []))
statement_after_do_while = refl

-- `if(a)if(b)c;else d`: the `else` belongs to the inner `if`
pub nearest_else : go begins (on_line W.If 0 ∷ opening 2 ∷ name 3 ∷ closing 4 ∷ on_line W.If 5 ∷ opening 7 ∷ name 8 ∷ closing 9 ∷ name 10 ∷ semicolon 11 ∷ on_line W.Else 12 ∷ name 17 ∷ end 18 ∷ [])
    ≡ Some (At M.Done [] (emit (one (If (on_line W.If 0) (opening 2) (Single (name 3)) (closing 4) inner)) []))
nearest_else = refl

-- `a-b-c` groups to the left, `a=b=c` to the right
pub subtraction_to_the_left : go begins (name 0 ∷ minus 1 ∷ name 2 ∷ minus 3 ∷ name 4 ∷ end 5 ∷ []) ≡ Some (At M.Done [] (emit (one (Expression difference Inserted)) []))
subtraction_to_the_left = refl

pub assignment_to_the_right : go begins (name 0 ∷ equals 1 ∷ name 2 ∷ equals 3 ∷ name 4 ∷ end 5 ∷ [])
    ≡ Some (At M.Done [] (emit (one (Expression (Assignment (Single (name 0)) (equals 1) (Assignment (Single (name 2)) (equals 3) (Single (name 4)))) Inserted)) []))
assignment_to_the_right = refl

-- `(a)=1` assigns to the name
pub target_in_parentheses : go begins (opening 0 ∷ name 1 ∷ closing 2 ∷ equals 3 ∷ on_line W.Numeral 4 ∷ end 5 ∷ [])
    ≡ Some (At M.Done [] (emit (one (Expression (Assignment (Parenthesized (opening 0) (Single (name 1)) (closing 2)) (equals 3) (Single (on_line W.Numeral 4))) Inserted)) []))
target_in_parentheses = refl

-- `new new X()()`: each `new` takes the nearest list
pub nearest_arguments : go begins (on_line W.New 0 ∷ on_line W.New 4 ∷ name 8 ∷ opening 9 ∷ closing 10 ∷ opening 11 ∷ closing 12 ∷ end 13 ∷ [])
    ≡ Some (At M.Done [] (emit (one (Expression (NewCall (on_line W.New 0) (NewCall (on_line W.New 4) (Single (name 8)) (opening 9) Nothing (closing 10)) (opening 11) Nothing (closing 12)) Inserted)) []))
nearest_arguments = refl

-- `for(var x=("a" in b);;){}`: an `in` in parentheses is taken
pub in_in_parentheses : go begins (on_line W.For 0 ∷ opening 3 ∷ on_line W.Var 4 ∷ name 8 ∷ equals 9 ∷ opening 10 ∷ on_line W.Text 11 ∷ on_line (W.Infix B.In) 15 ∷ name 18 ∷ closing 19 ∷ semicolon 20 ∷ semicolon 21 ∷ closing 22 ∷ on_line W.OpenBrace 23 ∷ on_line W.CloseBrace 24 ∷ end 25 ∷ [])
    ≡ Some (At M.Done [] (emit (one (For (on_line W.For 0) (opening 3) (Bindings (on_line W.Var 4) (one (Initialised (name 8) (equals 9) membership))) (semicolon 20) Absent (semicolon 21) Absent (closing 22) (Block (on_line W.OpenBrace 23) Nothing (on_line W.CloseBrace 24)))) []))
in_in_parentheses = refl

-- refused: `for(a in` and `for(var x=a in`; `++1;`; `a+b=`; `a b`; `throw` line end `a`; `if(a)else`; `f(a,)`; `[,`; `try{}` and the end
pub no_in_for : go begins (on_line W.For 0 ∷ opening 3 ∷ name 4 ∷ on_line (W.Infix B.In) 6 ∷ []) ≡ None
no_in_for = refl

pub no_in_for_var : go begins (on_line W.For 0 ∷ opening 3 ∷ on_line W.Var 4 ∷ name 8 ∷ equals 9 ∷ name 10 ∷ on_line (W.Infix B.In) 12 ∷ []) ≡ None
no_in_for_var = refl

pub no_increment_of_a_numeral : go begins (on_line (W.Step S.Increment) 0 ∷ on_line W.Numeral 2 ∷ semicolon 3 ∷ []) ≡ None
no_increment_of_a_numeral = refl

pub no_assignment_to_a_sum : go begins (name 0 ∷ on_line (W.Infix B.Add) 1 ∷ name 2 ∷ equals 3 ∷ []) ≡ None
no_assignment_to_a_sum = refl

pub no_two_names_on_a_line : go begins (name 0 ∷ name 2 ∷ []) ≡ None
no_two_names_on_a_line = refl

pub no_throw_across_a_line : go begins (on_line W.Throw 0 ∷ behind_line W.Name 6 ∷ []) ≡ None
no_throw_across_a_line = refl

pub no_empty_statement_made : go begins (on_line W.If 0 ∷ opening 2 ∷ name 3 ∷ closing 4 ∷ on_line W.Else 5 ∷ []) ≡ None
no_empty_statement_made = refl

pub no_comma_behind_arguments : go begins (name 0 ∷ opening 1 ∷ name 2 ∷ on_line W.Comma 3 ∷ closing 4 ∷ []) ≡ None
no_comma_behind_arguments = refl

pub no_missing_element : go begins (on_line W.OpenBracket 0 ∷ on_line W.Comma 1 ∷ []) ≡ None
no_missing_element = refl

pub no_try_alone : go begins (on_line W.Try 0 ∷ on_line W.OpenBrace 3 ∷ on_line W.CloseBrace 4 ∷ end 5 ∷ []) ≡ None
no_try_alone = refl

-- refused as soon as nothing can go on: `new -`, `++-`, `++a++`
pub no_operator_to_new : go begins (on_line W.New 0 ∷ minus 4 ∷ []) ≡ None
no_operator_to_new = refl

pub no_operator_to_increment : go begins (on_line (W.Step S.Increment) 0 ∷ minus 2 ∷ []) ≡ None
no_operator_to_increment = refl

pub no_increment_of_postfix : go begins (on_line (W.Step S.Increment) 0 ∷ name 2 ∷ on_line (W.Step S.Increment) 3 ∷ []) ≡ None
no_increment_of_postfix = refl

-- `++1[0]` is taken
pub increment_of_a_member : go begins (on_line (W.Step S.Increment) 0 ∷ on_line W.Numeral 2 ∷ on_line W.OpenBracket 3 ∷ on_line W.Numeral 4 ∷ on_line W.CloseBracket 5 ∷ end 6 ∷ [])
    ≡ Some (At M.Done [] (emit (one (Expression (Prefix (on_line (W.Step S.Increment) 0) (Index (Single (on_line W.Numeral 2)) (on_line W.OpenBracket 3) (Single (on_line W.Numeral 4)) (on_line W.CloseBracket 5))) Inserted)) []))
increment_of_a_member = refl

-- refused: `new a=`, `a||b=`, `a=b+c=`, `a?b` and the end, `var a` line end `in`, `{function`, `if(a)function`, a second `default`, `for(;;` and the end, `for(a;b` line end `)`, `({a}`
pub no_assignment_to_new : go begins (on_line W.New 0 ∷ name 4 ∷ equals 5 ∷ []) ≡ None
no_assignment_to_new = refl

pub no_assignment_behind_or : go begins (name 0 ∷ on_line (W.Logical L.Or) 2 ∷ name 5 ∷ equals 7 ∷ []) ≡ None
no_assignment_behind_or = refl

pub no_assignment_in_a_sum : go begins (name 0 ∷ equals 1 ∷ name 2 ∷ on_line (W.Infix B.Add) 3 ∷ name 4 ∷ equals 5 ∷ []) ≡ None
no_assignment_in_a_sum = refl

pub no_half_conditional : go begins (name 0 ∷ on_line W.Question 1 ∷ name 2 ∷ end 3 ∷ []) ≡ None
no_half_conditional = refl

pub no_in_behind_var : go begins (on_line W.Var 0 ∷ name 4 ∷ behind_line (W.Infix B.In) 6 ∷ []) ≡ None
no_in_behind_var = refl

pub no_declaration_in_a_block : go begins (on_line W.OpenBrace 0 ∷ on_line W.Function 1 ∷ []) ≡ None
no_declaration_in_a_block = refl

pub no_declaration_in_an_if : go begins (on_line W.If 0 ∷ opening 2 ∷ name 3 ∷ closing 4 ∷ on_line W.Function 6 ∷ []) ≡ None
no_declaration_in_an_if = refl

pub no_second_default : go begins (on_line W.Switch 0 ∷ opening 6 ∷ name 7 ∷ closing 8 ∷ on_line W.OpenBrace 9 ∷ on_line W.Default 10 ∷ on_line W.Colon 17 ∷ on_line W.Default 18 ∷ []) ≡ None
no_second_default = refl

pub no_end_in_a_header : go begins (on_line W.For 0 ∷ opening 3 ∷ semicolon 4 ∷ semicolon 5 ∷ end 6 ∷ []) ≡ None
no_end_in_a_header = refl

pub no_semicolon_made_in_a_header : go begins (on_line W.For 0 ∷ opening 3 ∷ name 4 ∷ semicolon 5 ∷ name 6 ∷ behind_line W.CloseParenthesis 8 ∷ []) ≡ None
no_semicolon_made_in_a_header = refl

pub no_key_alone : go begins (opening 0 ∷ on_line W.OpenBrace 1 ∷ name 2 ∷ on_line W.CloseBrace 3 ∷ []) ≡ None
no_key_alone = refl
