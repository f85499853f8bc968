-- Scripts and their derivations, as rows.
use Rattle.std.proofs.Common.{◌≡◌, ℕ, true, false, [], ◌∷◌, refl, arith}
use Rattle.rip_base.specs.declared.operator.BinaryOperator.TheVariants as B
use Rattle.rip_base.specs.declared.operator.StepOperator.TheVariants as S
use Rattle.rip_grammar.specs.declared.word.Word.{Word}
use Rattle.rip_grammar.specs.declared.word.Word.TheVariants as W
use Rattle.rip_grammar.specs.declared.word.Lexeme.{Lexeme}
use Rattle.rip_grammar.specs.Phrases.{Written, Inserted, Phrase, Absent, Nothing, More, Single, Parenthesized, NewCall, Call, Postfix, Prefix, Infix, Assignment, Block, Initialised, Expression, If, IfElse, DoWhile, For, Bindings, Return, Empty}
use Rattle.rip_grammar.specs.Grammar.{IsScript}
use Rattle.rip_grammar.specs.Depths.{depth}

-- a lexeme of one unit at a place, behind a line end or not
abbrev pub on_line : Word → ℕ → Lexeme
on_line word place = record { word = word; start = place; count = 1; line_before = false }

abbrev pub behind_line : Word → ℕ → Lexeme
behind_line word place = record { word = word; start = place; count = 1; line_before = true }

-- lexemes by their marks
abbrev pub name : ℕ → Lexeme
name place = on_line W.Name place

abbrev pub opening : ℕ → Lexeme
opening place = on_line W.OpenParenthesis place

abbrev pub closing : ℕ → Lexeme
closing place = on_line W.CloseParenthesis place

abbrev pub semicolon : ℕ → Lexeme
semicolon place = on_line W.Semicolon place

abbrev pub end : ℕ → Lexeme
end place = on_line W.End place

-- a list of one phrase
abbrev pub one : Phrase → Phrase
one d = More Nothing d

-- `a` line end `(b)` is the call
abbrev pub call : Phrase
call = Call (Single (name 0)) (behind_line W.OpenParenthesis 2) (one (Single (name 3))) (closing 4)

pub call_on_the_next_line : IsScript (name 0 ∷ behind_line W.OpenParenthesis 2 ∷ name 3 ∷ closing 4 ∷ end 5 ∷ []) (one (Expression call Inserted))
call_on_the_next_line = record {
  end = end 5;
  ends = refl;
  whole = refl;
  list = refl;
  made = (tt, (refl, refl, (refl, refl, refl, refl, (tt, refl), refl), refl));
}

-- `a` line end `++b` is two statements
pub increment_on_the_next_line : IsScript (name 0 ∷ behind_line (W.Step S.Increment) 2 ∷ name 4 ∷ end 5 ∷ [])
    (More (one (Expression (Single (name 0)) Inserted)) (Expression (Prefix (behind_line (W.Step S.Increment) 2) (Single (name 4))) Inserted))
increment_on_the_next_line = record {
  end = end 5;
  ends = refl;
  whole = refl;
  list = refl;
  made = ((tt, (refl, refl, refl, refl)), (refl, refl, (refl, refl, refl, refl), refl));
}

-- `a++` line end `(b)` is two statements
pub call_after_postfix : IsScript (name 0 ∷ on_line (W.Step S.Increment) 1 ∷ behind_line W.OpenParenthesis 4 ∷ name 5 ∷ closing 6 ∷ end 7 ∷ [])
    (More (one (Expression (Postfix (Single (name 0)) (on_line (W.Step S.Increment) 1)) Inserted)) (Expression (Parenthesized (behind_line W.OpenParenthesis 4) (Single (name 5)) (closing 6)) Inserted))
call_after_postfix = record {
  end = end 7;
  ends = refl;
  whole = refl;
  list = refl;
  made = ((tt, (refl, refl, (refl, refl, refl, refl, refl), refl)), (refl, refl, (refl, refl, refl, refl), refl));
}

-- `return` line end `1` returns nothing, and `1` is a statement
pub return_on_its_line : IsScript (on_line W.Return 0 ∷ behind_line W.Numeral 7 ∷ end 8 ∷ [])
    (More (one (Return (on_line W.Return 0) Absent Inserted)) (Expression (Single (behind_line W.Numeral 7)) Inserted))
return_on_its_line = record {
  end = end 8;
  ends = refl;
  whole = refl;
  list = refl;
  made = ((tt, (refl, refl, tt, tt, refl)), (refl, refl, refl, refl));
}

-- `do;while(a)` line end `(b)` is two statements
pub statement_after_do_while : IsScript
    (on_line W.Do 0 ∷ semicolon 2 ∷ on_line W.While 3 ∷ opening 8 ∷ name 9 ∷ closing 10 ∷ behind_line W.OpenParenthesis 12 ∷ name 13 ∷ closing 14 ∷ end 15 ∷ [])
    (More (one (DoWhile (on_line W.Do 0) (Empty (semicolon 2)) (on_line W.While 3) (opening 8) (Single (name 9)) (closing 10) Inserted)) (Expression (Parenthesized (behind_line W.OpenParenthesis 12) (Single (name 13)) (closing 14)) Inserted))
statement_after_do_while = record {
  end = end 15;
  ends = refl;
  whole = refl;
  list = refl;
  made = ((tt, (refl, refl, refl, refl, refl, refl, refl, refl, refl)), (refl, refl, (refl, refl, refl, refl), refl));
}

-- `if(a)if(b)c;else d`: the `else` belongs to the inner `if`
abbrev pub inner : Phrase
inner = IfElse (on_line W.If 5) (opening 7) (Single (name 8)) (closing 9) (Expression (Single (name 10)) (Written (semicolon 11))) (on_line W.Else 12) (Expression (Single (name 17)) Inserted)

pub nearest_else : IsScript
    (on_line W.If 0 ∷ opening 2 ∷ name 3 ∷ closing 4 ∷ on_line W.If 5 ∷ opening 7 ∷ name 8 ∷ closing 9 ∷ name 10 ∷ semicolon 11 ∷ on_line W.Else 12 ∷ name 17 ∷ end 18 ∷ [])
    (one (If (on_line W.If 0) (opening 2) (Single (name 3)) (closing 4) inner))
nearest_else = record {
  end = end 18;
  ends = refl;
  whole = refl;
  list = refl;
  made = (tt, (refl, refl, refl, refl, refl, refl, (refl, refl, refl, refl, refl, refl, (refl, refl, refl, refl), refl, refl, (refl, refl, refl, refl)), refl));
}

-- `a-b-c` groups to the left
abbrev pub minus : ℕ → Lexeme
minus place = on_line (W.Infix B.Subtract) place

abbrev pub difference : Phrase
difference = Infix (Infix (Single (name 0)) (minus 1) (Single (name 2))) (minus 3) (Single (name 4))

pub subtraction_to_the_left : IsScript (name 0 ∷ minus 1 ∷ name 2 ∷ minus 3 ∷ name 4 ∷ end 5 ∷ []) (one (Expression difference Inserted))
subtraction_to_the_left = record {
  end = end 5;
  ends = refl;
  whole = refl;
  list = refl;
  made = (tt, (refl, refl, (omega arith, omega arith, omega arith, (omega arith, omega arith, omega arith, refl, refl), refl), refl));
}

-- `a=b=c` groups to the right
abbrev pub equals : ℕ → Lexeme
equals place = on_line W.Assign place

pub assignment_to_the_right : IsScript (name 0 ∷ equals 1 ∷ name 2 ∷ equals 3 ∷ name 4 ∷ end 5 ∷ [])
    (one (Expression (Assignment (Single (name 0)) (equals 1) (Assignment (Single (name 2)) (equals 3) (Single (name 4)))) Inserted))
assignment_to_the_right = record {
  end = end 5;
  ends = refl;
  whole = refl;
  list = refl;
  made = (tt, (refl, refl, (refl, refl, refl, refl, (refl, refl, refl, refl, refl)), refl));
}

-- `(a)=1` assigns to the name
pub target_in_parentheses : IsScript (opening 0 ∷ name 1 ∷ closing 2 ∷ equals 3 ∷ on_line W.Numeral 4 ∷ end 5 ∷ [])
    (one (Expression (Assignment (Parenthesized (opening 0) (Single (name 1)) (closing 2)) (equals 3) (Single (on_line W.Numeral 4))) Inserted))
target_in_parentheses = record {
  end = end 5;
  ends = refl;
  whole = refl;
  list = refl;
  made = (tt, (refl, refl, (refl, (refl, refl, refl, refl), refl, refl, refl), refl));
}

-- `new new X()()`: each `new` takes the nearest list
pub nearest_arguments : IsScript (on_line W.New 0 ∷ on_line W.New 4 ∷ name 8 ∷ opening 9 ∷ closing 10 ∷ opening 11 ∷ closing 12 ∷ end 13 ∷ [])
    (one (Expression (NewCall (on_line W.New 0) (NewCall (on_line W.New 4) (Single (name 8)) (opening 9) Nothing (closing 10)) (opening 11) Nothing (closing 12)) Inserted))
nearest_arguments = record {
  end = end 13;
  ends = refl;
  whole = refl;
  list = refl;
  made = (tt, (refl, refl, (refl, refl, (refl, refl, refl, refl, refl, tt, refl), refl, refl, tt, refl), refl));
}

-- `for(var x=("a" in b);;){}`: an `in` in parentheses is taken
abbrev pub membership : Phrase
membership = Parenthesized (opening 10) (Infix (Single (on_line W.Text 11)) (on_line (W.Infix B.In) 15) (Single (name 18))) (closing 19)

pub in_in_parentheses : IsScript
    (on_line W.For 0 ∷ opening 3 ∷ on_line W.Var 4 ∷ name 8 ∷ equals 9 ∷ opening 10 ∷ on_line W.Text 11 ∷ on_line (W.Infix B.In) 15 ∷ name 18 ∷ closing 19 ∷ semicolon 20 ∷ semicolon 21 ∷ closing 22 ∷ on_line W.OpenBrace 23 ∷ on_line W.CloseBrace 24 ∷ end 25 ∷ [])
    (one (For (on_line W.For 0) (opening 3) (Bindings (on_line W.Var 4) (one (Initialised (name 8) (equals 9) membership))) (semicolon 20) Absent (semicolon 21) Absent (closing 22) (Block (on_line W.OpenBrace 23) Nothing (on_line W.CloseBrace 24))))
in_in_parentheses = record {
  end = end 25;
  ends = refl;
  whole = refl;
  list = refl;
  made = (
    tt,
    (refl, refl, refl, refl, (refl, refl, (tt, (refl, refl, refl, (refl, refl, (omega arith, omega arith, omega arith, refl, refl), refl)))), refl, refl, tt, refl, refl, tt, refl, refl, (refl, refl, tt, refl)),
  );
}

-- a call in a statement: the script, the statement, the call and its parts
pub call_depth : depth (one (Expression call Inserted)) ≡ 4
call_depth = refl
