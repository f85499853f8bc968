-- The end of a script ends it, or is refused.
use Rattle.std.proofs.Common.{◌≡◌, ℕ, nat_le, Bool, true, false, cond, List, [], ◌∷◌, ◌++◌, Option, Some, None, refl, sym, subst}
use Rattle.rip_grammar.specs.declared.word.Word.TheVariants as W
use Rattle.rip_grammar.specs.declared.word.Lexeme.{Lexeme}
use Rattle.rip_grammar.specs.declared.event.Event.{Event}
use Rattle.rip_grammar.specs.declared.event.Head.TheVariants as H
use Rattle.rip_automaton.specs.declared.frame.VarRole.TheVariants as V
use Rattle.rip_automaton.specs.declared.frame.Frame.{Frame}
use Rattle.rip_automaton.specs.declared.frame.Frame.TheVariants as F
use Rattle.rip_automaton.specs.declared.mode.Mode.{Mode}
use Rattle.rip_automaton.specs.declared.mode.Mode.TheVariants as M
use Rattle.rip_automaton.specs.declared.mode.Shape.{Shape}
use Rattle.rip_automaton.specs.States.{State, At}
use Rattle.rip_grammar.specs.Semicolons.{continues, continues_nothing, is_inserted}
use Rattle.rip_grammar.specs.Events.{node_at, node_behind}
use Rattle.rip_automaton.specs.Frames.{in_postfix, pending_level, may_end, closed, told}
use Rattle.rip_automaton.specs.Statements.{start, ended, finish, clause}
use Rattle.rip_automaton.specs.Headers.{init_ended, declared, return_ends}
use Rattle.rip_automaton.specs.Continuations.{reduce, close}
use Rattle.rip_automaton.specs.Machine.{step, feed, go, begins}

-- the step is refused, or the script has ended
abbrev pub Finishes : Option State → Type 0
Finishes None = Unit {0}
Finishes (Some (At mode st out)) = mode ≡ M.Done

-- the end, at some place
abbrev end_at : ℕ → ℕ → Bool → Lexeme
end_at place count line = record { word = W.End; start = place; count = count; line_before = line }

finishes_if : (b : Bool) (s : Option State) → Finishes s → Finishes (cond b s None)
finishes_if true s h = h
finishes_if false s h = tt

finishes_either : (b : Bool) (s u : Option State) → Finishes s → Finishes u → Finishes (cond b s u)
finishes_either true s u h g = h
finishes_either false s u h g = g

clause_end : (st : List Frame) (out : List Event) (p n : ℕ) (l : Bool) → Finishes (clause st out (end_at p n l))
clause_end (F.Switch place count default ∷ st) out p n l = tt
clause_end st out p n l = tt

start_end : (st : List Frame) (out : List Event) (p n : ℕ) (l : Bool) → Finishes (start st out (end_at p n l))
start_end (F.Script ∷ st) out p n l = refl
start_end st out p n l = tt

ended_end : (st : List Frame) (out : List Event) (p n : ℕ) (l : Bool) → Finishes (ended st out (end_at p n l))
ended_end (F.Then place ∷ st) out p n l = ended_end st _ p n l
ended_end (F.Otherwise place ∷ st) out p n l = ended_end st _ p n l
ended_end (F.While place ∷ st) out p n l = ended_end st _ p n l
ended_end (F.For place ∷ st) out p n l = ended_end st _ p n l
ended_end (F.Catch place name ∷ st) out p n l = ended_end st _ p n l
ended_end (F.Handled place ∷ st) out p n l = ended_end st _ p n l
ended_end (F.Finally place ∷ st) out p n l = ended_end st _ p n l
ended_end (F.Script ∷ st) out p n l = refl
ended_end st out p n l = tt

finish_end : (inserted : Bool) (st : List Frame) (out : List Event) (p n : ℕ) (l : Bool) → Finishes (finish inserted st out (end_at p n l))
finish_end inserted st out p n l = finishes_if inserted _ (ended_end st out p n l)

init_end : (st : List Frame) (out : List Event) (p n : ℕ) (l : Bool) → Finishes (init_ended st out (end_at p n l))
init_end (F.ForInit place ∷ st) out p n l = tt
init_end st out p n l = tt

declared_end : (inserted : Bool) (st : List Frame) (out : List Event) (p n : ℕ) (l : Bool) → Finishes (declared inserted st out (end_at p n l))
declared_end inserted (F.Declarators V.Statement place count ∷ st) out p n l = finish_end inserted st _ p n l
declared_end inserted (F.Declarators V.Init place count ∷ st) out p n l = init_end st _ p n l
declared_end inserted st out p n l = tt

return_end : (inserted : Bool) (st : List Frame) (out : List Event) (p n : ℕ) (l : Bool) → Finishes (return_ends inserted st out (end_at p n l))
return_end inserted (F.Return place ∷ st) out p n l = finish_end inserted st _ p n l
return_end inserted st out p n l = tt

close_end : (sh : Shape) (st : List Frame) (out : List Event) (p n : ℕ) (l : Bool) → Finishes (close sh st out (end_at p n l))
close_end sh (F.Initialised name b ∷ st) out p n l = declared_end _ st _ p n l
close_end sh (F.Expression ∷ st) out p n l = finish_end (is_inserted (continues (in_postfix sh)) (end_at p n l)) st (node_behind H.Expression 1 ∷ out) p n l
close_end sh (F.Return place ∷ st) out p n l = finish_end (is_inserted (continues (in_postfix sh)) (end_at p n l)) st (node_at place H.Return 1 ∷ out) p n l
close_end sh (F.Throw place ∷ st) out p n l = finish_end (is_inserted (continues (in_postfix sh)) (end_at p n l)) st (node_at place H.Throw 1 ∷ out) p n l
close_end sh st out p n l = tt

leave_end : (sh : Shape) (st : List Frame) (out : List Event) (p n : ℕ) (l : Bool) → Finishes (reduce 1 sh st out (λ shape below events. close shape below events (end_at p n l)))
leave_end sh [] out p n l = tt
leave_end sh (F.Operator o b ∷ st) out p n l =
    finishes_either (nat_le 1 (pending_level o)) _ _ (finishes_if (may_end o sh) _ (leave_end (closed sh) st (told o ∷ out) p n l)) tt
leave_end sh (f ∷ st) out p n l = close_end sh (f ∷ st) out p n l

step_end : (mode : Mode) (st : List Frame) (out : List Event) (p n : ℕ) (l : Bool) → Finishes (step mode st out (end_at p n l))
step_end (M.After sh) st out p n l = leave_end sh st out p n l
step_end M.Statement st out p n l = start_end st out p n l
step_end M.Ended st out p n l = ended_end st out p n l
step_end M.Semicolon st out p n l = finish_end (is_inserted continues_nothing (end_at p n l)) st out p n l
step_end (M.AfterName name) st out p n l = declared_end _ st _ p n l
step_end M.Returning st out p n l = return_end true st out p n l
step_end M.Throwing st out p n l = finishes_either l None _ tt tt
step_end M.Clause st out p n l = clause_end st out p n l
step_end mode st out p n l = tt

-- the end after other lexemes
end_step : (mode : Mode) (st : List Frame) (out : List Event) (t : Lexeme) → t.word ≡ W.End → Finishes (step mode st out t)
end_step mode st out t is =
    subst (λ x. Finishes (step mode st out (record { word = x; start = t.start; count = t.count; line_before = t.line_before }))) (sym is) (step_end mode st out t.start t.count t.line_before)

end_feed : (s : Option State) (t : Lexeme) → t.word ≡ W.End → Finishes (feed s t)
end_feed None t is = tt
end_feed (Some (At mode st out)) t is = end_step mode st out t is

go_last : (s : Option State) (before : List Lexeme) (t : Lexeme) → go s (before ++ t ∷ []) ≡ feed (go s before) t
go_last s [] t = refl
go_last s (u ∷ before) t = go_last (feed s u) before t

pub end_finishes : (before : List Lexeme) (t : Lexeme) → t.word ≡ W.End → Finishes (go begins (before ++ t ∷ []))
end_finishes before t is = subst Finishes (sym (go_last begins before t)) (end_feed (go begins before) t is)

-- the state behind the end, if there is one
finished_mode : (s : Option State) (mode : Mode) (st : List Frame) (out : List Event) → s ≡ Some (At mode st out) → Finishes s → mode ≡ M.Done
finished_mode s mode st out is h = subst Finishes is h

pub end_ends : (before : List Lexeme) (t : Lexeme) (mode : Mode) (st : List Frame) (out : List Event) → t.word ≡ W.End → go begins (before ++ t ∷ []) ≡ Some (At mode st out) → mode ≡ M.Done
end_ends before t mode st out is same = finished_mode (go begins (before ++ t ∷ [])) mode st out same (end_finishes before t is)
