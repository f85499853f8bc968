-- What is told of a phrase, its parts before it: the nodes that it shows, in the words of the grammar.
use Rattle.std.specs.Prelude.{ℕ, ◌+◌, List, ◌∷◌, Option, Some, None}
use Rattle.rip_grammar.specs.declared.word.Lexeme.{Lexeme}
use Rattle.rip_grammar.specs.declared.event.Head.{Head}
use Rattle.rip_grammar.specs.declared.event.Head.TheVariants as H
use Rattle.rip_grammar.specs.declared.event.Event.{Event}
use Rattle.rip_grammar.specs.declared.event.Event.TheVariants as E
use Rattle.rip_grammar.specs.Phrases.{Phrase, Absent, Nothing, More, CommaMore, Trailing, Single, Array, Object, Entry, Parenthesized, Member, Index, New, NewCall, Call, Postfix, Prefix, Infix, Conditional, Assignment, Block, Var, Declarator, Initialised, Empty, Expression, If, IfElse, DoWhile, While, For, Bindings, Continue, Break, Return, Switch, Case, Default, Throw, Try, Catch, Finally, Function, Declaration, Parameter}

-- how many parts a phrase is to what it stands in: a list is as many as it has, all else is one
abbrev pub width : Phrase → ℕ
width Nothing = 0
width (More l d) = width l + 1
width (CommaMore l c d) = width l + 1
width (Trailing l c) = width l
width _ = 1

-- the lexeme of a name that may be absent
abbrev pub label : Phrase → Option Lexeme
label (Single t) = Some t
label _ = None

-- a node that begins with its own lexeme, and one that begins with its first child
abbrev pub node_at : ℕ → Head → ℕ → Event
node_at place head count = E.Node (Some place) head count

-- a node that begins with its first child
abbrev pub node_behind : Head → ℕ → Event
node_behind head count = E.Node None head count

-- what is told of a phrase, the latest first, and then what was told before
abbrev pub emit : Phrase → List Event → List Event
emit Absent out = E.Absent ∷ out
emit Nothing out = out
emit (More l d) out = emit d (emit l out)
emit (CommaMore l c d) out = emit d (emit l out)
emit (Trailing l c) out = emit l out
emit (Single t) out = node_at t.start (H.Single t) 0 ∷ out
emit (Array o l c) out = node_at o.start H.Array (width l) ∷ emit l out
emit (Object o l c) out = node_at o.start H.Object (width l) ∷ emit l out
emit (Entry k c e) out = node_at k.start (H.Entry k) 1 ∷ emit e out
emit (Parenthesized o e c) out = E.Parenthesized o.start ∷ emit e out
emit (Member b p n) out = node_behind (H.Member n) 1 ∷ emit b out
emit (Index b o e c) out = node_behind H.Index 2 ∷ emit e (emit b out)
emit (New w f) out = node_at w.start H.New 1 ∷ emit f out
emit (NewCall w f o l c) out = node_at w.start H.New (1 + width l) ∷ emit l (emit f out)
emit (Call f o l c) out = node_behind H.Call (1 + width l) ∷ emit l (emit f out)
emit (Postfix e o) out = node_behind (H.Postfix o.word) 1 ∷ emit e out
emit (Prefix o e) out = node_at o.start (H.Prefix o.word) 1 ∷ emit e out
emit (Infix a o b) out = node_behind (H.Infix o.word) 2 ∷ emit b (emit a out)
emit (Conditional a q b c d) out = node_behind H.Conditional 3 ∷ emit d (emit b (emit a out))
emit (Assignment a o b) out = node_behind (H.Assignment o.word) 2 ∷ emit b (emit a out)
emit (Block o l c) out = node_at o.start H.Block (width l) ∷ emit l out
emit (Var v l z) out = node_at v.start H.Var (width l) ∷ emit l out
emit (Declarator n) out = node_at n.start (H.Declarator n) 0 ∷ out
emit (Initialised n q e) out = node_at n.start (H.Declarator n) 1 ∷ emit e out
emit (Empty t) out = node_at t.start H.Empty 0 ∷ out
emit (Expression e z) out = node_behind H.Expression 1 ∷ emit e out
emit (If i o e c s) out = node_at i.start H.If 2 ∷ emit s (emit e out)
emit (IfElse i o e c s l u) out = node_at i.start H.If 3 ∷ emit u (emit s (emit e out))
emit (DoWhile d s w o e c z) out = node_at d.start H.DoWhile 2 ∷ emit e (emit s out)
emit (While w o e c s) out = node_at w.start H.While 2 ∷ emit s (emit e out)
emit (For f o i p e q u c s) out = node_at f.start H.For 4 ∷ emit s (emit u (emit e (emit i out)))
emit (Bindings v l) out = node_at v.start H.Bindings (width l) ∷ emit l out
emit (Continue t z) out = node_at t.start H.Continue 0 ∷ out
emit (Break t z) out = node_at t.start H.Break 0 ∷ out
emit (Return t e z) out = node_at t.start H.Return 1 ∷ emit e out
emit (Switch s o e c b l d) out = node_at s.start H.Switch (1 + width l) ∷ emit l (emit e out)
emit (Case w e c l) out = node_at w.start H.Case (1 + width l) ∷ emit l (emit e out)
emit (Default w c l) out = node_at w.start H.Default (width l) ∷ emit l out
emit (Throw t e z) out = node_at t.start H.Throw 1 ∷ emit e out
emit (Try t b h f) out = node_at t.start H.Try 3 ∷ emit f (emit h (emit b out))
emit (Catch w o n c b) out = node_at w.start (H.Catch n) 1 ∷ emit b out
emit (Finally w b) out = emit b out
emit (Function f n o l c b s d) out = node_at f.start (H.Function (label n) (width l)) (width l + width s) ∷ emit s (emit l out)
emit (Declaration f n o l c b s d) out = node_at f.start (H.Declaration n (width l)) (width l + width s) ∷ emit s (emit l out)
emit (Parameter n) out = node_at n.start (H.Parameter n) 0 ∷ out
