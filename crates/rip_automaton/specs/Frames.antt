-- The forms that are open: how tightly they hold, what may stand in them, and what is told of an operator that ends.
use Rattle.std.specs.Prelude.{ℕ, ◌+◌, Bool, true, false, not, ◌||◌, List, [], ◌∷◌, cond}
use Rattle.rip_grammar.specs.declared.word.Word.{Word}
use Rattle.rip_grammar.specs.declared.event.Head.TheVariants as H
use Rattle.rip_grammar.specs.declared.event.Event.{Event}
use Rattle.rip_automaton.specs.declared.frame.Pending.{Pending}
use Rattle.rip_automaton.specs.declared.frame.Pending.TheVariants as P
use Rattle.rip_automaton.specs.declared.frame.VarRole.TheVariants as V
use Rattle.rip_automaton.specs.declared.frame.Frame.{Frame}
use Rattle.rip_automaton.specs.declared.frame.Frame.TheVariants as F
use Rattle.rip_automaton.specs.declared.mode.Shape.{Shape}
use Rattle.rip_automaton.specs.declared.mode.Shape.TheVariants as S
use Rattle.rip_grammar.specs.Words.{is_step, is_name}
use Rattle.rip_grammar.specs.Levels.{expression_level, assignment_level, conditional_level, unary_level, new_level, call_level, binds}
use Rattle.rip_grammar.specs.Events.{node_at, node_behind}

-- the operand may be assigned to
abbrev pub may_be_target : Shape → Bool
may_be_target S.Target = true
may_be_target _ = false

-- it ends in a postfix operator
abbrev pub in_postfix : Shape → Bool
in_postfix S.Postfix = true
in_postfix _ = false

-- the shape of a literal, `this` or a name
abbrev pub single_shape : Word → Shape
single_shape w = cond (is_name w) S.Target S.Plain

-- the shape of an operator with this last operand, which is no target
abbrev pub closed : Shape → Shape
closed S.Postfix = S.Postfix
closed _ = S.Plain

-- the shape of parentheses around this, which end in no postfix operator
abbrev pub enclosed : Shape → Shape
enclosed S.Target = S.Target
enclosed _ = S.Plain

-- how tightly an open operator holds
abbrev pub pending_level : Pending → ℕ
pending_level (P.Infix w) = binds w
pending_level (P.Prefix place w) = unary_level
pending_level (P.New place) = new_level
pending_level (P.Assignment w) = assignment_level
pending_level P.Choice = conditional_level

-- how tightly its last operand holds at least: a target holds at least as tightly as a call
abbrev pub pending_floor : Pending → ℕ
pending_floor (P.Infix w) = binds w + 1
pending_floor (P.Prefix place w) = cond (is_step w) call_level unary_level
pending_floor (P.New place) = new_level
pending_floor (P.Assignment w) = assignment_level
pending_floor P.Choice = assignment_level

-- it may end with such an operand: `++` and `--` take a target
abbrev pub may_end : Pending → Shape → Bool
may_end (P.Prefix place w) sh = not (is_step w) || may_be_target sh
may_end _ sh = true

-- what is told of it
abbrev pub told : Pending → Event
told (P.Infix w) = node_behind (H.Infix w) 2
told (P.Prefix place w) = node_at place (H.Prefix w) 1
told (P.New place) = node_at place H.New 1
told (P.Assignment w) = node_behind (H.Assignment w) 2
told P.Choice = node_behind H.Conditional 3

-- how tightly an expression in this form holds at least: as an expression where it may have a comma, as an assignment where a comma ends it
abbrev pub floor : Frame → ℕ
floor (F.Operator o b) = pending_floor o
floor (F.Parenthesis place) = expression_level
floor F.Index = expression_level
floor F.Expression = expression_level
floor (F.Return place) = expression_level
floor (F.Throw place) = expression_level
floor (F.Condition header place) = expression_level
floor (F.ForInit place) = expression_level
floor (F.ForTest place) = expression_level
floor (F.ForUpdate place) = expression_level
floor (F.Case place) = expression_level
floor _ = assignment_level

-- no bare `in` is taken in this form: it is the init of a `for`, or stands in one without parentheses
abbrev pub bars_in : Frame → Bool
bars_in (F.Operator o b) = b
bars_in (F.Initialised n b) = b
bars_in (F.Declarators V.Init place count) = true
bars_in (F.ForInit place) = true
bars_in _ = false

-- the same of the innermost of the open forms
abbrev pub top_floor : List Frame → ℕ
top_floor [] = assignment_level
top_floor (f ∷ st) = floor f

-- no bare `in` is taken in the innermost of the open forms
abbrev pub top_bars : List Frame → Bool
top_bars [] = false
top_bars (f ∷ st) = bars_in f
