-- The rows of expressions but for calls (ECMA-262 11).
use Rattle.std.specs.Prelude.{Bool, true, false, ◌&&◌, ◌||◌, if◌then◌else◌, Option, None, Some, Result, Ok, Err, is_some, pos}
use Rattle.rip_base.specs.declared.operator.LogicalOperator.{LogicalOperator}
use Rattle.rip_base.specs.declared.operator.LogicalOperator.TheVariants.{And, Or}
use Rattle.rip_base.specs.declared.operator.StepOperator.{StepOperator}
use Rattle.rip_base.specs.declared.operator.StepOperator.TheVariants.{Increment, Decrement}
use Rattle.rip_base.specs.declared.operator.UnaryOperator.{UnaryOperator}
use Rattle.rip_base.specs.declared.operator.UnaryOperator.TheVariants as unary
use Rattle.rip_base.specs.declared.value.Fault.{Fault}
use Rattle.rip_base.specs.declared.value.Limit.TheVariants.{Cells}
use Rattle.rip_base.specs.declared.value.Numeral.{Numeral}
use Rattle.rip_base.specs.declared.value.Numeral.TheVariants.{Num as Number}
use Rattle.rip_base.specs.declared.value.Value.{Value}
use Rattle.rip_base.specs.declared.value.Value.TheVariants.{Undefined, Null, Bool as Boolean, Num, NaN, Text, Object}
use Rattle.rip_values.specs.Builtins.{is_function}
use Rattle.rip_values.specs.declared.builtin.Builtin.{Builtin}
use Rattle.rip_values.specs.declared.fixed.FixedText.{FixedText}
use Rattle.rip_values.specs.declared.fixed.FixedText.TheVariants as text
use Rattle.rip_heap.specs.declared.class.Class.TheVariants.{ThrownTypeError}
use Rattle.rip_heap.specs.declared.keys.Reference.{Reference}
use Rattle.rip_heap.specs.Conversions.{boolean_of, number_of, span_of}
use Rattle.rip_heap.specs.World.{World, code_of, object_at}
use Rattle.rip_ops.specs.Calls.{builtin_of}
use Rattle.rip_ops.specs.Reading.{read}
use Rattle.rip_ops.specs.Writing.{write}
use Rattle.rip_ops.specs.declared.operators.UnaryOp.TheVariants.{Plus, Minus, Not, BitNot}
use Rattle.rip_ops.specs.Arithmetic.{sum, difference}
use Rattle.rip_ops.specs.Operators.{binary, unary as unary_outcome}
use Rattle.rip_heap.specs.declared.outcome.Abrupt.{Abrupt}
use Rattle.rip_heap.specs.declared.outcome.Abrupt.TheVariants as cause
use Rattle.rip_heap.specs.Outcome.{Outcome, Gives, Throws, Faults, Exceeds}
use Rattle.rip_base.specs.Values.{value_of_number}
use Rattle.rip_tree.specs.declared.form.Form.{Form}
use Rattle.rip_tree.specs.declared.form.Form.TheVariants as form
use Rattle.rip_eval_rows.specs.declared.completion.Completion.{Completion}
use Rattle.rip_eval_rows.specs.declared.completion.Completion.TheVariants.{Normal}
use Rattle.rip_eval_rows.specs.declared.completion.Stop.TheVariants.{Fault as AtFault, Limit as AtLimit}
use Rattle.rip_eval_rows.specs.declared.part.Inner.{Inner}
use Rattle.rip_eval_rows.specs.declared.part.Part.{Part}
use Rattle.rip_eval_rows.specs.declared.part.Role.{Role}
use Rattle.rip_eval_rows.specs.declared.part.Role.TheVariants as role
use Rattle.rip_eval_rows.specs.Frame.{inside}
use Rattle.rip_eval_rows.specs.Row.{Row, Ends, Halts, Asks, value_of, with_value}
use Rattle.rip_eval_language.specs.Reading.{Loaded, child, form_of, inner_at, inner_target, is_postfix, logical_operator, operator, part_at, scoping, step_operator, target_at, unary_operator}
use Rattle.rip_eval_language.specs.Rows.Members.{deletes, target_of, with_read, with_target, with_writing}
use Rattle.rip_eval_language.specs.Rows.Names.{found, throws, with_found, with_written, written}

-- ends with a value
abbrev pub gives : Value → World → Row
gives v w = Ends (Normal v) w

-- ends as this part does
abbrev pub last : Part → World → Row
last part w = Asks part w Ends

-- what a row does where an operation has no value: it throws, or the run stops. No row means want of memory
abbrev pub abruptly : Abrupt → World → Row
abruptly cause.TypeError w = throws ThrownTypeError w
abruptly (cause.Fault fault) w = Halts (AtFault fault) w
abruptly (cause.Limit limit) w = Halts (AtLimit limit) w
abruptly cause.Memory w = Halts (AtLimit Cells) w

-- goes on with what an operator gives
abbrev pub with_outcome : Outcome → World → (Value → World → Row) → Row
with_outcome (Gives v x) w go = go v x
with_outcome Throws w go = throws ThrownTypeError w
with_outcome (Faults fault) w go = Halts (AtFault fault) w
with_outcome (Exceeds limit) w go = Halts (AtLimit limit) w

-- 11.1.2: a name is read, but for a target
abbrev pub name_row : Loaded → Part → Role → World → Row
name_row p at role.Value w = with_found (found w at.scope (scoping p at.node).resolved) w (λ v. gives v w)
name_row p at role.Target w = gives Undefined w
name_row p at role.Callee w = with_found (found w at.scope (scoping p at.node).resolved) w (λ v. gives v w)

-- 11.2 to 11.10: the left operand, the right operand, then the operator
abbrev pub right_end : Loaded → Part → Value → Completion → World → Row
right_end p at a c w = with_value c w (λ b. with_outcome (binary w (operator p at.node) a b) w gives)

-- the row of an operator of two operands: the left one, the right one, then the operator
abbrev pub binary_row : Loaded → Part → World → Row
binary_row p at w = value_of (part_at p at 0) w (λ a x. Asks (part_at p at 1) x (right_end p at a))

-- 11.11: the right operand where the left one does not decide
abbrev pub is_decided : LogicalOperator → Bool → Bool
is_decided And truth = if truth then false else true
is_decided Or truth = truth

-- the row of `&&` and of two bars: the right operand where the left one does not decide
abbrev pub logical_row : Loaded → Part → World → Row
logical_row p at w = value_of (part_at p at 0) w (λ a x. if is_decided (logical_operator p at.node) (boolean_of x.pool a) then gives a x else last (part_at p at 1) x)

-- 11.12
abbrev pub conditional_row : Loaded → Part → World → Row
conditional_row p at w = value_of (part_at p at 0) w (λ a x. last (part_at p at (if boolean_of x.pool a then 1 else 2)) x)

-- 11.14
abbrev pub comma_row : Loaded → Part → World → Row
comma_row p at w = value_of (part_at p at 0) w (λ a x. last (part_at p at 1) x)

-- whether this is a built-in function
abbrev pub is_built_in_function : Option Builtin → Bool
is_built_in_function None = false
is_built_in_function (Some b) = is_function b

-- 11.4.3: the text that names the kind of a value; functions are those of the script and the built-in ones
abbrev pub kind_of : World → Value → FixedText
kind_of w Undefined = text.Undefined
kind_of w Null = text.Object
kind_of w (Boolean b) = text.Boolean
kind_of w (Num z) = text.Number
kind_of w NaN = text.Number
kind_of w (Text span) = text.String
kind_of w (Object n) = if is_some (code_of (object_at w n)) || is_built_in_function (builtin_of n) then text.Function else text.Object

abbrev pub kind_text : World → Value → Value
kind_text w v = Text (span_of (kind_of w v))

-- what `typeof` says of a name: one that is not bound yet is undefined
abbrev pub kind_of_found : World → Option Value → Value
kind_of_found w None = kind_text w Undefined
kind_of_found w (Some v) = kind_text w v

-- what the target of a node means
abbrev pub target_found : Loaded → Part → World → Option Value
target_found p at w = found w at.scope (scoping p (child p at.node 0)).resolved

-- the operand of `typeof` is not read where it is a name
abbrev pub is_type_of : UnaryOperator → Bool
is_type_of unary.TypeOf = true
is_type_of op = false

abbrev pub is_name : Form → Bool
is_name (form.Name piece) = true
is_name f = false

abbrev pub is_unread : Loaded → Part → Bool
is_unread p at = is_type_of (unary_operator p at.node) && is_name (form_of p (child p at.node 0))

-- that of `delete` is a target where it is a member
abbrev pub is_delete : UnaryOperator → Bool
is_delete unary.Delete = true
is_delete op = false

abbrev pub is_member : Form → Bool
is_member (form.Member piece) = true
is_member form.Index = true
is_member f = false

abbrev pub is_deleted : Loaded → Part → Bool
is_deleted p at = is_delete (unary_operator p at.node) && is_member (form_of p (child p at.node 0))

abbrev pub operand : Loaded → Part → Inner
operand p at = if is_unread p at || is_deleted p at then inner_target p at 0 else inner_at p at 0

-- 11.4.1 to 11.4.3, 11.4.6 to 11.4.9: what an operator of one operand gives for its value; of `delete` it is no member
abbrev pub operated : Loaded → Part → UnaryOperator → Value → World → Row
operated p at unary.Delete a w = deletes None w
operated p at unary.Void a w = gives Undefined w
operated p at unary.TypeOf a w = gives (if is_unread p at then kind_of_found w (target_found p at w) else kind_text w a) w
operated p at unary.Plus a w = with_outcome (unary_outcome w Plus a) w gives
operated p at unary.Minus a w = with_outcome (unary_outcome w Minus a) w gives
operated p at unary.BitNot a w = with_outcome (unary_outcome w BitNot a) w gives
operated p at unary.Not a w = with_outcome (unary_outcome w Not a) w gives

-- the operand of `delete` may be a member, which is not read
abbrev pub operand_end : Loaded → Part → UnaryOperator → Completion → World → Row
operand_end p at unary.Delete c w = with_target c w (λ t. deletes t w)
operand_end p at op c w = with_value c w (λ a. operated p at op a w)

-- the row of an operator of one operand
abbrev pub unary_row : Loaded → Part → World → Row
unary_row p at w = Asks (inside at (operand p at)) w (operand_end p at (unary_operator p at.node))

-- ASSIGNMENT. A target is a name or a member, and is not read where it is entered

-- goes on with the value of a target: of a name, or of a member
abbrev pub read_target : Loaded → Part → Option Reference → World → (Value → World → Row) → Row
read_target p at None w go = with_found (target_found p at w) w (λ v. go v w)
read_target p at (Some r) w go = with_read (read w r.base r.key) w go

-- v is written to the target, and the row gives another value or the same
abbrev pub writes : Loaded → Part → Option Reference → Value → Value → World → Row
writes p at None v given w = with_written (written w at.scope (scoping p (child p at.node 0)) v) w (λ x. gives given x)
writes p at (Some r) v given w = with_writing (write w r.base r.key v) v w (λ x. gives given x)

-- 11.13.1: the target, the right side, and the write
abbrev pub assign_value : Loaded → Part → Option Reference → Completion → World → Row
assign_value p at target c w = with_value c w (λ v. writes p at target v v w)

-- the row of `=`: the target, the right side, and the write
abbrev pub assign_row : Loaded → Part → World → Row
assign_row p at w = target_of (target_at p at 0) w (λ target x. Asks (part_at p at 1) x (assign_value p at target))

-- 11.13.2: the target, which is read, the right side, the operator, and the write
abbrev pub compound_value : Loaded → Part → Option Reference → Value → Completion → World → Row
compound_value p at target old c w = with_value c w (λ b. with_outcome (binary w (operator p at.node) old b) w (λ v x. writes p at target v v x))

-- the row of a compound assignment: the target, which is read, the right side, the operator, and the write
abbrev pub compound_row : Loaded → Part → World → Row
compound_row p at w =
    target_of (target_at p at 0) w (λ target x. read_target p at target x (λ old y. Asks (part_at p at 1) y (compound_value p at target old)))

-- 11.3, 11.4.4, 11.4.5: the target, which is read, ToNumber, plus or minus 1, and the write. A prefix operator gives the
-- new number, a postfix operator the old one
abbrev pub step_by : StepOperator → Numeral → Result Numeral Fault
step_by Increment n = sum n (Number (pos 1))
step_by Decrement n = difference n (Number (pos 1))

-- the number that a value is, and that one up or down, as values
abbrev pub new_number : Numeral → Result Numeral Fault → Result (Value × Value) Fault
new_number old (Ok new) = Ok (value_of_number old, value_of_number new)
new_number old (Err fault) = Err fault

abbrev pub old_number : StepOperator → Result Numeral Fault → Result (Value × Value) Fault
old_number op (Ok old) = new_number old (step_by op old)
old_number op (Err fault) = Err fault

abbrev pub numbers_of_step : World → StepOperator → Value → Result (Value × Value) Fault
numbers_of_step w op v = old_number op (number_of w.pool v)

abbrev pub stepped_by : Loaded → Part → Option Reference → Result (Value × Value) Fault → World → Row
stepped_by p at target (Ok numbers) w = writes p at target numbers.1 (if is_postfix p at.node then numbers.0 else numbers.1) w
stepped_by p at target (Err fault) w = Halts (AtFault fault) w

abbrev pub stepped : Loaded → Part → Option Reference → Value → World → Row
stepped p at target v w = stepped_by p at target (numbers_of_step w (step_operator p at.node) v) w

-- the row of `++` and `--`
abbrev pub step_row : Loaded → Part → World → Row
step_row p at w = target_of (target_at p at 0) w (λ target x. read_target p at target x (λ v y. stepped p at target v y))
