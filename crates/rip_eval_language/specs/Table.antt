-- The meaning of a program: one row for each form of node, and for each open frame what remains of its row.
use Rattle.std.specs.Prelude.{List}
use Rattle.rip_base.specs.declared.value.Value.{Value}
use Rattle.rip_base.specs.declared.value.Value.TheVariants.{Null, Bool as Boolean, Num, Text}
use Rattle.rip_heap.specs.World.{World}
use Rattle.rip_tree.specs.declared.form.Form.{Form}
use Rattle.rip_tree.specs.declared.form.Form.TheVariants as form
use Rattle.rip_eval_rows.specs.declared.completion.Completion.{Completion}
use Rattle.rip_eval_rows.specs.declared.completion.Completion.TheVariants.{Broken, Continued}
use Rattle.rip_eval_rows.specs.declared.frame.HostedWait.{HostedWait}
use Rattle.rip_eval_rows.specs.declared.frame.HostedWait.TheVariants as hosted
use Rattle.rip_eval_rows.specs.declared.frame.OwnWait.{OwnWait}
use Rattle.rip_eval_rows.specs.declared.frame.OwnWait.TheVariants as own
use Rattle.rip_eval_rows.specs.declared.frame.Wait.{Wait}
use Rattle.rip_eval_rows.specs.declared.frame.Wait.TheVariants.{Own, Hosted}
use Rattle.rip_eval_rows.specs.declared.part.Part.{Part}
use Rattle.rip_eval_rows.specs.Row.{Row, Ends, Table, after_first}
use Rattle.rip_eval_rows.specs.Stack.{Open}
use Rattle.rip_eval_language.specs.Reading.{Loaded, form_of, literal}
use Rattle.rip_eval_language.specs.Rows.Expressions.{gives, name_row, binary_row, right_end, logical_row, conditional_row, comma_row, unary_row, assign_row, assign_value, compound_row, compound_value, step_row}
use Rattle.rip_eval_language.specs.Rows.Exceptions.{finally_end, finally_row, throw_end, throw_row, try_end, try_row}
use Rattle.rip_eval_language.specs.Rows.Calls.{answered_by, answerer_of, argument_end, call_row, callee_end}
use Rattle.rip_eval_language.specs.Rows.Constructing.{new_argument_end, new_row}
use Rattle.rip_eval_language.specs.Rows.Functions.{function_row}
use Rattle.rip_eval_language.specs.Rows.Literals.{array_row, element_end, entry_end, object_row}
use Rattle.rip_eval_language.specs.Rows.Members.{index_row, member_row, subscript_end}
use Rattle.rip_eval_language.specs.Rows.Statements.{block_row, do_body, do_row, do_test, done, expression_row, for_body, for_row, for_started, for_test, for_update, if_row, initialiser_end, return_end, return_row, statement_end, var_row, while_body, while_row, while_test}
use Rattle.rip_eval_language.specs.Rows.Switch.{case_end, clause_end, switch_row}

-- the row of a part by the form of its node
abbrev pub row_by : Loaded → Part → Form → World → Row
-- 11.1.1, 7.8
row_by p at form.This w = gives at.this w
row_by p at form.Null w = gives Null w
row_by p at (form.Boolean b) w = gives (Boolean b) w
row_by p at (form.Number z) w = gives (Num z) w
row_by p at (form.Text literal-text) w = gives (Text (literal p at.node)) w
-- 11.1.2
row_by p at (form.Name name) w = name_row p at at.role w
-- 11.1.4, 11.1.5
row_by p at form.Array w = array_row p at w
row_by p at form.Object w = object_row p at w
-- 13
row_by p at (form.Function head) w = function_row p at w
-- 11.2.1
row_by p at (form.Member name) w = member_row p at w
row_by p at form.Index w = index_row p at w
-- 11.2.3, 11.2.2
row_by p at form.Call w = call_row p at w
row_by p at form.New w = new_row p at w
-- 11.4
row_by p at (form.Unary op) w = unary_row p at w
-- 11.3, 11.4.4, 11.4.5
row_by p at (form.Postfix op) w = step_row p at w
row_by p at (form.Prefix op) w = step_row p at w
-- 11.5 to 11.10, 11.11, 11.12, 11.14
row_by p at (form.Binary op) w = binary_row p at w
row_by p at (form.Logical op) w = logical_row p at w
row_by p at form.Conditional w = conditional_row p at w
row_by p at form.Comma w = comma_row p at w
-- 11.13
row_by p at form.Assign w = assign_row p at w
row_by p at (form.Compound op) w = compound_row p at w
-- 12.1 to 12.5
row_by p at form.Block w = block_row p at w
row_by p at form.Var w = var_row p at w
row_by p at form.Empty w = done w
row_by p at form.Expression w = expression_row p at w
row_by p at form.If w = if_row p at w
-- 12.6
row_by p at form.DoWhile w = do_row p at w
row_by p at form.While w = while_row p at w
row_by p at form.For w = for_row p at w
-- 12.7 to 12.9
row_by p at form.Continue w = Ends Continued w
row_by p at form.Break w = Ends Broken w
row_by p at form.Return w = return_row p at w
-- 12.11, 12.13, 12.14
row_by p at form.Switch w = switch_row p at w
row_by p at form.Throw w = throw_row p at w
row_by p at form.Try w = try_row p at w
-- parts and declarations, which are never entered
row_by p at form.Script w = done w
row_by p at (form.FunctionDeclaration head) w = done w
row_by p at (form.Declarator name) w = done w
row_by p at form.Bindings w = done w
row_by p at (form.Entry key) w = done w
row_by p at (form.Parameter name) w = done w
row_by p at form.Case w = done w
row_by p at form.Default w = done w
row_by p at (form.Catch name) w = done w

-- the row of a part
abbrev pub row : Loaded → Part → World → Row
row p at w = row_by p at (form_of p at.node) w

-- what remains of a row at each place where it waits, and asks the host for nothing before its next part
abbrev pub own_rest : Loaded → Part → OwnWait → List Value → Completion → World → Row
own_rest p at (own.Statement place ending) values c w = statement_end p at ending place c w
own_rest p at (own.Initialiser place) values c w = initialiser_end p at place c w
own_rest p at own.Expression values c w = after_first (expression_row p at) c w
own_rest p at own.IfTest values c w = after_first (if_row p at) c w
own_rest p at own.DoBody values c w = do_body p at c w
own_rest p at own.DoTest values c w = do_test p at c w
own_rest p at own.WhileTest values c w = while_test p at c w
own_rest p at own.WhileBody values c w = while_body p at c w
own_rest p at own.ForStart values c w = for_started p at c w
own_rest p at own.ForTest values c w = for_test p at c w
own_rest p at own.ForUpdate values c w = for_update p at c w
own_rest p at own.ForBody values c w = for_body p at c w
own_rest p at own.Discriminant values c w = after_first (switch_row p at) c w
own_rest p at (own.CaseTest clause v) values c w = case_end p at clause v c w
own_rest p at (own.ClauseStatement clause place) values c w = clause_end p at clause place c w
own_rest p at own.ThrowValue values c w = throw_end c w
own_rest p at own.TryBlock values c w = try_end p at c w
own_rest p at own.CatchBlock values c w = finally_row p at c w
own_rest p at (own.FinallyBlock before) values c w = finally_end before c w
own_rest p at own.ReturnValue values c w = return_end c w
own_rest p at own.Constructor values c w = after_first (new_row p at) c w
own_rest p at (own.NewArgument place f) values c w = new_argument_end p at place f values c w
own_rest p at own.IndexBase values c w = after_first (index_row p at) c w
own_rest p at (own.Element place array) values c w = element_end p at place array c w
own_rest p at (own.Entry place object) values c w = entry_end p at place object c w
own_rest p at own.Operand values c w = after_first (unary_row p at) c w
own_rest p at own.Left values c w = after_first (binary_row p at) c w
own_rest p at (own.Right a) values c w = right_end p at a c w
own_rest p at own.LogicalLeft values c w = after_first (logical_row p at) c w
own_rest p at own.ConditionalTest values c w = after_first (conditional_row p at) c w
own_rest p at own.AssignTarget values c w = after_first (assign_row p at) c w
own_rest p at own.CommaLeft values c w = after_first (comma_row p at) c w
own_rest p at own.Last values c w = Ends c w

-- the same at each place after which it may ask the host
abbrev pub hosted_rest : Loaded → Part → HostedWait → List Value → Completion → World → Row
hosted_rest p at hosted.Callee values c w = callee_end p at c w
hosted_rest p at (hosted.Argument place f this) values c w = argument_end p at place f this values c w
hosted_rest p at hosted.MemberBase values c w = after_first (member_row p at) c w
hosted_rest p at (hosted.Subscript base) values c w = subscript_end at base c w
hosted_rest p at hosted.StepTarget values c w = after_first (step_row p at) c w
hosted_rest p at (hosted.AssignValue target) values c w = assign_value p at target c w
hosted_rest p at hosted.CompoundTarget values c w = after_first (compound_row p at) c w
hosted_rest p at (hosted.CompoundValue target old) values c w = compound_value p at target old c w
hosted_rest p at (hosted.Called b this) values c w = answered_by p at (answerer_of b) b this values w

-- the same at each place
abbrev pub rest_by : Loaded → Part → Wait → List Value → Completion → World → Row
rest_by p at (Own wait) values c w = own_rest p at wait values c w
rest_by p at (Hosted wait) values c w = hosted_rest p at wait values c w

-- what remains of a row at an open frame
abbrev pub rest : Loaded → Open → Completion → World → Row
rest p o c w = rest_by p o.frame.at o.frame.wait o.values c w

-- the meaning of a program
abbrev pub table : Loaded → Table
table p = record { row = row p; rest = rest p }
