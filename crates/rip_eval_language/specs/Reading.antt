-- What rows read of a program. Reading is total: a child that is absent counts as node 0, and a node past the last as an
-- empty statement.
use Rattle.std.specs.Prelude.{ℕ, Bool, true, false, List, [], ◌∷◌, drop, Option, None, Some, unwrap_or, slice_index_or}
use Rattle.rip_base.specs.declared.operator.BinaryOperator.{BinaryOperator}
use Rattle.rip_base.specs.declared.operator.BinaryOperator.TheVariants.{Add}
use Rattle.rip_base.specs.declared.operator.LogicalOperator.{LogicalOperator}
use Rattle.rip_base.specs.declared.operator.LogicalOperator.TheVariants.{And}
use Rattle.rip_base.specs.declared.operator.StepOperator.{StepOperator}
use Rattle.rip_base.specs.declared.operator.StepOperator.TheVariants.{Increment}
use Rattle.rip_base.specs.declared.operator.UnaryOperator.{UnaryOperator}
use Rattle.rip_base.specs.declared.operator.UnaryOperator.TheVariants.{Void}
use Rattle.rip_base.specs.declared.value.Span.{Span}
use Rattle.rip_tree.specs.declared.form.Form.{Form}
use Rattle.rip_tree.specs.declared.form.Form.TheVariants as form
use Rattle.rip_tree.specs.declared.node.Node.{Node}
use Rattle.rip_tree.specs.declared.program.Scoping.{Scoping}
use Rattle.rip_tree.specs.Branches.{child_of, links_of, node_of}
use Rattle.rip_tree.specs.Program.{Code, scoping_of}
use Rattle.rip_eval_rows.specs.declared.part.Inner.{Inner}
use Rattle.rip_eval_rows.specs.declared.part.Part.{Part}
use Rattle.rip_eval_rows.specs.declared.part.Role.TheVariants.{Target}
use Rattle.rip_eval_rows.specs.Frame.{inner, inside}

-- a program whose literals are loaded: of each node the span of the text that it is
pub record Loaded : Type 0 where
  pub code : Code
  pub literals : List Span

-- the form of a node, or that of the empty statement
abbrev pub form_in : Option Node → Form
form_in None = form.Empty
form_in (Some node) = node.form

-- the form of a node
abbrev pub form_of : Loaded → ℕ → Form
form_of p id = form_in (node_of p.code.grove.branches id)

-- the operators of nodes; of a node that has none it does not matter which
abbrev pub operator_in : Form → BinaryOperator
operator_in (form.Binary op) = op
operator_in (form.Compound op) = op
operator_in f = Add

-- the operator of two operands of a node
abbrev pub operator : Loaded → ℕ → BinaryOperator
operator p id = operator_in (form_of p id)

-- the logical operator of a form
abbrev pub logical_in : Form → LogicalOperator
logical_in (form.Logical op) = op
logical_in f = And

-- the logical operator of a node
abbrev pub logical_operator : Loaded → ℕ → LogicalOperator
logical_operator p id = logical_in (form_of p id)

-- the operator of one operand of a form
abbrev pub unary_in : Form → UnaryOperator
unary_in (form.Unary op) = op
unary_in f = Void

-- the operator of one operand of a node
abbrev pub unary_operator : Loaded → ℕ → UnaryOperator
unary_operator p id = unary_in (form_of p id)

-- whether a form steps up or down
abbrev pub step_in : Form → StepOperator
step_in (form.Prefix op) = op
step_in (form.Postfix op) = op
step_in f = Increment

-- whether a node steps up or down
abbrev pub step_operator : Loaded → ℕ → StepOperator
step_operator p id = step_in (form_of p id)

-- whether a node is a postfix operator
abbrev pub is_postfix_form : Form → Bool
is_postfix_form (form.Postfix op) = true
is_postfix_form f = false

-- the form is a postfix step
abbrev pub is_postfix : Loaded → ℕ → Bool
is_postfix p id = is_postfix_form (form_of p id)

-- the child of a node at this place, or none
abbrev pub child_at : Loaded → ℕ → ℕ → Option ℕ
child_at p id place = child_of p.code.grove.branches id place

-- the same, or node 0
abbrev pub child : Loaded → ℕ → ℕ → ℕ
child p id place = unwrap_or (child_at p id place) 0

-- the children up to the first that is absent
abbrev pub leading : List (Option ℕ) → List ℕ
leading [] = []
leading (None ∷ cs) = []
leading (Some c ∷ cs) = c ∷ leading cs

-- the children of a node from this place on
abbrev pub children_from : Loaded → ℕ → ℕ → List ℕ
children_from p id place = leading (drop place (links_of p.code.grove.branches id))

-- what the rules of scope say of a node
abbrev pub scoping : Loaded → ℕ → Scoping
scoping p id = scoping_of p.code.scoping id

-- the span of the text that a node is
abbrev pub literal : Loaded → ℕ → Span
literal p id = slice_index_or p.literals id (record { start = 0; count = 0 })

-- a node as a part of the open part: one of depth less is left for it
abbrev pub part : Part → ℕ → Part
part at id = inside at (inner at id)

-- the child at this place, in the scope of the open part
abbrev pub inner_at : Loaded → Part → ℕ → Inner
inner_at p at place = inner at (child p at.node place)

-- the same as a target: a reference, which is not read
abbrev pub inner_target : Loaded → Part → ℕ → Inner
inner_target p at place = record (inner_at p at place) { role = Target }

-- the child at this place as a part
abbrev pub part_at : Loaded → Part → ℕ → Part
part_at p at place = inside at (inner_at p at place)

-- a child of a part, entered as a reference
abbrev pub target_at : Loaded → Part → ℕ → Part
target_at p at place = inside at (inner_target p at place)
