use Rattle.std.proofs.Common.{◌≡◌, ℕ, ◌+◌, ◌<◌, Bool, if◌then◌else◌, ap, refl, sym, ◌∙◌, subst, arith}
use Rattle.rip_base.specs.declared.value.Value.TheVariants.{Null, Num, Bool as Boolean, Text}
use Rattle.rip_heap.specs.declared.keys.Key.TheVariants.{Name}
use Rattle.rip_heap.specs.Conversions.{boolean_of}
use Rattle.rip_heap.specs.Outcome.{Gives}
use Rattle.rip_ops.specs.declared.access.outcome.Read.TheVariants.{Value as IsRead}
use Rattle.rip_ops.specs.Reading.{read}
use Rattle.rip_ops.specs.Operators.{binary}
use Rattle.rip_eval_rows.specs.declared.completion.Completion.TheVariants.{Normal}
use Rattle.rip_eval_rows.specs.declared.part.Part.{Part}
use Rattle.rip_eval_language.specs.Reading.{part}
use Rattle.rip_eval_language.specs.Rows.Expressions.{gives, operated}
use Rattle.rip_eval_language.specs.Table.{row_by}
use Rattle.rip_eval_in_place.proofs.InPlace.{binary_had, conditional_had, index_had, leaf_had, logical_decided, logical_had, member_had, of_child, part_had, unary_had}
use Rattle.rip_eval_in_place.proofs.Texts.{adds_three}
use Rattle.rip_eval_in_place.proofs.had.+had.Goals as goal
use Rattle.rip_eval_in_place.proofs.had.+had.Goals.{had_conditional-then-truth_of, had_conditional-else-truth_of}

-- LEAVES

pub had_by_form-returns-in_ok-value_of_name-in-Name-clause-had : goal.had_by_form-returns-in_ok-value_of_name-in-Name-clause-had
had_by_form-returns-in_ok-value_of_name-in-Name-clause-had t c =
    let p = c.args.p.now in
    let at = c.args.at.now in
    let w = c.args.heap.now in
    let arm = c.in_ok-value_of_name-in-Name in
    leaf_had p (row_by p at c.args.form.now w) w arm.field-0 c.leaf.result c.leaf.ensures (ap (λ form. row_by p at form w) c.in-Name.is ∙ arm.ensures)

pub had_by_form-returns-in-Number-clause-had : goal.had_by_form-returns-in-Number-clause-had
had_by_form-returns-in-Number-clause-had t c =
    let p = c.args.p.now in
    let at = c.args.at.now in
    let w = c.args.heap.now in
    leaf_had p (row_by p at c.args.form.now w) w (Num c.in-Number.number) c.leaf-in-Number.result c.leaf-in-Number.ensures (ap (λ form. row_by p at form w) c.in-Number.is)

pub had_by_form-returns-in-Text-clause-had : goal.had_by_form-returns-in-Text-clause-had
had_by_form-returns-in-Text-clause-had t c =
    let p = c.args.p.now in
    let at = c.args.at.now in
    let w = c.args.heap.now in
    leaf_had p (row_by p at c.args.form.now w) w (Text c.literal.result) c.leaf-in-Text.result c.leaf-in-Text.ensures
    (ap (λ form. row_by p at form w) c.in-Text.is ∙ ap (λ span. gives (Text span) w) (sym c.literal.ensures))

pub had_by_form-returns-in-This-clause-had : goal.had_by_form-returns-in-This-clause-had
had_by_form-returns-in-This-clause-had t c =
    let p = c.args.p.now in
    let at = c.args.at.now in
    let w = c.args.heap.now in
    leaf_had p (row_by p at c.args.form.now w) w at.this c.leaf-in-This.result c.leaf-in-This.ensures (ap (λ form. row_by p at form w) c.in-This.is)

pub had_by_form-returns-in-Boolean-clause-had : goal.had_by_form-returns-in-Boolean-clause-had
had_by_form-returns-in-Boolean-clause-had t c =
    let p = c.args.p.now in
    let at = c.args.at.now in
    let w = c.args.heap.now in
    leaf_had p (row_by p at c.args.form.now w) w (Boolean c.in-Boolean.b) c.leaf-in-Boolean.result c.leaf-in-Boolean.ensures (ap (λ form. row_by p at form w) c.in-Boolean.is)

pub had_by_form-returns-in-Null-clause-had : goal.had_by_form-returns-in-Null-clause-had
had_by_form-returns-in-Null-clause-had t c =
    let p = c.args.p.now in
    let at = c.args.at.now in
    let w = c.args.heap.now in
    leaf_had p (row_by p at c.args.form.now w) w Null c.leaf-in-Null.result c.leaf-in-Null.ensures (ap (λ form. row_by p at form w) c.in-Null.is)

pub had_inside-returns-in-Some-clause-had : goal.had_inside-returns-in-Some-clause-had
had_inside-returns-in-Some-clause-had t c =
    let p = c.args.p.now in
    let w = c.args.heap.now in
    let inner : Part = part c.args.at.now c.args.node in
    let some : 0 < inner.room = omega arith in
    part_had p inner w c.in-Some.value c.leaf.result c.leaf.ensures some (ap (λ form. row_by p inner form w) (sym c.form.ensures ∙ c.in-Name.is) ∙ c.in-Some.ensures)

pub had_inside-returns-in-Number-clause-had : goal.had_inside-returns-in-Number-clause-had
had_inside-returns-in-Number-clause-had t c =
    let p = c.args.p.now in
    let w = c.args.heap.now in
    let inner : Part = part c.args.at.now c.args.node in
    let some : 0 < inner.room = omega arith in
    part_had p inner w (Num c.in-Number.number) c.leaf-in-Number.result c.leaf-in-Number.ensures some (ap (λ form. row_by p inner form w) (sym c.form.ensures ∙ c.in-Number.is))

-- OPERATORS

pub had_binary-returns-clause-had : goal.had_binary-returns-clause-had
had_binary-returns-clause-had t c =
    let p = c.args.p.now in
    let at = c.args.at.now in
    let w = c.args.heap.now in
    let y = c.had_inside.new.heap in
    let z = c.had_inside-2.new.heap in
    let x = c.calculated.new.heap in
    let b = c.in_ok-b.b in
    let a = c.in_ok-a.a in
    binary_had p at w y z x a.value b.value c.in_ok-value.value a.units b.units (1 + a.units + b.units)
    (of_child p at w y (Normal a.value) 0 c.child.result a.units c.child.ensures c.in_ok-a.ensures.had)
    (of_child p at y z (Normal b.value) 1 c.child-right.result b.units c.child-right.ensures c.in_ok-b.ensures.had)
    (subst (λ op. binary z op a.value b.value ≡ Gives c.in_ok-value.value x) c.operator-op.ensures c.in_ok-value.ensures.gives) refl

pub had_binary-returns-in_err-value-clause-texts : goal.had_binary-returns-in_err-value-clause-texts
had_binary-returns-in_err-value-clause-texts t c =
    adds_three c.args.heap.now c.had_inside.new.heap c.had_inside-2.new.heap c.calculated.new.heap c.had_inside.ensures.texts c.had_inside-2.ensures.texts c.calculated.ensures.texts

pub had_binary-returns-clause-texts : goal.had_binary-returns-clause-texts
had_binary-returns-clause-texts t c =
    adds_three c.args.heap.now c.had_inside.new.heap c.had_inside-2.new.heap c.calculated.new.heap c.had_inside.ensures.texts c.had_inside-2.ensures.texts c.calculated.ensures.texts

pub had_logical-returns-then-is_decided-clause-had : goal.had_logical-returns-then-is_decided-clause-had
had_logical-returns-then-is_decided-clause-had t c =
    let p = c.args.p.now in
    let at = c.args.at.now in
    let w = c.args.heap.now in
    let y = c.had_inside.new.heap in
    let a = c.in_ok-a.a in
    logical_decided p at w y a.value a.units (1 + a.units) (of_child p at w y (Normal a.value) 0 c.child.result a.units c.child.ensures c.in_ok-a.ensures.had) (cc) refl

pub had_logical-returns-clause-had : goal.had_logical-returns-clause-had
had_logical-returns-clause-had t c =
    let p = c.args.p.now in
    let at = c.args.at.now in
    let w = c.args.heap.now in
    let y = c.had_inside.new.heap in
    let x = c.had_inside-2.new.heap in
    let a = c.in_ok-a.a in
    let b = c.in_ok-b.b in
    logical_had p at w y x a.value b.value a.units b.units (1 + a.units + b.units)
    (of_child p at w y (Normal a.value) 0 c.child.result a.units c.child.ensures c.in_ok-a.ensures.had)
    (of_child p at y x (Normal b.value) 1 c.child-second.result b.units c.child-second.ensures c.in_ok-b.ensures.had) (cc) refl

pub had_conditional-returns-clause-had : goal.had_conditional-returns-clause-had
had_conditional-returns-clause-had t c =
    let p = c.args.p.now in
    let at = c.args.at.now in
    let w = c.args.heap.now in
    let y = c.had_inside.new.heap in
    let x = c.had_inside-2.new.heap in
    let test = c.in_ok-test.test in
    let later = c.in_ok-last.last in
    let choose : Bool → ℕ = λ b. if b then 1 else 2 in
    let place : c.if-truth_of.place ≡ (if boolean_of y.pool test.value then 1 else 2) =
    elim c.if-truth_of.branch [
      | had_conditional-then-truth_of b ↦ b.place-is ∙ ap choose (sym b.if-truth_of.true ∙ c.truth_of.ensures)
      | had_conditional-else-truth_of b ↦ b.place-is ∙ ap choose (sym b.if-truth_of.false ∙ c.truth_of.ensures)
    ] in
    conditional_had p at w y x test.value later.value c.if-truth_of.place test.units later.units (1 + test.units + later.units)
    (of_child p at w y (Normal test.value) 0 c.child.result test.units c.child.ensures c.in_ok-test.ensures.had) place
    (of_child p at y x (Normal later.value) c.if-truth_of.place c.child-2.result later.units c.child-2.ensures c.in_ok-last.ensures.had) refl

pub had_unary-returns-clause-had : goal.had_unary-returns-clause-had
had_unary-returns-clause-had t c =
    let p = c.args.p.now in
    let at = c.args.at.now in
    let w = c.args.heap.now in
    let y = c.had_inside.new.heap in
    let a = c.in_ok-a.a in
    unary_had p at w y a.value c.in_ok-value.value a.units (1 + a.units)
    (of_child p at w y (Normal a.value) 0 c.child.result a.units c.child.ensures c.in_ok-a.ensures.had) (cc) (cc)
    (subst (λ op. operated p at op a.value y ≡ gives c.in_ok-value.value y) c.unary_operator-op.ensures (c.in_ok-value.ensures p at)) refl

-- MEMBERS

pub had_member-returns-clause-had : goal.had_member-returns-clause-had
had_member-returns-clause-had t c =
    let p = c.args.p.now in
    let at = c.args.at.now in
    let w = c.args.heap.now in
    let y = c.had_inside.new.heap in
    let base = c.in_ok-base.base in
    member_had p at w y base.value c.in_ok-value.value base.units (1 + base.units)
    (of_child p at w y (Normal base.value) 0 c.child.result base.units c.child.ensures c.in_ok-base.ensures.had) (c.is_read.ensures c.if-not-is_read.false)
    (subst (λ name. read y base.value (Name name) ≡ IsRead c.in_ok-value.value) c.literal.ensures c.in_ok-value.ensures) refl

pub had_index-returns-clause-had : goal.had_index-returns-clause-had
had_index-returns-clause-had t c =
    let p = c.args.p.now in
    let at = c.args.at.now in
    let w = c.args.heap.now in
    let y = c.had_inside.new.heap in
    let x = c.had_inside-2.new.heap in
    let base = c.in_ok-base.base in
    let key = c.in_ok-key.key in
    index_had p at w y x base.value key.value c.in_ok-value.value c.in_ok-named.named base.units key.units (1 + base.units + key.units)
    (of_child p at w y (Normal base.value) 0 c.child.result base.units c.child.ensures c.in_ok-base.ensures.had)
    (of_child p at y x (Normal key.value) 1 c.child-subscript.result key.units c.child-subscript.ensures c.in_ok-key.ensures.had)
    (c.is_read.ensures c.if-not-is_read.false) c.in_ok-named.ensures c.in_ok-value.ensures refl
