use Rattle.std.proofs.Common.{◌≡◌, List, [], None, subst, refl, rules}
use Rattle.rip_base.specs.declared.value.Value.{Value}
use Rattle.rip_eval_rows.specs.declared.completion.Completion.TheVariants.{Normal}
use Rattle.rip_eval_rows.specs.Rest.{as_row}
use Rattle.rip_eval_rows.specs.Row.{Row, with_value}
use Rattle.rip_eval_language.specs.Reading.{child_at, children_from}
use Rattle.rip_eval_language.specs.Rows.Constructing.{constructs, new_arguments}
use Rattle.rip_eval_language.specs.Table.{table}
use Rattle.rip_eval_language.proofs.Children.{children_none}
use Rattle.rip_eval_statements.proofs.constructing.after_constructor.Goals as goal

pub returns-in-None-child_at-clause-row : goal.returns-in-None-child_at-clause-row
returns-in-None-child_at-clause-row c =
    let d : c.args.c.now ≡ Normal c.in-Some.constructor = search rules in
    let a : child_at c.args.p.now c.args.at.now.node 1 ≡ None = search rules in
    let n = children_none c.args.p.now c.args.at.now.node 1 a in
    let e : constructs c.args.p.now c.args.at.now c.in-Some.constructor [] c.args.heap.now ≡ with_value c.args.c.now c.args.heap.now (λ v. new_arguments c.args.p.now c.args.at.now v [] (children_from c.args.p.now c.args.at.now.node 1) c.args.heap.now) = rw (d, n) refl in
    let P : Row → Type 0 = λ row. (values : List Value) → as_row (table c.args.p.now) c.args.at.now c.constructs.result values c.constructs.new.heap ≡ row in
    subst P e c.constructs.ensures.row
