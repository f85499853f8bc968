use Rattle.std.proofs.Common.{rules, ◌≡◌, List, [], None, IfOk, subst, sym, ap, ◌∙◌}
use Rattle.rip_base.specs.declared.value.Value.{Value}
use Rattle.rip_eval_rows.specs.Rest.{as_row}
use Rattle.rip_eval_rows.specs.Row.{Row}
use Rattle.rip_eval_rows.specs.Settle.{settle}
use Rattle.rip_eval_language.specs.Reading.{child_at, children_from}
use Rattle.rip_eval_language.specs.Rows.Calls.{arguments, called, callee_end}
use Rattle.rip_eval_language.specs.Table.{table}
use Rattle.rip_eval_language.proofs.Children.{children_none}
use Rattle.rip_eval_statements.proofs.calls.after_callee.Goals as goal

pub returns-in-None-child_at-clause-row : goal.returns-in-None-child_at-clause-row
returns-in-None-child_at-clause-row g c =
    let a : child_at c.args.p.now c.args.at.now.node 1 ≡ None = search rules in
    let h = g.H.Host.answers in
    let e : callee_end c.args.p.now c.args.at.now c.args.c.now c.args.heap.now ≡ called c.args.p.now c.args.at.now c.in-Some.method.function c.in-Some.method.this [] c.args.heap.now =
    c.in-Some.ensures c.args.heap.now (λ f this. arguments c.args.p.now c.args.at.now f this [] (children_from c.args.p.now c.args.at.now.node 1) c.args.heap.now)
    ∙ ap (λ l. arguments c.args.p.now c.args.at.now c.in-Some.method.function c.in-Some.method.this [] l c.args.heap.now) (children_none c.args.p.now c.args.at.now.node 1 a) in
    let P : Row → Type 0 = λ row. IfOk c.called.result (λ next. (values : List Value) → ◌≡◌ {A = Row × g.row.H.Denot} (as_row (table c.args.p.now) c.args.at.now next values c.called.new.heap, c.called.new.host) (settle h row c.args.host.now)) in
    subst P (sym e) c.called.ensures.row
