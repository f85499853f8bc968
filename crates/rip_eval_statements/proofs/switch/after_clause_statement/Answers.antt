use Rattle.std.proofs.Common.{◌≡◌, ◌+◌, Some, sym, ap, ◌∙◌, subst}
use Rattle.std.specs.Prelude.{unwrap_or}
use Rattle.rip_eval_rows.specs.declared.next.Next.{Next}
use Rattle.rip_eval_rows.specs.Frame.{inside}
use Rattle.rip_eval_rows.specs.Row.{Asks}
use Rattle.rip_eval_language.specs.Does.{DoesPurely}
use Rattle.rip_eval_language.specs.Reading.{child, child_at}
use Rattle.rip_eval_language.specs.Rows.Switch.{clause_end}
use Rattle.rip_eval_statements.proofs.Clauses.{clause_goes_on}
use Rattle.rip_eval_statements.proofs.switch.after_clause_statement.Goals as goal

pub returns-in-Some : goal.returns-in-Some
returns-in-Some c =
    let p = c.args.p.now in
    let at = c.args.at.now in
    let P : Next → Type 0 = λ r. DoesPurely p at r (clause_end p at c.args.clause c.args.place c.args.c.now) in
    let node : c.child-node.result ≡ child p at.node (c.args.clause + 1) = c.child-node.ensures ∙ ap (λ o. unwrap_or o 0) (c.behind.ensures.child at.node) in
    let there : child_at p c.child-node.result (c.args.place + 1) ≡ Some c.in-Some.s =
    sym (c.behind-in-Normal.ensures.child c.child-node.result) ∙ sym c.child_at.ensures.child ∙ c.in-Some.is in
    let row = subst P (sym c.ask.ensures)
    (λ values w.
    ap (λ part. Asks (inside at part) w (clause_end p at c.args.clause (c.args.place + 1))) c.inner.ensures
    ∙ sym (clause_goes_on p at c.args.clause c.args.place c.child-node.result c.in-Some.s c.in-Normal.field-0 w node there)
    ∙ ap (λ d. clause_end p at c.args.clause c.args.place d w) (sym c.in-Normal.is)) in
    record { row = row }
