use Rattle.std.proofs.Common.{sym, ap, ◌∙◌, subst}
use Rattle.rip_eval_rows.specs.declared.next.Next.{Next}
use Rattle.rip_eval_rows.specs.Frame.{inside}
use Rattle.rip_eval_rows.specs.Row.{Asks}
use Rattle.rip_eval_language.specs.Does.{DoesPurely}
use Rattle.rip_eval_language.specs.Rows.Switch.{clause_end, clause_list, clauses_from, entered_at}
use Rattle.rip_eval_statements.proofs.Clauses.{clause_found}
use Rattle.rip_eval_statements.proofs.switch.clauses.Goals as goal

pub returns-in-Some-child_at : goal.returns-in-Some-child_at
returns-in-Some-child_at c =
    let p = c.args.p.now in
    let at = c.args.at.now in
    let P : Next → Type 0 = λ r. DoesPurely p at r (entered_at p at (clauses_from p at c.args.from)) in
    let row = subst P (sym c.ask.ensures)
    (λ values w.
    ap (λ part. Asks (inside at part) w (clause_end p at c.loop-c.clause c.place_of_first-place.result)) c.inner.ensures
    ∙ sym (clause_found p at c.loop-c.clause c.in-Some.c c.place_of_first-place.result c.in-Some-child_at.s w (sym (c.behind.ensures.child at.node) ∙ sym c.child_at.ensures.child ∙ c.in-Some.is) c.place_of_first-place.ensures (sym c.child_at-in-Some.ensures.child ∙ c.in-Some-child_at.is))
    ∙ ap (λ l. clause_list p at l w) c.loop-c.invariant) in
    record { row = row }
