use Rattle.std.proofs.Common.{rules, ◌≡◌, ◌+◌, Some, false, sym, ap, ◌∙◌, subst}
use Rattle.rip_eval_rows.specs.declared.next.Next.{Next}
use Rattle.rip_eval_rows.specs.Frame.{inner, inside}
use Rattle.rip_eval_rows.specs.Row.{Asks}
use Rattle.rip_eval_language.specs.Does.{DoesPurely}
use Rattle.rip_eval_language.specs.Reading.{child_at, form_of}
use Rattle.rip_eval_language.specs.Rows.Switch.{case_end, case_tests, clauses_from, is_default}
use Rattle.rip_eval_statements.proofs.Clauses.{case_found}
use Rattle.rip_eval_statements.proofs.switch.tests.Goals as goal

pub returns-then-not-is_default : goal.returns-then-not-is_default
returns-then-not-is_default c =
    let p = c.args.p.now in
    let at = c.args.at.now in
    let v = c.args.v in
    let P : Next → Type 0 = λ r. DoesPurely p at r (case_tests p at v (clauses_from p at c.args.from)) in
    let there : child_at p at.node (c.loop-c.clause + 1) ≡ Some c.in-Some.c = sym (c.behind.ensures.child at.node) ∙ sym c.child_at.ensures.child ∙ c.in-Some.is in
    let other : is_default (form_of p c.in-Some.c) ≡ false = search rules in
    let row = subst P (sym c.ask.ensures)
    (λ values w.
    ap (λ part. Asks (inside at part) w (case_end p at c.loop-c.clause v)) (c.inner.ensures ∙ ap (inner at) c.child.ensures)
    ∙ sym (case_found p at v c.loop-c.clause c.in-Some.c w there other)
    ∙ c.loop-c.invariant w) in
    record { row = row }
