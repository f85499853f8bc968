use Rattle.std.proofs.Common.{◌∙◌, sym, ap, subst, List, ℕ, drop, unwrap_or}
use Rattle.rip_http.specs.Stream.{IsNext, allowed_by}
use Rattle.rip_http.specs.declared.request.Method.TheVariants.{Get}
use Rattle.rip_http.proofs.StageLemmas.{refused_front, unrefused_front}
use Rattle.rip_http.proofs.conn.Conn.allowed.Goals as goal

pub returns-in-Some : goal.returns-in-Some
returns-in-Some c = λ next is.
    let bytes = drop c.self.inside.start c.self.inside.bytes.items in
    let P : List ℕ → Type 0 = λ x. IsNext x next in
    let front = refused_front bytes c.self.inside.stage c.in-Some.refused next c.self.invariant.stage_is (sym c.refused.ensures ∙ c.in-Some.is) (subst P (sym c.self.view_is) is) in
    c.unwrap_or.ensures ∙ ap (λ o. unwrap_or o Get) c.allowed.ensures ∙ sym front.0

pub returns-in-None : goal.returns-in-None
returns-in-None c = λ next is.
    let bytes = drop c.self.inside.start c.self.inside.bytes.items in
    let P : List ℕ → Type 0 = λ x. IsNext x next in
    let front = unrefused_front bytes c.self.inside.stage next c.self.invariant.stage_is (sym c.refused.ensures ∙ c.in-None.is) (subst P (sym c.self.view_is) is) in
    sym front.0
