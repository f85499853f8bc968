use Rattle.std.proofs.Common.{◌∙◌, sym, subst, List, ℕ, drop}
use Rattle.rip_http.specs.Stream.{IsNext}
use Rattle.rip_http.proofs.StageLemmas.{refused_front, unrefused_front}
use Rattle.rip_http.proofs.conn.Conn.bare.Goals as goal

pub returns-in-Some : goal.returns-in-Some
returns-in-Some c = λ next is.
    let bytes = drop c.self.inside.start c.self.inside.bytes.items in
    let P : List ℕ → Type 0 = λ x. IsNext x next in
    let front = refused_front bytes c.self.inside.stage c.in-Some.refused next c.self.invariant.stage_is (sym c.refused.ensures ∙ c.in-Some.is) (subst P (sym c.self.view_is) is) in
    sym front.1

pub returns-in-None : goal.returns-in-None
returns-in-None c = λ next is.
    let bytes = drop c.self.inside.start c.self.inside.bytes.items in
    let P : List ℕ → Type 0 = λ x. IsNext x next in
    let front = unrefused_front bytes c.self.inside.stage next c.self.invariant.stage_is (sym c.refused.ensures ∙ c.in-None.is) (subst P (sym c.self.view_is) is) in
    sym front.1
