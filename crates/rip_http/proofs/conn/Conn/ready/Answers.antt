use Rattle.std.proofs.Common.{◌≡◌, ◌∙◌, ℕ, ap, subst, List, drop, IsTrue}
use Rattle.std.specs.Bool.{OnTrue, OnFalse}
use Rattle.rip_http.specs.Stream.{IsNext, waits}
use Rattle.rip_http.proofs.StageLemmas.{ready_exactly}
use Rattle.rip_http.proofs.conn.Conn.ready.Goals as goal

pub returns : goal.returns
returns c =
    let same : c.unread.result.now ≡ c.args.self.now =
    c.unread.ensures ∙ ap (drop c.self.inside.start) c.as_slice.ensures.value ∙ c.self.view_is in
    let come = subst (λ (xs : List ℕ). OnTrue c.is_ready.result (¬ IsNext xs waits)) same c.is_ready.ensures.come in
    let unready = subst (λ (xs : List ℕ). OnFalse c.is_ready.result (IsNext xs waits)) same c.is_ready.ensures.waits in
    record { ready = ready_exactly c.args.self.now c.is_ready.result come unready; waits = unready }
