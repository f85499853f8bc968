use Rattle.std.proofs.Common.{◌≡◌, ◌∙◌, sym, eqb, Some, None}
use Rattle.std.specs.List.{position}
use Rattle.rip_http.proofs.TargetLemmas.{front_at, front_whole}
use Rattle.rip_http.proofs.target.path_of.Goals as goal

pub returns-in-Some : goal.returns-in-Some
returns-in-Some c =
    let found : position (λ b. eqb b 63) c.args.target.now ≡ Some c.in-Some.end = sym c.query_start.ensures.value ∙ c.in-Some.is in
    front_at (λ b. eqb b 63) c.args.target.now c.in-Some.end found

pub returns-in-None : goal.returns-in-None
returns-in-None c =
    let found : position (λ b. eqb b 63) c.args.target.now ≡ None = sym c.query_start.ensures.value ∙ c.in-None.is in
    front_whole (λ b. eqb b 63) c.args.target.now found
