use Rattle.std.proofs.Common.{◌≡◌, rules, ◌∙◌}
use Rattle.rip_data.specs.Datum.{trees_in}
use Rattle.rip_wire.proofs.PartLemmas.{no_call, other_call}
use Rattle.rip_wire.proofs.parts.read_call.Goals as goal

pub returns-in_err-call-clause-body : goal.returns-in_err-call-clause-body
returns-in_err-call-clause-body c = λ body. no_call _ (c.in_err-call.ensures.body (search rules))

pub returns-else-eq-clause-body : goal.returns-else-eq-clause-body
returns-else-eq-clause-body c =
    let other : c.as_slice.result.now ≡ c.args.text.now → ⊥ = search rules in
    λ body. other_call c.args.text.now c.as_slice.result.now c.in_ok-call.call.name (trees_in c.in_ok-call.call.args) c.in_ok-call.ensures.found (c.as_slice.ensures ∙ c.in-Ok.ensures) other
