use Rattle.std.proofs.Common.{◌≡◌, map, rules, ◌∙◌}
use Rattle.rip_wire.specs.Items.{reported_of}
use Rattle.rip_wire.proofs.PartLemmas.{other_items}
use Rattle.rip_wire.proofs.parts.read_item_list.Goals as goal

pub returns-else-eq-clause-body : goal.returns-else-eq-clause-body
returns-else-eq-clause-body c =
    let other : c.as_slice.result.now ≡ c.args.text.now → ⊥ = search rules in
    λ body. other_items c.args.text.now c.as_slice.result.now (map reported_of c.in_ok-items.items) c.in_ok-items.ensures.found (c.as_slice.ensures ∙ c.in-Ok.ensures) other
