use Rattle.std.proofs.Common.{◌≡◌, rules, ◌∙◌}
use Rattle.rip_data.specs.Datum.{tree_of}
use Rattle.rip_log.proofs.PartLemmas.{other_text}
use Rattle.rip_log.proofs.parts.datum_in.Goals as goal

pub returns-clause-other : goal.returns-clause-other
returns-clause-other c =
    let other : c.as_slice.result.now ≡ c.args.word.now → ⊥ = search rules in
    λ _. other_text c.args.word.now c.as_slice.result.now _ (tree_of c.in-Ok-datum_of.datum) c.in-Ok.ensures.ok c.in-Ok-datum_of.ensures.data (c.as_slice.ensures ∙ c.in_ok-written.ensures.text) other
