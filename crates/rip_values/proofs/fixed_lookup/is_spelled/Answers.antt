use Rattle.std.proofs.Common.{◌∙◌, ◌==◌, ap}
use Rattle.std.specs.List.{list_all, zip}
use Rattle.rip_values.proofs.FixedLemmas.{pointwise-zip}
use Rattle.rip_values.proofs.fixed_lookup.is_spelled.Goals as goal

pub returns-then-spelling-text : goal.returns-then-spelling-text
returns-then-spelling-text c =
    c.are_alike.ensures
    ∙ ap (λ bytes. list_all (λ p. p.0 == p.1) (zip bytes c.args.text.now)) c.as_bytes.ensures.value
    ∙ pointwise-zip c.args.spelling.now c.args.text.now c.if-spelling-text.true
