use Rattle.std.proofs.Common.{◌≡◌, ap, ◌∙◌, arith, length}
use Rattle.rip_manifest.proofs.JsonLemmas.{items_len-array}
use Rattle.rip_manifest.proofs.functions.declared.Goals as goal
use Rattle.rip_manifest.proofs.functions.declared.Goals.{in_default-via-then-as_slice-lt2, in_default-via-else-as_slice-lt2+else-this-lt3}

pub returns-in_default-clause-none : goal.returns-in_default-clause-none
returns-in_default-clause-none c = λ function h.
    let two : length c.as_slice.result.now ≡ 2 = ap length c.as_slice.ensures.value ∙ items_len-array _ _ _ c.in_ok-as_array.ensures h.pair in
    elim c.in_default.branch [
      | in_default-via-then-as_slice-lt2 w ↦ grind (arith, two)
      | in_default-via-else-as_slice-lt2+else-this-lt3 w ↦ grind (arith, two)
    ]
