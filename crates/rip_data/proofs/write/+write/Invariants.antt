use Rattle.std.proofs.Common.{◌≡◌, ◌++◌, drop}
use Rattle.rip_data.specs.Written.{element_tokens, field_tokens}
use Rattle.rip_data.proofs.write.+write.Given as goal

-- what is written and what is left make up the whole
abbrev pub invariant-write_elements-loop-item : goal.invariant-write_elements-loop-item
invariant-write_elements-loop-item l =
    (l.out.before ≡ l.initial.out.before)
    × (l.out.tokens ++ element_tokens (drop l.item-index l.item-items) ≡ l.initial.out.tokens ++ element_tokens l.item-items)

abbrev pub invariant-write_fields-loop-field : goal.invariant-write_fields-loop-field
invariant-write_fields-loop-field l =
    (l.out.before ≡ l.initial.out.before)
    × (l.out.tokens ++ field_tokens (drop l.field-index l.field-items) ≡ l.initial.out.tokens ++ field_tokens l.field-items)
