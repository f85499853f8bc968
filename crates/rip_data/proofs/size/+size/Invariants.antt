use Rattle.std.proofs.Common.{◌≡◌, ◌+◌, ◌≤◌, drop, min, max}
use Rattle.rip_data.specs.Written.{elements_length, elements_nesting, fields_length, fields_nesting}
use Rattle.rip_data.proofs.size.+size.Given as goal

-- what was counted and what is left make up the whole
abbrev pub invariant-elements_size-loop-item : goal.invariant-elements_size-loop-item
invariant-elements_size-loop-item l =
    (min (l.length + elements_length (drop l.item-index l.item-items)) 18446744073709551615 ≡ min (elements_length l.item-items) 18446744073709551615)
    × (min (max l.depth (elements_nesting (drop l.item-index l.item-items))) 18446744073709551615 ≡ min (elements_nesting l.item-items) 18446744073709551615)
    × (l.length ≤ 18446744073709551615) × (l.depth ≤ 18446744073709551615)

abbrev pub invariant-fields_size-loop-field : goal.invariant-fields_size-loop-field
invariant-fields_size-loop-field l =
    (min (l.length + fields_length (drop l.field-index l.field-items)) 18446744073709551615 ≡ min (fields_length l.field-items) 18446744073709551615)
    × (min (max l.depth (fields_nesting (drop l.field-index l.field-items))) 18446744073709551615 ≡ min (fields_nesting l.field-items) 18446744073709551615)
    × (l.length ≤ 18446744073709551615) × (l.depth ≤ 18446744073709551615)
