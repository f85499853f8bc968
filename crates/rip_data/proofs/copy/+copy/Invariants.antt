use Rattle.std.proofs.Common.{◌≡◌, take, map}
use Rattle.rip_data.specs.Datum.{field_of, tree_of}
use Rattle.rip_data.proofs.copy.+copy.Given as goal

-- the copies are those of the elements so far
abbrev pub invariant-copy_elements-loop-item : goal.invariant-copy_elements-loop-item
invariant-copy_elements-loop-item l = map tree_of l.made.items ≡ map tree_of (take l.item-index l.item-items)

-- the copies are those of the fields so far
abbrev pub invariant-copy_fields-loop-field : goal.invariant-copy_fields-loop-field
invariant-copy_fields-loop-field l = map field_of l.made.items ≡ map field_of (take l.field-index l.field-items)
