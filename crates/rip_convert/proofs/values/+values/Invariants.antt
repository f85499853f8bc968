use Rattle.std.proofs.Common.{◌≡◌, drop}
use Rattle.rip_heap.specs.Growth.{Grows}
use Rattle.rip_convert.specs.Pieces.{elements_made, fields_made}
use Rattle.rip_convert.proofs.values.+values.Given as goal

-- what was done and what is left make up the whole
abbrev pub invariant-push_elements-loop-item : goal.invariant-push_elements-loop-item
invariant-push_elements-loop-item l = record {
  steps : elements_made l.array (drop l.item-index l.item-items) l.heap ≡ elements_made l.array l.item-items l.initial.heap;
  grows : Grows l.initial.heap l.heap;
}

abbrev pub invariant-put_fields-loop-field : goal.invariant-put_fields-loop-field
invariant-put_fields-loop-field l = record {
  steps : fields_made l.object (drop l.field-index l.field-items) l.heap ≡ fields_made l.object l.field-items l.initial.heap;
  grows : Grows l.initial.heap l.heap;
}
