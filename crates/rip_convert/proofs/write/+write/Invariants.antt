use Rattle.std.proofs.Common.{◌≡◌, ◌≤◌, ◌+◌, ◌*◌, ◌==◌, not, false, drop}
use Rattle.serde_json.specs.Written.{items_text, members_text}
use Rattle.rip_heap.specs.Arrays.{elements_at}
use Rattle.rip_convert.specs.Written.{added, elements_data, members_at, value_data}
use Rattle.rip_convert.proofs.write.+write.Given as goal

abbrev pub decreases-write_value : goal.decreases-write_value
decreases-write_value l = 4 * l.levels

abbrev pub decreases-write_parts : goal.decreases-write_parts
decreases-write_parts l = 4 * l.levels + 3

abbrev pub decreases-write_elements : goal.decreases-write_elements
decreases-write_elements l = 4 * l.levels + 2

abbrev pub decreases-write_fields : goal.decreases-write_fields
decreases-write_fields l = 4 * l.levels + 2

abbrev pub decreases-write_field : goal.decreases-write_field
decreases-write_field l = 4 * l.levels + 1

-- what is there and what is left make up the whole
abbrev pub invariant-write_elements-loop-place : goal.invariant-write_elements-loop-place
invariant-write_elements-loop-place l = record {
  text : added l.line (items_text (not (l.place == 0)) (elements_data (value_data l.levels l.heap) (drop l.place (elements_at l.heap l.array))))
      ≡ added l.initial.line (items_text false (elements_data (value_data l.levels l.heap) (elements_at l.heap l.array)));
  fields : l.fields ≡ l.initial.fields;
}

abbrev pub invariant-write_fields-loop-i : goal.invariant-write_fields-loop-i
invariant-write_fields-loop-i l = record {
  text : added l.line (members_text (not (l.i == l.base)) (members_at l.heap.pool (value_data l.levels l.heap) l.fields.properties (drop l.i l.fields.places)))
      ≡ added l.initial.line (members_text false (members_at l.heap.pool (value_data l.levels l.heap) l.fields.properties (drop l.base l.fields.places)));
  fields : l.fields ≡ l.initial.fields;
  from : l.base ≤ l.i;
}
