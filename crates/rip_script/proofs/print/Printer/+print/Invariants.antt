use Rattle.std.proofs.Common.{◌≡◌, ◌++◌, ◌+◌, ◌*◌, map, take}
use Rattle.std.specs.List.{join_with_byte}
use Rattle.rip_heap.specs.Arrays.{elements_at}
use Rattle.rip_heap.specs.World.{object_at}
use Rattle.rip_script.specs.Steps.{parts_left}
use Rattle.rip_script.specs.Values.{properties_of, property_text, value_text}
use Rattle.rip_script.proofs.print.Printer.+print.Given as goal

-- each call is one step further down in one level, or a level down
abbrev pub decreases-contents : goal.decreases-contents
decreases-contents l = 4 * l.levels + 3

abbrev pub decreases-elements : goal.decreases-elements
decreases-elements l = 4 * l.levels + 2

abbrev pub decreases-properties : goal.decreases-properties
decreases-properties l = 4 * l.levels + 2

abbrev pub decreases-value : goal.decreases-value
decreases-value l = 4 * l.levels + 1

abbrev pub decreases-object : goal.decreases-object
decreases-object l = 4 * l.levels

-- the elements so far are written
abbrev pub invariant-elements-loop-place : goal.invariant-elements-loop-place
invariant-elements-loop-place l = record {
  out : l.self.out ≡ l.initial.self.out ++ join_with_byte 44 (map (λ v. value_text l.heap l.program l.levels l.fn.self.around.items v) (take l.place (elements_at l.heap l.number)));
  around : l.self.around.items ≡ l.fn.self.around.items;
}

-- what is written and what is left of the properties are all of them
abbrev pub invariant-properties-loop-own : goal.invariant-properties-loop-own
invariant-properties-loop-own l = record {
  can : (goal.iterator-properties-loop-own).can_next l.own-iterator;
  finite : (goal.iterator-properties-loop-own).is_finite l.own-iterator;
  out : l.self.out ++ parts_left l.before (map (property_text l.heap.pool (λ v. value_text l.heap l.program l.levels l.fn.self.around.items v)) l.own-iterator)
      ≡ l.initial.self.out ++ join_with_byte 44 (map (property_text l.heap.pool (λ v. value_text l.heap l.program l.levels l.fn.self.around.items v)) (properties_of (object_at l.heap l.number)));
  around : l.self.around.items ≡ l.fn.self.around.items;
}
