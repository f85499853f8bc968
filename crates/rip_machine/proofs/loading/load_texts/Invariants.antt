use Rattle.std.proofs.Common.{◌≡◌, ℕ, ◌<◌, get_or, map}
use Rattle.std.specs.List.{range_with_len}
use Rattle.rip_base.specs.declared.value.Span.{Span}
use Rattle.rip_heap.specs.Growth.{Grows}
use Rattle.rip_heap.specs.World.{World}
use Rattle.rip_tree.specs.Branches.{node_of}
use Rattle.rip_machine.specs.Back.{CutsTo}
use Rattle.rip_machine.specs.Loading.{StandsIfAny, form_text, span_of}
use Rattle.rip_eval_language.specs.Reading.{form_in}
use Rattle.rip_machine.proofs.Loads.{loaded_before}
use Rattle.rip_machine.proofs.loading.load_texts.Given as goal

-- the nodes so far have their spans, what they put in stands behind all other texts, and each of their texts stands at its span
abbrev pub invariant-loop-id : goal.invariant-loop-id
invariant-loop-id l = record {
  spans : l.spans.items ≡ map (span_of l.program l.fn.heap) (range_with_len 0 l.id);
  loaded : l.heap ≡ loaded_before l.program l.id l.fn.heap;
  stand : (k : ℕ) (d : Span) → k < l.id → StandsIfAny l.heap.pool (form_text l.program.grove.units (form_in (node_of l.program.grove.branches k))) (get_or l.spans.items k d);
  back : (w : World) → CutsTo w l.fn.heap → CutsTo w l.heap;
  cells : l.heap.cells ≡ l.fn.heap.cells;
  grows : Grows l.fn.heap l.heap;
}
