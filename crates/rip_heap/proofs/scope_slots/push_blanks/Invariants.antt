use Rattle.std.proofs.Common.{◌≡◌, ◌++◌, replicate}
use Rattle.rip_heap_region.specs.declared.pages.for_rows.Row.TheVariants.{Bindings}
use Rattle.rip_heap_region.specs.Pages.{no_slot, with_row}
use Rattle.rip_heap.proofs.scope_slots.push_blanks.Given as goal

-- so many slots were put behind the bindings so far
abbrev pub invariant-loop : goal.invariant-loop
invariant-loop l =
    l.pages ≡ with_row Bindings (l.fn.pages.bindings ++ replicate l.counter no_slot) l.fn.pages
