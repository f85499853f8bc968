use Rattle.std.proofs.Common.{◌≡◌, ◌++◌, ◌∷◌, replicate}
use Rattle.rip_heap_region.specs.declared.pages.for_rows.Row.TheVariants.{Elements}
use Rattle.rip_heap_region.specs.Pages.{with_row}
use Rattle.rip_heap_region.specs.Segments.{blank_of}
use Rattle.rip_heap_region.proofs.segments.array.begin.Given as goal

abbrev pub invariant-loop : goal.invariant-loop
invariant-loop l = l.pages ≡ with_row Elements (l.fn.pages.elements ++ l.fn.first ∷ replicate l.counter (blank_of l.owner)) l.fn.pages
