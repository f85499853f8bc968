-- What is taken back where memory is wanting: all texts that were added since a world stood.
use Rattle.std.specs.Prelude.{◌≡◌}
use Rattle.rip_heap.specs.Marks.{CanBeCut, cut_world, mark_of}
use Rattle.rip_heap.specs.World.{World}

-- what is left of this world, where the texts that were added since world w stood are taken back, is world w
abbrev pub CutsTo : World → World → Type 0
CutsTo w x = CanBeCut (mark_of w) x × (cut_world (mark_of w) x ≡ w)
