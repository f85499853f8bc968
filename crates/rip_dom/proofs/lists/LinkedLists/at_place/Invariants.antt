use Rattle.std.proofs.Common.{◌-◌}
use Rattle.std.specs.Prelude.{slice_get}
use Rattle.rip_dom.specs.Lists.{list_at}
use Rattle.rip_dom.specs.Linked.{lists_of}
use Rattle.rip_dom.proofs.WalkLemmas.{Rests}
use Rattle.rip_dom.proofs.lists.LinkedLists.at_place.Given as goal

abbrev pub invariant-loop-i : goal.invariant-loop-i
invariant-loop-i l =
    Rests l.self-inside.ends.items l.self-inside.items.items l.list l.at (l.place - l._i)
    (slice_get (list_at (lists_of l.self-inside.ends.items l.self-inside.items.items) l.list) l.place)
