use Rattle.std.proofs.Common.{◌≡◌, ◌-◌, length}
use Rattle.std.specs.Prelude.{find}
use Rattle.rip_dom.specs.Lists.{list_at}
use Rattle.rip_dom.specs.Linked.{walk, lists_of}
use Rattle.rip_dom.specs.Names.{is_named}
use Rattle.rip_dom.proofs.lists.LinkedLists.find_named.Given as goal

abbrev pub invariant-loop-i : goal.invariant-loop-i
invariant-loop-i l =
    (l._i-end ≡ length l.self-inside.items.items)
    × (find (is_named l.pool l.pairs.items l.name) (walk (l._i-end - l._i) l.self-inside.items.items l.at)
    ≡ find (is_named l.pool l.pairs.items l.name) (list_at (lists_of l.self-inside.ends.items l.self-inside.items.items) l.list))
