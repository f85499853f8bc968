use Rattle.std.proofs.Common.{◌≡◌, ◌-◌, length}
use Rattle.std.specs.List.{list_any}
use Rattle.rip_dom.specs.Lists.{list_at}
use Rattle.rip_dom.specs.Linked.{walk, lists_of}
use Rattle.rip_dom.specs.Walks.{is_other_element}
use Rattle.rip_dom.proofs.lists.LinkedLists.has_other_element.Given as goal

abbrev pub invariant-loop-i : goal.invariant-loop-i
invariant-loop-i l =
    (l._i-end ≡ length l.self-inside.items.items)
    × (list_any (is_other_element l.records.items l.child l.old) (walk (l._i-end - l._i) l.self-inside.items.items l.at)
    ≡ list_any (is_other_element l.records.items l.child l.old) (list_at (lists_of l.self-inside.ends.items l.self-inside.items.items) l.list))
