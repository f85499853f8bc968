use Rattle.std.proofs.Common.{◌≡◌, ◌-◌, ◌+◌, length, find}
use Rattle.rip_dom.specs.Order.{element_of_id, has_id}
use Rattle.rip_dom.specs.Way.{way_on}
use Rattle.rip_dom.proofs.dom.Dom.find_id.Given as goal

abbrev pub invariant-loop-i : goal.invariant-loop-i
invariant-loop-i l =
    (l._i-end ≡ length l.self.nodes + length l.self.nodes)
    × (find (has_id l.pool l.self l.id) (way_on l.self 0 (l._i-end - l._i) l.at) ≡ element_of_id l.pool l.self l.id)
