use Rattle.std.proofs.Common.{◌≡◌, length}
use Rattle.rip_dom.proofs.OpeningLemmas.{RoomLeft}
use Rattle.rip_dom.proofs.opening.has_room.Given as goal

abbrev pub invariant-loop-i : goal.invariant-loop-i
invariant-loop-i l = (l.i-end ≡ length l.page.nodes) × RoomLeft l.page.nodes l.i l.left l.limit
