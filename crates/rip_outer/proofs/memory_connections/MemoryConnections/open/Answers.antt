use Rattle.std.proofs.Common.{◌≡◌, ◌<◌, refl, ap, sym, subst}
use Rattle.rip_outer.specs.MemoryDoor.{ConnectionsState}
use Rattle.rip_outer.proofs.Doors.{connections_open}
use Rattle.rip_outer.proofs.memory_connections.MemoryConnections.open.Goals as goal

pub invariant_of-self : goal.invariant_of-self
invariant_of-self c =
    let i = c.self.inside in
    let some : 0 < i.room = subst (λ (s : ConnectionsState). 0 < s.room) (sym c.self.view_is) c.requires in
    connections_open i.sent.items c.push_reserved.new.self.items i.is_shut.items c.push_reserved-2.new.self.items i.shuts.items i.room _ _ _ _ _ _
    c.self.invariant some (rw c.new.ensures at c.push_reserved.ensures.items) c.push_reserved-2.ensures.items refl c.push_reserved.ensures.capacity c.push_reserved-2.ensures.capacity
