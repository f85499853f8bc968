use Rattle.std.proofs.Common.{◌≡◌, ◌<◌, ◌+◌, get_or, length, false, arith, sym, subst}
use Rattle.rip_outer.specs.MemoryDoor.{ConnectionsState}
use Rattle.rip_outer.proofs.Doors.{connections_shut, room_to_shut}
use Rattle.rip_outer.proofs.memory_connections.MemoryConnections.shut.Goals as goal

pub push_reserved-requires : goal.push_reserved-requires
push_reserved-requires c =
    let i = c.self.inside in
    let within : c.args.c < length i.sent.items = subst (λ (s : ConnectionsState). c.args.c < length s.sent) (sym c.self.view_is) c.requires.within in
    let here : get_or i.is_shut.items c.args.c false ≡ false = subst (λ (s : ConnectionsState). get_or s.is_shut c.args.c false ≡ false) (sym c.self.view_is) c.requires.not_shut in
    let free = room_to_shut i.sent.items i.is_shut.items i.shuts.items i.room _ _ _ c.args.c c.self.invariant within here in
    omega (arith, free, i.shuts.ok.0)

pub invariant_of-self : goal.invariant_of-self
invariant_of-self c =
    let i = c.self.inside in
    let within : c.args.c < length i.sent.items = subst (λ (s : ConnectionsState). c.args.c < length s.sent) (sym c.self.view_is) c.requires.within in
    let here : get_or i.is_shut.items c.args.c false ≡ false = subst (λ (s : ConnectionsState). get_or s.is_shut c.args.c false ≡ false) (sym c.self.view_is) c.requires.not_shut in
    connections_shut i.sent.items i.is_shut.items i.shuts.items c.push_reserved.new.self.items i.room _ _ _ _ c.args.c c.args.knocks c.self.invariant within here c.push_reserved.ensures.items c.push_reserved.ensures.capacity
