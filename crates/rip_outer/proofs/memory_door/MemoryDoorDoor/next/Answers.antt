use Rattle.std.proofs.Common.{◌≡◌, ◌<◌, ◌∷◌, [], Some, All, length, map, ap, ◌∙◌, sym, subst}
use Rattle.rip_outer.specs.Connections.{knocked, Telling, Goes, telling, IsShut, IsAllowedAfter}
use Rattle.rip_outer.specs.MemoryDoor.{DoorState, hushed_by}
use Rattle.rip_outer.specs.Calls.{failures_left}
use Rattle.rip_outer.specs.declared.listed.Calls.{Calls}
use Rattle.rip_outer.specs.declared.connections.TraceKnock.TheVariants.{Opened}
use Rattle.rip_outer.proofs.Doors.{door_tells, door_fails, door_closes, tells_allowed, tells_goes, tells_opens, tells_stays}
use Rattle.rip_outer.proofs.memory_door.MemoryDoorDoor.next.Goals as goal

pub invariant_of-self : goal.invariant_of-self
invariant_of-self c =
    let i = c.self.inside in
    door_fails i.told.items i.left.items i.busy.items c.push_reserved.new.self.items i.connections i.next_calls c.fails.new.self _ _ _ c.args.busy
    c.self.invariant c.push_reserved.ensures.items (c.fails.ensures.fewer c.if-fails.true) c.push_reserved.ensures.capacity

pub invariant_of-self-in_default : goal.invariant_of-self-in_default
invariant_of-self-in_default c =
    let i = c.self.inside in
    door_closes i.told.items i.left.items c.pop_front.new.self.items i.busy.items i.connections i.next_calls c.fails.new.self _ _
    c.self.invariant c.in_default.ensures.items c.fails.ensures.later

pub invariant_of-self-2 : goal.invariant_of-self-2
invariant_of-self-2 c =
    let i = c.self.inside in
    door_tells i.told.items c.push_reserved-3.new.self.items i.left.items c.pop_front.new.self.items i.busy.items c.push_reserved-2.new.self.items i.connections c.note.new.self i.next_calls c.fails.new.self _ _ _ _ c.in-Some.knock c.args.busy
    c.self.invariant c.in-Some.ensures.items (rw c.hush-knock.ensures at c.push_reserved-3.ensures.items) c.push_reserved-2.ensures.items (rw c.hush-knock.ensures at c.note.ensures) c.fails.ensures.later c.push_reserved-3.ensures.capacity c.push_reserved-2.ensures.capacity

pub returns-clause-allowed : goal.returns-clause-allowed
returns-clause-allowed c =
    let i = c.self.inside in
    let ks = telling c.answer_of-answer.result c.answer_of-answer.new.room in
    let all = tells_allowed i.told.items i.left.items c.pop_front.new.self.items i.busy.items i.connections i.next_calls _ _ c.in-Some.knock ks c.self.invariant c.in-Some.ensures.items (rw c.hush-knock.ensures at c.answer_of-answer.ensures.told) in
    subst (λ (s : DoorState). All (IsAllowedAfter (map knocked s.told) s.shuts) ks) c.self.view_is all

pub returns-clause-told : goal.returns-clause-told
returns-clause-told c =
    let i = c.self.inside in
    let ks = telling c.answer_of-answer.result c.answer_of-answer.new.room in
    let goes = tells_goes i.told.items c.push_reserved-3.new.self.items i.left.items c.pop_front.new.self.items ks i.connections c.note.new.self c.in-Some.knock c.in-Some.ensures.items (rw c.hush-knock.ensures at c.push_reserved-3.ensures.items) (rw c.hush-knock.ensures at c.note.ensures) (rw c.hush-knock.ensures at c.answer_of-answer.ensures.told) in
    subst (λ (s : DoorState). Goes (record { told = Some (map knocked s.told); left = Some s.left }) (record { told = Some (map knocked c.push_reserved-3.new.self.items); left = Some (map (hushed_by c.note.new.self.is_shut) c.pop_front.new.self.items) }) ks) c.self.view_is goes

pub returns-clause-opens : goal.returns-clause-opens
returns-clause-opens c = λ d e.
    let i = c.self.inside in
    let one : telling c.answer_of-answer.result c.answer_of-answer.new.room ≡ Opened d ∷ [] = ap (λ k. telling k c.answer_of-answer.new.room) e in
    let told : hushed_by i.connections.is_shut c.in-Some.knock ≡ Opened d = cc (c.hush-knock.ensures, c.answer_of-answer.ensures.told, one) in
    tells_opens i.told.items i.left.items c.pop_front.new.self.items i.busy.items i.connections c.note.new.self i.next_calls _ _ d c.in-Some.knock c.self.invariant c.in-Some.ensures.items (rw c.hush-knock.ensures at c.note.ensures) told

pub returns-clause-stays : goal.returns-clause-stays
returns-clause-stays c = λ d h.
    let i = c.self.inside in
    let was = subst (λ (s : DoorState). (d < length s.sent) × ¬ IsShut s.shuts d) (sym c.self.view_is) h in
    tells_stays i.connections c.note.new.self d c.hush-knock.result c.note.ensures was
