use Rattle.std.proofs.Common.{◌≡◌, ◌<◌, ◌+◌, ◌∷◌, ◌++◌, [], Some, length, map, get_or, false, arith, ap, ◌∙◌, sym, subst, set, true}
use Rattle.std.proofs.lemmas.Bool.{false_from_ne_true}
use Rattle.rip_outer.specs.Connections.{IsShut}
use Rattle.rip_outer.specs.MemoryDoor.{DoorState, ConnectionsState, hushed_by}
use Rattle.rip_outer.proofs.Telling.{all_shut}
use Rattle.rip_outer.proofs.Doors.{door_shuts, all_knocks, others_stay}
use Rattle.rip_outer.proofs.memory_door.MemoryDoorDoor.shut.Goals as goal

pub shut-requires-clause-not_shut : goal.shut-requires-clause-not_shut
shut-requires-clause-not_shut c =
    let i = c.self.inside in
    let unshut = subst (λ (s : DoorState). ¬ IsShut s.shuts c.args.c) (sym c.self.view_is) c.requires.1 in
    false_from_ne_true (get_or i.connections.is_shut c.args.c false) (λ e. unshut ((c.self.invariant.shut_ones c.args.c).1 e))

pub invariant_of-self : goal.invariant_of-self
invariant_of-self c =
    let i = c.self.inside in
    let within = subst (λ (s : DoorState). c.args.c < length s.sent) (sym c.self.view_is) c.requires.0 in
    door_shuts i.told.items i.left.items i.busy.items i.connections c.shut.new.self i.next_calls _ _ c.args.c c.len.result c.self.invariant within c.shut.ensures

pub returns-clause-left : goal.returns-clause-left
returns-clause-left c =
    let i = c.self.inside in
    let within : c.args.c < length i.connections.sent = subst (λ (s : DoorState). c.args.c < length s.sent) (sym c.self.view_is) c.requires.0 in
    let there : c.args.c < length i.connections.is_shut = omega (arith, c.self.invariant.marked) in
    let marks = ap (λ (s : ConnectionsState). map (hushed_by s.is_shut) i.left.items) c.shut.ensures in
    let all = all_shut i.connections.is_shut c.args.c i.left.items there in
    let left = ap (λ (s : DoorState). s.left) c.self.view_is in
    cc (marks, all, left)

pub returns-clause-shuts : goal.returns-clause-shuts
returns-clause-shuts c =
    let i = c.self.inside in
    let shuts = ap (λ (s : ConnectionsState). s.shuts) c.shut.ensures in
    let old = ap (λ (s : DoorState). s.shuts) c.self.view_is in
    let told = ap (λ (s : DoorState). s.told) c.self.view_is in
    let count = all_knocks c.args.self.now.told in
    let long = i.told.ok.0 in
    cc (shuts, old, told, count, long, c.len.ensures)

pub returns-clause-stays : goal.returns-clause-stays
returns-clause-stays c = λ d other h.
    let i = c.self.inside in
    let was = subst (λ (s : DoorState). (d < length s.sent) × ¬ IsShut s.shuts d) (sym c.self.view_is) h in
    subst (λ (s : ConnectionsState). (d < length s.sent) × ¬ IsShut s.shuts d) (sym c.shut.ensures) (was.0, others_stay i.connections.shuts c.args.c c.len.result d other was.1)
