use Rattle.std.proofs.Common.{◌∙◌, ◌<◌, ap, arith, length}
use Rattle.rip_heap.specs.ScopeSlots.{binding_in, scope_head_in}
use Rattle.rip_heap.proofs.ScopeSlotLemmas.{found, part_within, value_found, value_past}
use Rattle.rip_heap.proofs.scope_slots.binding_at.Goals as goal

pub returns-then-place-head : goal.returns-then-place-head
returns-then-place-head c =
    let below : c.args.scope < length c.args.pages.now.scopes = omega arith in
    let here = found c.args.pages.now c.args.scope c.scope_head_in-head.result below (c.scope_head_in-head.ensures ∙ ap scope_head_in c.get.ensures) in
    value_past c.args.pages.now c.args.scope c.args.place c.scope_head_in-head.result c.requires.scopes here c.if-place-head.true

pub overflow_add-head : goal.overflow_add-head
overflow_add-head c =
    let below : c.args.scope < length c.args.pages.now.scopes = omega arith in
    let here = found c.args.pages.now c.args.scope c.scope_head_in-head.result below (c.scope_head_in-head.ensures ∙ ap scope_head_in c.get.ensures) in
    omega (arith, part_within c.args.pages.now c.args.scope c.scope_head_in-head.result c.requires.scopes here)

pub get-requires-2 : goal.get-requires-2
get-requires-2 c =
    let below : c.args.scope < length c.args.pages.now.scopes = omega arith in
    let here = found c.args.pages.now c.args.scope c.scope_head_in-head.result below (c.scope_head_in-head.ensures ∙ ap scope_head_in c.get.ensures) in
    record { within = omega (arith, part_within c.args.pages.now c.args.scope c.scope_head_in-head.result c.requires.scopes here) }

pub returns : goal.returns
returns c =
    let below : c.args.scope < length c.args.pages.now.scopes = omega arith in
    let here = found c.args.pages.now c.args.scope c.scope_head_in-head.result below (c.scope_head_in-head.ensures ∙ ap scope_head_in c.get.ensures) in
    c.binding_in.ensures
    ∙ ap binding_in c.get-2.ensures
    ∙ value_found c.args.pages.now c.args.scope c.args.place c.scope_head_in-head.result c.requires.scopes here c.if-place-head.false
