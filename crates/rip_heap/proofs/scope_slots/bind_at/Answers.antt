use Rattle.std.proofs.Common.{◌∙◌, ◌<◌, ◌+◌, ap, arith, length}
use Rattle.std.specs.Prelude.{slice_set}
use Rattle.rip_heap.specs.ScopeSlots.{scope_head_in, scopes_of}
use Rattle.rip_heap.proofs.ScopeSlotLemmas.{found, part_within, scopes_bound, scopes_unbound}
use Rattle.rip_heap.proofs.scope_slots.bind_at.Goals as goal

pub overflow_add-head : goal.overflow_add-head
overflow_add-head c =
    let below : c.args.scope < length c.args.pages.now.scopes = omega arith in
    let here = found c.args.pages.now c.args.scope c.scope_head_in-head.result below (c.scope_head_in-head.ensures ∙ ap scope_head_in c.get.ensures) in
    omega (arith, part_within c.args.pages.now c.args.scope c.scope_head_in-head.result c.requires.scopes here)

pub set-requires : goal.set-requires
set-requires c =
    let below : c.args.scope < length c.args.pages.now.scopes = omega arith in
    let here = found c.args.pages.now c.args.scope c.scope_head_in-head.result below (c.scope_head_in-head.ensures ∙ ap scope_head_in c.get.ensures) in
    record { within = omega (arith, part_within c.args.pages.now c.args.scope c.scope_head_in-head.result c.requires.scopes here) }

pub returns-then-place-head-clause-scopes : goal.returns-then-place-head-clause-scopes
returns-then-place-head-clause-scopes c =
    let below : c.args.scope < length c.args.pages.now.scopes = omega arith in
    let here = found c.args.pages.now c.args.scope c.scope_head_in-head.result below (c.scope_head_in-head.ensures ∙ ap scope_head_in c.get.ensures) in
    ap scopes_of c.set.ensures
    ∙ ap (λ slot. scopes_of (record c.args.pages.now { bindings = slice_set c.args.pages.now.bindings (c.scope_head_in-head.result.start + c.args.place) slot })) c.slot_of_value.ensures
    ∙ scopes_bound c.args.pages.now c.args.scope c.args.place c.scope_head_in-head.result c.args.v c.requires.scopes here c.if-place-head.true

pub returns-else-place-head-clause-scopes : goal.returns-else-place-head-clause-scopes
returns-else-place-head-clause-scopes c =
    let below : c.args.scope < length c.args.pages.now.scopes = omega arith in
    let here = found c.args.pages.now c.args.scope c.scope_head_in-head.result below (c.scope_head_in-head.ensures ∙ ap scope_head_in c.get.ensures) in
    scopes_unbound c.args.pages.now c.args.scope c.args.place c.scope_head_in-head.result c.args.v c.requires.scopes here c.if-place-head.false
