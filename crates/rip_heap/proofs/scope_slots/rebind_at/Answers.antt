use Rattle.std.proofs.Common.{◌≡◌, ◌∙◌, ◌<◌, ◌+◌, not, sym, ap, arith, length, slice_get}
use Rattle.std.specs.Prelude.{is_some, slice_set}
use Rattle.rip_heap.specs.ScopeSlots.{binding_in, binding_of, scope_head_in, scopes_of}
use Rattle.rip_heap.proofs.ScopeSlotLemmas.{found, part_within, scopes_bound, value_found, value_past}
use Rattle.rip_heap.proofs.scope_slots.rebind_at.Goals as goal

pub overflow_add-head : goal.overflow_add-head
overflow_add-head c =
    let below : c.args.scope < length c.args.pages.now.scopes = omega arith in
    let here = found c.args.pages.now c.args.scope c.scope_head_in-head.result below (c.scope_head_in-head.ensures ∙ ap scope_head_in c.get.ensures) in
    omega (arith, part_within c.args.pages.now c.args.scope c.scope_head_in-head.result c.requires.scopes here)

pub returns-then-place-head-clause-told : goal.returns-then-place-head-clause-told
returns-then-place-head-clause-told c =
    let below : c.args.scope < length c.args.pages.now.scopes = omega arith in
    let here = found c.args.pages.now c.args.scope c.scope_head_in-head.result below (c.scope_head_in-head.ensures ∙ ap scope_head_in c.get.ensures) in
    ap is_some (value_past c.args.pages.now c.args.scope c.args.place c.scope_head_in-head.result c.requires.scopes here c.if-place-head.true)

pub get-requires-2 : goal.get-requires-2
get-requires-2 c =
    let below : c.args.scope < length c.args.pages.now.scopes = omega arith in
    let here = found c.args.pages.now c.args.scope c.scope_head_in-head.result below (c.scope_head_in-head.ensures ∙ ap scope_head_in c.get.ensures) in
    record { within = omega (arith, part_within c.args.pages.now c.args.scope c.scope_head_in-head.result c.requires.scopes here) }

pub returns-then-is_none-clause-told : goal.returns-then-is_none-clause-told
returns-then-is_none-clause-told c =
    let below : c.args.scope < length c.args.pages.now.scopes = omega arith in
    let here = found c.args.pages.now c.args.scope c.scope_head_in-head.result below (c.scope_head_in-head.ensures ∙ ap scope_head_in c.get.ensures) in
    let value : c.binding_in.result ≡ binding_of (slice_get (scopes_of c.args.pages.now) c.args.scope) c.args.place =
    c.binding_in.ensures ∙ ap binding_in c.get-2.ensures ∙ value_found c.args.pages.now c.args.scope c.args.place c.scope_head_in-head.result c.requires.scopes here c.if-place-head.false in
    sym (c.is_none.ensures ∙ ap not c.if-is_none.true) ∙ ap is_some value

pub returns-clause-told : goal.returns-clause-told
returns-clause-told c =
    let below : c.args.scope < length c.args.pages.now.scopes = omega arith in
    let here = found c.args.pages.now c.args.scope c.scope_head_in-head.result below (c.scope_head_in-head.ensures ∙ ap scope_head_in c.get.ensures) in
    let value : c.binding_in.result ≡ binding_of (slice_get (scopes_of c.args.pages.now) c.args.scope) c.args.place =
    c.binding_in.ensures ∙ ap binding_in c.get-2.ensures ∙ value_found c.args.pages.now c.args.scope c.args.place c.scope_head_in-head.result c.requires.scopes here c.if-place-head.false in
    sym (c.is_none.ensures ∙ ap not c.if-is_none.false) ∙ ap is_some value

pub returns-clause-scopes : goal.returns-clause-scopes
returns-clause-scopes c = λ _.
    let below : c.args.scope < length c.args.pages.now.scopes = omega arith in
    let here = found c.args.pages.now c.args.scope c.scope_head_in-head.result below (c.scope_head_in-head.ensures ∙ ap scope_head_in c.get.ensures) in
    ap scopes_of c.set.ensures
    ∙ ap (λ slot. scopes_of (record c.args.pages.now { bindings = slice_set c.args.pages.now.bindings (c.scope_head_in-head.result.start + c.args.place) slot })) c.slot_of_value.ensures
    ∙ scopes_bound c.args.pages.now c.args.scope c.args.place c.scope_head_in-head.result c.args.v c.requires.scopes here c.if-place-head.false
