use Rattle.std.proofs.Common.{◌∙◌, ◌<◌, ap, arith, length}
use Rattle.rip_heap.specs.ScopeSlots.{scope_head_in}
use Rattle.rip_heap.proofs.ScopeSlotLemmas.{found, count_found}
use Rattle.rip_heap.proofs.scope_slots.names_of.Goals as goal

pub returns : goal.returns
returns c =
    let below : c.args.scope < length c.args.pages.now.scopes = omega arith in
    let here = found c.args.pages.now c.args.scope c.scope_head_in.result below (c.scope_head_in.ensures ∙ ap scope_head_in c.get.ensures) in
    count_found c.args.pages.now c.args.scope c.scope_head_in.result c.requires.scopes here
