use Rattle.std.proofs.Common.{rules, ◌≡◌, ◌∙◌, ◌+◌, ◌<◌, ◌≤◌, None, Some, ap, arith, refl, slice_get, sym}
use Rattle.std.specs.Prelude.{is_some}
use Rattle.rip_heap.specs.declared.heap.HeapParts.{HeapParts}
use Rattle.rip_heap.specs.Objects.{put}
use Rattle.rip_heap.specs.World.{World, cost_of_property, paid}
use Rattle.rip_heap.proofs.PlaceLemmas.{charged, place_in, put_makes, too_many, uncharged, with_made, world_of}
use Rattle.rip_heap.proofs.heap.Heap.put.Goals as goal

pub returns-in_err-room_for-clause-made : goal.returns-in_err-room_for-clause-made
returns-in_err-room_for-clause-made c =
    let w = c.args.self.now in
    let name = c.args.name in
    let at = c.in-Some.at in
    let whole = ap (λ (parts : HeapParts). world_of c.self.inside.limit c.self.inside.used parts.named) c.deref_mut.ensures.value ∙ c.self.view_is in
    let none = ap (λ (x : World). is_some (place_in x.pool name (slice_get x.objects at))) (sym whole) ∙ sym c.replace.ensures.found ∙ c.if-replace.false in
    let makes = put_makes w c.args.object at name c.args.v c.in-Some.ensures.0 c.in-Some.ensures.2 c.in-Some.ensures.1 none in
    let same = ap (world_of c.self.inside.limit c.self.inside.used) (c.replace.ensures.kept c.if-replace.false) ∙ whole in
    let full : w.limit < w.cells + 1 = omega (arith, too_many (c.self.inside.used + 1) c.self.inside.limit c.in_err-room_for.ensures.room.1, ap (λ (x : World). x.cells) c.self.view_is, ap (λ (x : World). x.limit) c.self.view_is) in
    let step : put w c.args.object name c.args.v ≡ None = makes ∙ uncharged w (with_made at name c.args.v) full in
    search rules

pub invariant_of-self-3 : goal.invariant_of-self-3
invariant_of-self-3 c =
    let kept = c.replace.ensures.kept c.if-replace.false in
    search rules

pub returns-clause-made : goal.returns-clause-made
returns-clause-made c =
    let w = c.args.self.now in
    let name = c.args.name in
    let at = c.in-Some.at in
    let limit = c.self.inside.limit in
    let used = c.self.inside.used in
    let whole = ap (λ (parts : HeapParts). world_of limit used parts.named) c.deref_mut.ensures.value ∙ c.self.view_is in
    let none = ap (λ (x : World). is_some (place_in x.pool name (slice_get x.objects at))) (sym whole) ∙ sym c.replace.ensures.found ∙ c.if-replace.false in
    let makes = put_makes w c.args.object at name c.args.v c.in-Some.ensures.0 c.in-Some.ensures.2 c.in-Some.ensures.1 none in
    let room : w.cells + 1 ≤ w.limit = omega (arith, c.in_ok-room_for.ensures.room.0 refl, ap (λ (x : World). x.cells) c.self.view_is, ap (λ (x : World). x.limit) c.self.view_is) in
    let again = ap (λ (parts : HeapParts). world_of limit used parts.named) c.deref_mut-2.ensures.value ∙ ap (world_of limit used) (c.replace.ensures.kept c.if-replace.false) ∙ whole in
    makes
    ∙ charged w (with_made at name c.args.v) room
    ∙ sym (ap (λ (x : World). Some x) (ap (world_of limit (used + 1)) c.add_property.ensures.edited ∙ ap (λ x. with_made at name c.args.v (paid cost_of_property x)) again))
