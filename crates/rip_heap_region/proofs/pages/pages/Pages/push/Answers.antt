use Rattle.std.proofs.Common.{◌≡◌, ◌∙◌, ◌+◌, ◌<◌, ap, sym, arith, length, set, subst, vec_capacity}
use Rattle.rip_heap_region.specs.declared.pages.for_rows.ForRows.{ForRows}
use Rattle.rip_heap_region.specs.Pages.{ArePages, Paged, filled, rows_in}
use Rattle.rip_heap_region.proofs.RowLemmas.{filled-sized}
use Rattle.rip_heap_region.proofs.PageLemmas.{pages_known, pages_pushed, rows_pushed}
use Rattle.rip_heap_region.proofs.pages.pages.Pages.push.Goals as goal

pub make_room-requires-clause-known : goal.make_room-requires-clause-known
make_room-requires-clause-known c =
    pages_known (length c.self.inside.slots.items) c.self.inside.starts.items c.self.inside.lens c.args.row c.of-at.result c.self.invariant.laid c.of-at.ensures

pub invariant_of-self : goal.invariant_of-self
invariant_of-self c =
    let sized : filled c.args.self.now ≡ c.self.inside.filled =
    ap filled (sym c.self.view_is)
    ∙ filled-sized c.self.inside.slots.items c.self.inside.starts.items c.self.inside.lens c.self.inside.room
    ∙ sym c.self.invariant.counted in
    let below : c.self.inside.filled < c.self.inside.room = omega (arith, sized, c.requires.room, ap (λ (rows : Paged). rows.room) c.self.view_is) in
    subst
    (λ (lens : ForRows). ArePages (set c.make_room.new.slots.items c.place_of-place.result c.args.slot) c.make_room.new.starts.items lens (c.self.inside.filled + 1) c.self.inside.room
    (vec_capacity c.make_room.new.slots) (vec_capacity c.make_room.new.starts))
    (sym c.set.ensures)
    (pages_pushed c.self.inside.slots.items c.make_room.new.slots.items c.self.inside.starts.items c.make_room.new.starts.items c.self.inside.lens c.self.inside.filled c.self.inside.room
    (vec_capacity c.self.inside.slots) (vec_capacity c.self.inside.starts) (vec_capacity c.make_room.new.slots) (vec_capacity c.make_room.new.starts) c.args.row c.of-at.result
    c.place_of-place.result c.args.slot c.self.invariant c.of-at.ensures c.make_room.ensures.made below c.make_room.ensures.slots_room c.make_room.ensures.starts_room)

pub returns : goal.returns
returns c =
    ap (λ (lens : ForRows). rows_in (set c.make_room.new.slots.items c.place_of-place.result c.args.slot) c.make_room.new.starts.items lens c.self.inside.room) c.set.ensures
    ∙ rows_pushed c.self.inside.slots.items c.make_room.new.slots.items c.self.inside.starts.items c.make_room.new.starts.items c.self.inside.lens c.self.inside.room c.args.self.now
    c.args.row c.of-at.result c.place_of-place.result c.args.slot c.self.invariant.laid c.self.view_is c.of-at.ensures c.make_room.ensures.made c.place_of-place.ensures
