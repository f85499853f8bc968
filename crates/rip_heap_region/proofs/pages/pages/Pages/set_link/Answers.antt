use Rattle.std.proofs.Common.{◌≡◌, ◌∙◌, ap, arith, refl}
use Rattle.std.specs.Prelude.{slice_set}
use Rattle.std.proofs.lemmas.List.{get_or_read}
use Rattle.rip_heap_region.specs.declared.pages.slot.Slot.{Slot}
use Rattle.rip_heap_region.specs.Pages.{no_slot, place_in, row_of, slot_at, with_row}
use Rattle.rip_heap_region.proofs.PageLemmas.{set_call, still_pages}
use Rattle.rip_heap_region.proofs.pages.pages.Pages.set_link.Goals as goal

pub place_of-place-requires : goal.place_of-place-requires
place_of-place-requires c =
    (set_call c.self.inside.slots.items c.self.inside.starts.items c.self.inside.lens c.self.inside.room c.args.self.now c.args.row c.args.at
    (place_in c.self.inside.starts.items c.args.row c.args.at) c.self.invariant.laid c.self.view_is c.requires.within refl).0

pub index_mut-requires : goal.index_mut-requires
index_mut-requires c =
    let found = set_call c.self.inside.slots.items c.self.inside.starts.items c.self.inside.lens c.self.inside.room c.args.self.now c.args.row c.args.at
    c.place_of-place.result c.self.invariant.laid c.self.view_is c.requires.within c.place_of-place.ensures in
    omega (arith, found.1, c.self.inside.slots.ok)

pub invariant_of-self : goal.invariant_of-self
invariant_of-self c =
    let found = set_call c.self.inside.slots.items c.self.inside.starts.items c.self.inside.lens c.self.inside.room c.args.self.now c.args.row c.args.at
    c.place_of-place.result c.self.invariant.laid c.self.view_is c.requires.within c.place_of-place.ensures in
    still_pages c.self.inside.slots.items _ c.self.inside.starts.items c.self.inside.lens c.self.inside.filled c.self.inside.room _ _ c.self.invariant
    (found.4 (record { value = c.index_mut.result.now.value; name = c.index_mut.result.now.name; next = c.index_mut.result.now.next; link = c.args.link }))

pub returns : goal.returns
returns c =
    let found = set_call c.self.inside.slots.items c.self.inside.starts.items c.self.inside.lens c.self.inside.room c.args.self.now c.args.row c.args.at
    c.place_of-place.result c.self.invariant.laid c.self.view_is c.requires.within c.place_of-place.ensures in
    let read : c.index_mut.result.now ≡ slot_at (row_of c.args.row c.args.self.now) c.args.at =
    get_or_read c.self.inside.slots.items c.place_of-place.result c.index_mut.result.now found.1 c.index_mut.ensures.value no_slot ∙ found.2 in
    found.3 (record { value = c.index_mut.result.now.value; name = c.index_mut.result.now.name; next = c.index_mut.result.now.next; link = c.args.link })
    ∙ ap (λ (s : Slot). with_row c.args.row (slice_set (row_of c.args.row c.args.self.now) c.args.at (record s { link = c.args.link })) c.args.self.now) read
