use Rattle.std.proofs.Common.{arith, refl}
use Rattle.rip_heap_region.specs.Pages.{place_in}
use Rattle.rip_heap_region.proofs.PageLemmas.{set_call, still_pages}
use Rattle.rip_heap_region.proofs.pages.pages.Pages.set.Goals as goal

pub place_of-place-requires : goal.place_of-place-requires
place_of-place-requires c =
    (set_call c.self.inside.slots.items c.self.inside.starts.items c.self.inside.lens c.self.inside.room c.args.self.now c.args.row c.args.at
    (place_in c.self.inside.starts.items c.args.row c.args.at) c.self.invariant.laid c.self.view_is c.requires.within refl).0

pub index_mut-requires : goal.index_mut-requires
index_mut-requires c =
    let found = set_call c.self.inside.slots.items c.self.inside.starts.items c.self.inside.lens c.self.inside.room c.args.self.now c.args.row c.args.at
    c.place_of-place.result c.self.invariant.laid c.self.view_is c.requires.within c.place_of-place.ensures in
    omega (arith, found.1, c.self.inside.slots.ok)

pub invariant_of-self : goal.invariant_of-self
invariant_of-self c =
    let found = set_call c.self.inside.slots.items c.self.inside.starts.items c.self.inside.lens c.self.inside.room c.args.self.now c.args.row c.args.at
    c.place_of-place.result c.self.invariant.laid c.self.view_is c.requires.within c.place_of-place.ensures in
    still_pages c.self.inside.slots.items _ c.self.inside.starts.items c.self.inside.lens c.self.inside.filled c.self.inside.room _ _ c.self.invariant
    (found.4 c.args.slot)

pub returns : goal.returns
returns c =
    let found = set_call c.self.inside.slots.items c.self.inside.starts.items c.self.inside.lens c.self.inside.room c.args.self.now c.args.row c.args.at
    c.place_of-place.result c.self.invariant.laid c.self.view_is c.requires.within c.place_of-place.ensures in
    found.3 c.args.slot
