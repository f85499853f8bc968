use Rattle.std.proofs.Common.{◌∙◌, arith, refl}
use Rattle.std.proofs.lemmas.List.{get_or_read}
use Rattle.rip_heap_region.specs.Pages.{no_slot, place_in}
use Rattle.rip_heap_region.proofs.PageLemmas.{set_call}
use Rattle.rip_heap_region.proofs.pages.pages.Pages.get.Goals as goal

pub place_of-requires : goal.place_of-requires
place_of-requires c =
    (set_call c.self.inside.slots.items c.self.inside.starts.items c.self.inside.lens c.self.inside.room c.args.self.now c.args.row c.args.at
    (place_in c.self.inside.starts.items c.args.row c.args.at) c.self.invariant.laid c.self.view_is c.requires.within refl).0

pub index-requires : goal.index-requires
index-requires c =
    let found = set_call c.self.inside.slots.items c.self.inside.starts.items c.self.inside.lens c.self.inside.room c.args.self.now c.args.row c.args.at
    c.place_of.result c.self.invariant.laid c.self.view_is c.requires.within c.place_of.ensures in
    omega (arith, found.1, c.self.inside.slots.ok)

pub returns : goal.returns
returns c =
    let found = set_call c.self.inside.slots.items c.self.inside.starts.items c.self.inside.lens c.self.inside.room c.args.self.now c.args.row c.args.at
    c.place_of.result c.self.invariant.laid c.self.view_is c.requires.within c.place_of.ensures in
    get_or_read c.self.inside.slots.items c.place_of.result c.index.result.now found.1 c.index.ensures no_slot ∙ found.2
