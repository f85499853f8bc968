use Rattle.std.proofs.Common.{◌≡◌, ap, ◌∙◌, subst, sym, Some}
use Rattle.rip_heap_region.specs.declared.pages.slot.Slot.{Slot}
use Rattle.rip_heap.specs.Names.{named, place_of}
use Rattle.rip_heap.specs.Region.{Kept, properties_here}
use Rattle.rip_heap.proofs.RegionLemmas.{found_at, found_within, objects_within, value_read}
use Rattle.rip_heap.proofs.region.Region.own.Goals as goal

pub get-requires : goal.get-requires
get-requires c =
    let pages = c.self.inside.pages in
    let within = objects_within pages c.args.at c.args.self.now (ap (λ (k : Kept). k.pages) (sym c.self.view_is)) c.requires.within in
    record {
      within = found_within pages c.args.at _ c.in_ok-place.place within c.self.invariant.chains
          (subst (λ (k : Kept). found_at k.pages c.args.at (place_of c.args.pool.now c.args.name (properties_here k c.args.at)) ≡ Some c.in_ok-place.place) (sym c.self.view_is)
          (sym c.find.ensures ∙ c.in_ok-place.was));
    }

pub returns : goal.returns
returns c =
    let pages = c.self.inside.pages in
    let within = objects_within pages c.args.at c.args.self.now (ap (λ (k : Kept). k.pages) (sym c.self.view_is)) c.requires.within in
    ap (λ (s : Slot). Some s.value) c.get.ensures
    ∙ subst (λ (k : Kept). Some (Rattle.rip_heap_region.specs.Pages.slot_at pages.properties c.in_ok-place.place).value ≡ named c.args.pool.now c.args.name (properties_here k c.args.at)) c.self.view_is
    (sym (value_read pages c.args.at _ c.in_ok-place.place within
    (subst (λ (k : Kept). found_at k.pages c.args.at (place_of c.args.pool.now c.args.name (properties_here k c.args.at)) ≡ Some c.in_ok-place.place) (sym c.self.view_is)
    (sym c.find.ensures ∙ c.in_ok-place.was))))
