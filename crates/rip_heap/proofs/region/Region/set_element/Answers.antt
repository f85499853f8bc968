use Rattle.std.proofs.Common.{◌≡◌, ap, ◌∙◌, subst}
use Rattle.std.specs.Prelude.{slice_set}
use Rattle.rip_heap.specs.HeadSlots.{array_in}
use Rattle.rip_heap.specs.Region.{IndexesStay, Kept, arrays_in, elements_here, listed, with_elements}
use Rattle.rip_heap.proofs.RegionElementLemmas.{array_found, array_is, elements_alone, indexes_refilled, laid_here, listed_refilled, objects_within, rows_elements}
use Rattle.rip_heap.proofs.region.Region.set_element.Goals as goal

pub get-requires : goal.get-requires
get-requires c = record { within = objects_within c.self.inside.pages c.args.at c.args.self.now (ap (λ (k : Kept). k.pages) c.self.view_is) c.requires.within }

pub set-requires-clause-array : goal.set-requires-clause-array
set-requires-clause-array c =
    array_is c.self.inside.pages c.self.inside.spent c.self.inside.room c.args.at c.array_in-array.result c.self.invariant
    (objects_within c.self.inside.pages c.args.at c.args.self.now (ap (λ (k : Kept). k.pages) c.self.view_is) c.requires.within)
    (c.array_in-array.ensures ∙ ap array_in c.get.ensures)

pub invariant_of-self : goal.invariant_of-self
invariant_of-self c =
    let lt = objects_within c.self.inside.pages c.args.at c.args.self.now (ap (λ (k : Kept). k.pages) c.self.view_is) c.requires.within in
    rows_elements c.self.inside.pages c.set.new.pages _ c.self.inside.spent c.self.inside.room c.set.ensures.row c.set.ensures.size
    (c.set.ensures.all (arrays_in c.self.inside.pages)
    (array_found c.self.inside.pages c.args.at c.array_in-array.result lt (c.array_in-array.ensures ∙ ap array_in c.get.ensures)) c.self.invariant.arrays)
    c.self.invariant

pub returns-clause-listed : goal.returns-clause-listed
returns-clause-listed c =
    let lt = objects_within c.self.inside.pages c.args.at c.args.self.now (ap (λ (k : Kept). k.pages) c.self.view_is) c.requires.within in
    let is = c.array_in-array.ensures ∙ ap array_in c.get.ensures in
    subst (λ (k : Kept). listed (record { pages = c.set.new.pages; rooms = record { spent = c.self.inside.spent; room = c.self.inside.room } })
    ≡ with_elements (listed k) c.args.at (slice_set (elements_here k c.args.at) c.args.place c.args.v)) c.self.view_is
    (listed_refilled c.self.inside.pages c.set.new.pages (arrays_in c.self.inside.pages) (record { spent = c.self.inside.spent; room = c.self.inside.room }) (record { spent = c.self.inside.spent; room = c.self.inside.room }) c.args.at _ (elements_alone c.self.inside.pages c.set.new.pages c.set.ensures.row)
    (laid_here c.self.inside.pages c.set.new.pages.elements c.args.at c.array_in-array.result (arrays_in c.self.inside.pages) (λ items. slice_set items c.args.place c.args.v) lt is
    (c.set.ensures.all (arrays_in c.self.inside.pages) (array_found c.self.inside.pages c.args.at c.array_in-array.result lt is) c.self.invariant.arrays)))

pub returns-clause-indexes : goal.returns-clause-indexes
returns-clause-indexes c =
    subst (λ (k : Kept). IndexesStay k.pages c.set.new.pages) c.self.view_is
    (indexes_refilled c.self.inside.pages c.set.new.pages (arrays_in c.self.inside.pages) (elements_alone c.self.inside.pages c.set.new.pages c.set.ensures.row))
