use Rattle.std.proofs.Common.{◌≡◌, ◌<◌, ◌+◌, ◌++◌, ◌∷◌, [], length, ap, arith, ◌∙◌, slice_index_or, subst, sym}
use Rattle.std.specs.Prelude.{slice_set}
use Rattle.rip_heap_region.specs.Segments.{AreLaid, lists_from}
use Rattle.rip_heap_region.specs.Pages.{Paged, slot_at}
use Rattle.rip_heap.specs.declared.class.Class.TheVariants.{Array as ArrayClass}
use Rattle.rip_heap.specs.HeadSlots.{array_in, head_in}
use Rattle.rip_heap.specs.Rooms.{spending}
use Rattle.rip_heap.specs.Region.{IndexesStay, IsArrayHere, Kept, arrays_in, elements_here, listed, with_elements}
use Rattle.rip_heap.proofs.RegionElementLemmas.{IsRefilled, array_found, array_is, array_put, class_here, indexes_refilled, laid_here, laid_under, listed_refilled, rows_pushed}
use Rattle.rip_heap.proofs.region.Region.push_element.Goals as goal

pub get-requires : goal.get-requires
get-requires c = record { within = (class_here c.self.inside.pages.objects c.args.at (subst (λ (k : Kept). IsArrayHere k c.args.at) (sym c.self.view_is) c.requires.array)).0 }

pub push-array-requires-clause-room : goal.push-array-requires-clause-room
push-array-requires-clause-room c =
    omega (arith, subst (λ (k : Kept). k.rooms.spent < k.rooms.room) (sym c.self.view_is) c.requires.room, c.room.ensures, c.filled.ensures.filled, c.self.invariant.paid)

pub push-array-requires-clause-array : goal.push-array-requires-clause-array
push-array-requires-clause-array c =
    array_is c.self.inside.pages c.self.inside.spent c.self.inside.room c.args.at c.array_in.result c.self.invariant
    (class_here c.self.inside.pages.objects c.args.at (subst (λ (k : Kept). IsArrayHere k c.args.at) (sym c.self.view_is) c.requires.array)).0
    (c.array_in.ensures ∙ ap array_in c.get.ensures)

there : (c : goal.After-self-1) → (c.args.at < length c.self.inside.pages.objects) × ((head_in (slot_at c.self.inside.pages.objects c.args.at)).class ≡ ArrayClass)
there c = class_here c.self.inside.pages.objects c.args.at (subst (λ (k : Kept). IsArrayHere k c.args.at) (sym c.self.view_is) c.requires.array)

refilled : (c : goal.After-self-1) → IsRefilled c.self.inside.pages c.set.new.self (slice_set (arrays_in c.self.inside.pages) c.args.at c.push-array.result)
refilled c =
    array_put c.self.inside.pages c.push-array.new.pages c.set.new.self c.args.at c.push-array.result c.get.result.now c.with_array.result c.push-array.ensures.row
    c.get.ensures (there c).1 c.with_array.ensures c.set.ensures

laid : (c : goal.After-self-1) → AreLaid (slice_set (arrays_in c.self.inside.pages) c.args.at c.push-array.result) c.push-array.new.pages.elements
    (slice_set (lists_from 0 (arrays_in c.self.inside.pages) c.self.inside.pages.elements) c.args.at
    (slice_index_or (lists_from 0 (arrays_in c.self.inside.pages) c.self.inside.pages.elements) c.args.at [] ++ c.args.v ∷ []))
laid c =
    let is = c.array_in.ensures ∙ ap array_in c.get.ensures in
    laid_here c.self.inside.pages c.push-array.new.pages.elements c.args.at c.array_in.result (slice_set (arrays_in c.self.inside.pages) c.args.at c.push-array.result)
    (λ items. items ++ c.args.v ∷ []) (there c).0 is
    (c.push-array.ensures.all (arrays_in c.self.inside.pages) (array_found c.self.inside.pages c.args.at c.array_in.result (there c).0 is) c.self.invariant.arrays)

pub set-requires : goal.set-requires
set-requires c =
    let objects : length c.push-array.new.pages.objects ≡ length c.self.inside.pages.objects = ap (λ (p : Paged). length p.objects) c.push-array.ensures.row in
    record { within = omega (arith, objects, (class_here c.self.inside.pages.objects c.args.at (subst (λ (k : Kept). IsArrayHere k c.args.at) (sym c.self.view_is) c.requires.array)).0) }

pub invariant_of-self : goal.invariant_of-self
invariant_of-self c =
    rows_pushed c.self.inside.pages c.push-array.new.pages c.set.new.self c.args.at _ c.with_array.result (slice_set (arrays_in c.self.inside.pages) c.args.at c.push-array.result) _
    c.self.inside.spent c.self.inside.room c.push-array.ensures.row c.push-array.ensures.size
    (omega (arith, c.room.ensures, c.filled.ensures.filled)) c.set.ensures (refilled c) (laid c)
    (subst (λ (k : Kept). k.rooms.spent < k.rooms.room) (sym c.self.view_is) c.requires.room) c.self.invariant

pub returns-clause-listed : goal.returns-clause-listed
returns-clause-listed c =
    subst (λ (k : Kept). listed (record { pages = c.set.new.self; rooms = record { spent = c.self.inside.spent + 1; room = c.self.inside.room } })
    ≡ record (with_elements (listed k) c.args.at (elements_here k c.args.at ++ c.args.v ∷ [])) { rooms = spending 1 k.rooms }) c.self.view_is
    (listed_refilled c.self.inside.pages c.set.new.self (slice_set (arrays_in c.self.inside.pages) c.args.at c.push-array.result)
    (record { spent = c.self.inside.spent; room = c.self.inside.room }) (record { spent = c.self.inside.spent + 1; room = c.self.inside.room }) c.args.at _ (refilled c)
    (laid_under c.push-array.new.pages c.set.new.self c.args.at c.with_array.result _ _ c.set.ensures (laid c)))

pub returns-clause-indexes : goal.returns-clause-indexes
returns-clause-indexes c =
    subst (λ (k : Kept). IndexesStay k.pages c.set.new.self) c.self.view_is
    (indexes_refilled c.self.inside.pages c.set.new.self (slice_set (arrays_in c.self.inside.pages) c.args.at c.push-array.result) (refilled c))
