use Rattle.std.proofs.Common.{◌≡◌, ◌∙◌, ◌+◌, ◌-◌, ◌<◌, Some, ap, arith, length, refl, slice_get, slice_range, subst, sym}
use Rattle.std.proofs.lemmas.Option.{slice_get-get_or}
use Rattle.std.specs.Option.{IsSome}
use Rattle.rip_base.specs.declared.value.Value.TheVariants.{Undefined}
use Rattle.rip_heap.specs.Arrays.{elements_of}
use Rattle.rip_heap.specs.NamedObjects.{with_more, with_paid_edit}
use Rattle.rip_heap.proofs.PieceLemmas.{piece_more, piece_none}
use Rattle.rip_heap.proofs.StoredLemmas.{array_kept, none_more, one_more, other_kept}
use Rattle.rip_heap.proofs.named_objects.NamedObjects.copy_elements.Goals as goal

pub loop-place-init : goal.loop-place-init
loop-place-init c =
    let xs = elements_of (slice_get c.args.self.now.objects c.args.at) in
    none_more c.args.self.now c.args.to (slice_range xs c.args.first c.args.first) (c.args.first - c.args.first) (piece_none xs c.args.first) (omega arith)

pub unwrap-item-requires : goal.unwrap-item-requires
unwrap-item-requires c =
    let xs = elements_of (slice_get c.args.self.now.objects c.args.at) in
    let place = c.loop-place.place in
    let below : place < length xs = omega (arith, c.loop-place-test.true, c.requires.within) in
    let there = other_kept c.args.self.now c.loop-place.self c.args.to c.args.at (slice_range xs c.args.first place) (place - c.args.first) c.loop-place.invariant c.requires.apart in
    subst IsSome (sym (c.element.ensures ∙ ap (λ o. slice_get (elements_of o) place) there ∙ slice_get-get_or xs place Undefined below)) refl

pub push_element-requires-clause-array : goal.push_element-requires-clause-array
push_element-requires-clause-array c =
    let xs = elements_of (slice_get c.args.self.now.objects c.args.at) in
    array_kept c.args.self.now c.loop-place.self c.args.to (slice_range xs c.args.first c.loop-place.place) (c.loop-place.place - c.args.first) c.loop-place.invariant c.requires.array

pub loop-place-preserved : goal.loop-place-preserved
loop-place-preserved c =
    let n = c.args.self.now in
    let first = c.args.first in
    let place = c.loop-place.place in
    let xs = elements_of (slice_get n.objects c.args.at) in
    let below : place < length xs = omega (arith, c.loop-place-test.true, c.requires.within) in
    let there = other_kept n c.loop-place.self c.args.to c.args.at (slice_range xs first place) (place - first) c.loop-place.invariant c.requires.apart in
    let found : slice_get xs place ≡ Some c.unwrap-item.result =
    sym (ap (λ o. slice_get (elements_of o) place) there) ∙ sym c.element.ensures ∙ c.unwrap-item.ensures in
    let count : place - first + 1 ≡ place + 1 - first = omega (arith, c.loop-place.auto.place) in
    c.push_element.ensures.edited
    ∙ one_more n c.loop-place.self c.args.to (slice_range xs first place) (slice_range xs first (place + 1)) c.unwrap-item.result (place - first) c.loop-place.invariant
    (piece_more xs first place c.unwrap-item.result c.loop-place.auto.place below found)
    ∙ ap (with_paid_edit n c.args.to (with_more (slice_range xs first (place + 1)))) count
