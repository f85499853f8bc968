use Rattle.std.proofs.Common.{◌≡◌, ◌-◌, ◌<◌, ◌∙◌, length, ap, arith, subst, sym}
use Rattle.std.specs.Prelude.{slice_index}
use Rattle.rip_values.specs.Pool.{text_at}
use Rattle.rip_heap_region.specs.declared.pages.slot.Slot.{Slot}
use Rattle.rip_heap_region.specs.Pages.{slot_at}
use Rattle.rip_heap_region.specs.Names.{same_text}
use Rattle.rip_heap_region.specs.Blocks.{buckets_at}
use Rattle.rip_heap_region.specs.NameIndex.{bucket_of}
use Rattle.rip_heap_region.proofs.PlaceLemmas.{PlaceWalk, place_walk_begun, place_walk_ended, place_walk_found, place_walk_nowhere, place_walk_passed, walk_lower, walk_within}
use Rattle.rip_heap_region.proofs.buckets.indexes.NameIndexes.find.Goals as goal
use Rattle.rip_heap_region.proofs.buckets.indexes.NameIndexes.find.Goals.{then-has_text, else-has_text}

pub loop-left-init : goal.loop-left-init
loop-left-init c =
    let buckets = buckets_at c.args.self.now.blocks c.args.index c.args.owner in
    let size : length c.buckets-buckets.result.now ≡ length buckets = ap length c.buckets-buckets.ensures.buckets in
    let b = c.bucket_of.result in
    let within : b < length buckets = omega (arith, c.bucket_of.ensures.within, size) in
    let bucket : b ≡ bucket_of (length buckets) (text_at c.args.pool.now c.args.name) = c.bucket_of.ensures.bucket ∙ (λ t. bucket_of (size t) (c.get-text.ensures.text t)) in
    place_walk_begun c.args.pool.now c.args.name c.args.pages.now.properties c.args.chain buckets b _ c.requires.index bucket within
    (c.number_at-left.ensures ∙ ap (λ xs. slice_index xs b) c.buckets-buckets.ensures.buckets)

pub get-slot-requires : goal.get-slot-requires
get-slot-requires c = record {
  within = walk_within c.args.pool.now c.args.name c.args.pages.now.properties c.args.chain (buckets_at c.args.self.now.blocks c.args.index c.args.owner) c.loop-left.left c.loop-left.found
      c.requires.chain c.requires.index c.loop-left.invariant c.loop-left-test.true;
}

pub loop-left-smaller : goal.loop-left-smaller
loop-left-smaller c =
    let lower = walk_lower c.args.pool.now c.args.name c.args.pages.now.properties c.args.chain (buckets_at c.args.self.now.blocks c.args.index c.args.owner) c.loop-left.left c.loop-left.found
    c.requires.chain c.requires.index c.loop-left.invariant c.loop-left-test.true in
    subst (λ (s : Slot). s.link < c.loop-left.left) (sym c.get-slot.ensures) lower

pub loop-left-preserved : goal.loop-left-preserved
loop-left-preserved c =
    let pages = c.args.pages.now.properties in
    let buckets = buckets_at c.args.self.now.blocks c.args.index c.args.owner in
    let left = c.loop-left.left in
    let is : c.get-slot.result.now ≡ slot_at pages (left - 1) = c.get-slot.ensures in
    let named : c.has_text.result ≡ same_text c.args.pool.now (slot_at pages (left - 1)).name c.args.name = c.has_text.ensures ∙ ap (λ (s : Slot). same_text c.args.pool.now s.name c.args.name) is in
    subst (λ (s : Slot). PlaceWalk c.args.pool.now c.args.name pages c.args.chain (length buckets) s.link c.if-has_text.found) (sym is)
    (elim c.if-has_text.branch [
      | then-has_text w ↦ subst (PlaceWalk c.args.pool.now c.args.name pages c.args.chain (length buckets) (slot_at pages (left - 1)).link) (sym w.found-is)
          (place_walk_found c.args.pool.now c.args.name pages c.args.chain buckets left c.loop-left.found c.requires.index c.loop-left.invariant c.loop-left-test.true (sym named ∙ w.if-has_text.true))
      | else-has_text w ↦ subst (PlaceWalk c.args.pool.now c.args.name pages c.args.chain (length buckets) (slot_at pages (left - 1)).link) (sym w.found-is)
          (place_walk_passed c.args.pool.now c.args.name pages c.args.chain buckets left c.loop-left.found c.requires.index c.loop-left.invariant c.loop-left-test.true (sym named ∙ w.if-has_text.false))
    ])

pub returns-then-found-gt0 : goal.returns-then-found-gt0
returns-then-found-gt0 c =
    let down : c.loop-left.left ≡ 0 = omega (arith, c.loop-left-test.false) in
    place_walk_ended c.args.pool.now c.args.name c.args.pages.now.properties c.args.chain (length (buckets_at c.args.self.now.blocks c.args.index c.args.owner)) c.loop-left.found
    (subst (λ n. PlaceWalk c.args.pool.now c.args.name c.args.pages.now.properties c.args.chain (length (buckets_at c.args.self.now.blocks c.args.index c.args.owner)) n c.loop-left.found) down c.loop-left.invariant)
    c.if-found-gt0.true

pub returns-else-found-gt0 : goal.returns-else-found-gt0
returns-else-found-gt0 c =
    let down : c.loop-left.left ≡ 0 = omega (arith, c.loop-left-test.false) in
    place_walk_nowhere c.args.pool.now c.args.name c.args.pages.now.properties c.args.chain (length (buckets_at c.args.self.now.blocks c.args.index c.args.owner)) c.loop-left.found
    (subst (λ n. PlaceWalk c.args.pool.now c.args.name c.args.pages.now.properties c.args.chain (length (buckets_at c.args.self.now.blocks c.args.index c.args.owner)) n c.loop-left.found) down c.loop-left.invariant)
    (omega (arith, c.if-found-gt0.false))
