use Rattle.std.proofs.Common.{rules, ◌≡◌, ◌∙◌, ap, length, map, subst, sym}
use Rattle.std.specs.Prelude.{slice_index}
use Rattle.rip_heap_region.specs.Blocks.{OthersStay, block_of, buckets_at, buckets_in, relinked}
use Rattle.rip_heap_region.proofs.BlockLemmas.{Untouched, buckets_mapped, others_stay, row_written}
use Rattle.rip_heap_region.proofs.buckets.blocks.IndexBlocks.relink.Goals as goal

pub returns-clause-buckets : goal.returns-clause-buckets
returns-clause-buckets c =
    let r = c.block_of-block.result in
    let blocks = c.self.inside.blocks.items in
    let row = c.self.inside.numbers.items in
    let row' = c.relink_part.new.numbers in
    let is : r ≡ block_of blocks c.args.index c.args.owner = c.block_of-block.ensures ∙ ap (λ bs. block_of bs c.args.index c.args.owner) c.deref.ensures.value in
    let count : length row' ≡ length row = c.relink_part.ensures.count ∙ ap length c.deref_mut.ensures.value in
    let size : c.self.inside.numbers.len ≡ length row = search rules in
    subst (λ xs. buckets_in xs (block_of blocks c.args.index c.args.owner) ≡ map (relinked c.args.place c.args.link) (buckets_at c.args.self.now c.args.index c.args.owner))
    (sym (row_written row row' c.self.inside.numbers.len count size))
    (buckets_mapped (relinked c.args.place c.args.link) blocks row row' _ _ c.args.index c.args.owner r c.args.self.now c.self.invariant c.self.view_is is count
    (λ k low high. c.relink_part.ensures.within k low high ∙ ap (λ xs. relinked c.args.place c.args.link (slice_index xs k)) c.deref_mut.ensures.value))

pub returns-clause-others : goal.returns-clause-others
returns-clause-others c =
    let r = c.block_of-block.result in
    let blocks = c.self.inside.blocks.items in
    let row = c.self.inside.numbers.items in
    let row' = c.relink_part.new.numbers in
    let is : r ≡ block_of blocks c.args.index c.args.owner = c.block_of-block.ensures ∙ ap (λ bs. block_of bs c.args.index c.args.owner) c.deref.ensures.value in
    let same : Untouched r row row' = record {
      count = c.relink_part.ensures.count ∙ ap length c.deref_mut.ensures.value;
      below = λ k lt. c.relink_part.ensures.below k lt ∙ ap (λ xs. slice_index xs k) c.deref_mut.ensures.value;
      behind = λ k le. c.relink_part.ensures.behind k le ∙ ap (λ xs. slice_index xs k) c.deref_mut.ensures.value;
    } in
    let size : c.self.inside.numbers.len ≡ length row = search rules in
    subst (λ xs. OthersStay c.args.owner c.args.self.now (record { blocks = blocks; numbers = xs })) (sym (row_written row row' c.self.inside.numbers.len same.count size))
    (others_stay blocks row row' _ _ c.args.index c.args.owner r c.args.self.now c.self.invariant c.self.view_is is same)
