use Rattle.std.proofs.Common.{◌≡◌, ◌+◌, ◌∙◌, ap, arith}
use Rattle.std.specs.Prelude.{slice_set}
use Rattle.rip_heap_region.specs.Blocks.{block_of}
use Rattle.rip_heap_region.proofs.BlockLemmas.{bucket_set, others_stay, untouched_set}
use Rattle.rip_heap_region.proofs.buckets.blocks.IndexBlocks.set_bucket.Goals as goal

pub returns-then-bucket-block-clause-buckets : goal.returns-then-bucket-block-clause-buckets
returns-then-bucket-block-clause-buckets c =
    let r = c.block_of-block.result in
    let blocks = c.self.inside.blocks.items in
    let is : r ≡ block_of blocks c.args.index c.args.owner = c.block_of-block.ensures ∙ ap (λ bs. block_of bs c.args.index c.args.owner) c.deref.ensures.value in
    bucket_set blocks c.self.inside.numbers.items c.args.index c.args.owner c.args.bucket c.args.number r c.args.self.now c.self.view_is is c.if-bucket-block.true

pub returns-then-bucket-block-clause-others : goal.returns-then-bucket-block-clause-others
returns-then-bucket-block-clause-others c =
    let r = c.block_of-block.result in
    let blocks = c.self.inside.blocks.items in
    let row = c.self.inside.numbers.items in
    let is : r ≡ block_of blocks c.args.index c.args.owner = c.block_of-block.ensures ∙ ap (λ bs. block_of bs c.args.index c.args.owner) c.deref.ensures.value in
    others_stay blocks row (slice_set row (r.start + c.args.bucket) c.args.number) _ _ c.args.index c.args.owner r c.args.self.now c.self.invariant c.self.view_is is
    (untouched_set r row (r.start + c.args.bucket) c.args.number (omega arith) (omega (arith, c.if-bucket-block.true)))
