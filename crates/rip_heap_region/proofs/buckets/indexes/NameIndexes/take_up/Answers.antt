use Rattle.std.proofs.Common.{rules, ◌≡◌, ◌<◌, ◌∙◌, length, ap, arith}
use Rattle.std.specs.Prelude.{slice_index}
use Rattle.rip_values.specs.Pool.{IsSpan, text_at}
use Rattle.rip_heap_region.specs.Blocks.{buckets_at}
use Rattle.rip_heap_region.specs.NameIndex.{bucket_of}
use Rattle.rip_heap_region.proofs.PlaceLemmas.{set_here, set_other, taken_up}
use Rattle.rip_heap_region.proofs.buckets.indexes.NameIndexes.take_up.Goals as goal

pub returns-clause-index : goal.returns-clause-index
returns-clause-index c = λ chain number is there h.
    let old = c.args.pages.now in
    let new = c.set_link.new.self in
    let buckets = buckets_at c.args.self.now.blocks c.args.index c.args.owner in
    let b = c.bucket_of-bucket.result in
    let size : length c.buckets-buckets.result.now ≡ length buckets = ap length c.buckets-buckets.ensures.buckets in
    let low : b < length buckets = omega (arith, c.bucket_of-bucket.ensures.within, size) in
    let bucket : b ≡ bucket_of (length buckets) (text_at c.args.pool.now c.args.name) = c.bucket_of-bucket.ensures.bucket ∙ (λ t. bucket_of (size t) (c.get.ensures.text t)) in
    let last = c.number_at-last.result in
    let found : last ≡ slice_index buckets b = c.number_at-last.ensures ∙ ap (λ xs. slice_index xs b) c.buckets-buckets.ensures.buckets in
    let lies : IsSpan c.args.pool.now c.args.name = search rules in
    taken_up c.args.pool.now old.properties new.properties chain number c.args.place c.args.name buckets (buckets_at c.set_bucket.new.self c.args.index c.args.owner) b is there c.requires.name lies
    bucket low c.set_bucket.ensures.buckets (λ q other. set_other old new c.args.place last q other c.set_link.ensures)
    (set_here old new c.args.place last c.requires.within c.set_link.ensures ∙ found) h
