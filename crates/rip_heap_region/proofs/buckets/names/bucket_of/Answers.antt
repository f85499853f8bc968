use Rattle.std.proofs.Common.{◌≡◌, ◌%◌, ◌≤◌, ◌∙◌, length, ap, arith}
use Rattle.std.specs.Prelude.{fold}
use Rattle.std.proofs.lemmas.List.{take_all}
use Rattle.rip_heap_region.specs.NameIndex.{bucket_of, hash_more}
use Rattle.rip_heap_region.proofs.buckets.names.bucket_of.Goals as goal

pub returns-clause-bucket : goal.returns-clause-bucket
unfolding bucket_of
returns-clause-bucket c =
    let whole : length c.args.text.now ≤ c.loop-unit.unit-index = omega arith in
    let hash : c.loop-unit.hash ≡ fold hash_more 0 c.args.text.now = c.loop-unit.invariant ∙ ap (fold hash_more 0) (take_all c.loop-unit.unit-index c.args.text.now whole) in
    ap (λ h. h % c.args.count) hash
