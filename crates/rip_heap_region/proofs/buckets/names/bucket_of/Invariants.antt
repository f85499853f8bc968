use Rattle.std.proofs.Common.{◌≡◌, take}
use Rattle.std.specs.Prelude.{fold}
use Rattle.rip_heap_region.specs.NameIndex.{hash_more}
use Rattle.rip_heap_region.proofs.buckets.names.bucket_of.Given as goal

abbrev pub invariant-loop-unit : goal.invariant-loop-unit
invariant-loop-unit l = l.hash ≡ fold hash_more 0 (take l.unit-index l.text)
