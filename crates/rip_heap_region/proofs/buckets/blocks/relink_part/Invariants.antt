use Rattle.rip_heap_region.proofs.BlockLemmas.{Relinked}
use Rattle.rip_heap_region.proofs.buckets.blocks.relink_part.Given as goal

abbrev pub invariant-loop-at : goal.invariant-loop-at
invariant-loop-at l = Relinked l.from l.to l.place l.link l.initial.numbers l.numbers l.at
