use Rattle.rip_heap_region.proofs.PlaceLemmas.{Relinking}
use Rattle.rip_heap_region.proofs.buckets.index.relink_chain.Given as goal

abbrev pub invariant-loop-number : goal.invariant-loop-number
invariant-loop-number l = Relinking l.place l.link l.fn.pages l.pages l.fn.chain l._number l.at
