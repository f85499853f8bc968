use Rattle.std.proofs.Common.{arith}
use Rattle.rip_heap_region.proofs.CallLemmas.{get_call}
use Rattle.rip_heap_region.proofs.segments.array.get.Goals as goal

pub returns : goal.returns
returns c =
    get_call c.args.pages.now.elements c.args.owner c.args.array c.args.place c.seat-at.result c.get.result.now
    c.requires.array (omega arith) c.seat-at.ensures c.get.ensures
