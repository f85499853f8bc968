use Rattle.rip_heap.proofs.PutLemmas.{put_leaves}
use Rattle.rip_heap.proofs.laws.puts_leave_others.Goals as goal

pub returns : goal.returns
returns c = put_leaves
