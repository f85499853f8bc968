use Rattle.rip_heap.proofs.PutLemmas.{put_read}
use Rattle.rip_heap.proofs.laws.puts_are_read.Goals as goal

pub returns : goal.returns
returns c = put_read
