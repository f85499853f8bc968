use Rattle.rip_dom.proofs.Paths.{put-read}
use Rattle.rip_dom.proofs.laws.puts_are_read.Goals as goal

pub returns : goal.returns
returns c = put-read
