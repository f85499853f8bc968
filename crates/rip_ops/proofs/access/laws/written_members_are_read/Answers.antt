use Rattle.rip_ops.proofs.PlainLemmas.{written_read}
use Rattle.rip_ops.proofs.access.laws.written_members_are_read.Goals as goal

pub returns : goal.returns
returns c = written_read c.puts_are_read.ensures
