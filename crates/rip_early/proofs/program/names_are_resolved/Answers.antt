use Rattle.rip_early.proofs.Resolving.{names_resolved}
use Rattle.rip_early.proofs.program.names_are_resolved.Goals as goal

pub returns : goal.returns
returns c = names_resolved
