use Rattle.rip_cli.proofs.Accepting.{accepted_is_done}
use Rattle.rip_cli.proofs.top.accepted_files_are_served.Goals as goal

pub returns : goal.returns
returns c = accepted_is_done
