use Rattle.rip_law_server.proofs.ServeLemmas.{served_begins_legal}
use Rattle.rip_law_server.proofs.going.served_begins_legal.Goals as goal

pub returns : goal.returns
returns c = served_begins_legal
