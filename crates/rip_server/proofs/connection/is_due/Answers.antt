use Rattle.rip_server.proofs.PlaceLemmas.{due_told}
use Rattle.rip_server.proofs.connection.is_due.Goals as goal

pub returns-clause-due : goal.returns-clause-due
returns-clause-due c = due_told c.args.connection.now c.ready.result c.if-is_some.ensures c.ready.ensures.ready
