use Rattle.std.proofs.Common.{List, ◌+◌, take, subst, sym}
use Rattle.rip_history.specs.Run.{AreQuiet}
use Rattle.rip_server.specs.Links.{there_of}
use Rattle.rip_server.specs.declared.connection.Connection.{Connection}
use Rattle.rip_server.proofs.PlaceLemmas.{quiet_at, quiet_more}
use Rattle.rip_server.proofs.connections.Connections.are_due.Goals as goal

pub returns-then-is_due-clause-due : goal.returns-then-is_due-clause-due
returns-then-is_due-clause-due c =
    λ quiet. c.if-is_due.ensures.due (quiet_at c.deref-connection-items.result.now c.loop-connection.connection-index c.connection-item.result c.loop-connection-test.true
    c.connection-item.is
    (subst (λ (t : List Connection). AreQuiet (there_of t)) (sym c.deref-connection-items.ensures.value) quiet))

pub loop-connection-preserved : goal.loop-connection-preserved
loop-connection-preserved c =
    let index = c.loop-connection.connection-index in
    let same = c.deref-connection-items.ensures.value in
    subst (λ (t : List Connection). AreQuiet (there_of (take (index + 1) t))) same
    (quiet_more c.deref-connection-items.result.now index c.connection-item.result c.loop-connection-test.true c.connection-item.is c.if-is_due.ensures.quiet
    (subst (λ (t : List Connection). AreQuiet (there_of (take index t))) (sym same) c.loop-connection.invariant))
