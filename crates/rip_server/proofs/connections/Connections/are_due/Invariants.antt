use Rattle.std.proofs.Common.{take}
use Rattle.rip_history.specs.Run.{AreQuiet}
use Rattle.rip_server.specs.Links.{there_of}
use Rattle.rip_server.proofs.connections.Connections.are_due.Given as goal

-- those before have nothing to handle
abbrev pub invariant-loop-connection : goal.invariant-loop-connection
invariant-loop-connection l = AreQuiet (there_of (take l.connection-index l.self.list.items))
