use Rattle.std.proofs.Common.{◌≡◌, List, ◌++◌, take}
use Rattle.rip_history.specs.Connections.{Connection as Link, owing}
use Rattle.rip_server.specs.Links.{there_of}
use Rattle.rip_server.proofs.connections.waiting_for.Given as goal

-- none of those before waits for the session
abbrev pub invariant-loop-place : goal.invariant-loop-place
invariant-loop-place l = (rest : List Link) → owing l.session (there_of (take l.place l.list) ++ rest) ≡ owing l.session rest
