use Rattle.std.proofs.Common.{◌≡◌, false, take}
use Rattle.rip_history.specs.Connections.{is_there}
use Rattle.rip_server.specs.Links.{there_of}
use Rattle.rip_server.proofs.connections.place_of.Given as goal

-- it is none of those before
abbrev pub invariant-loop-place : goal.invariant-loop-place
invariant-loop-place l = is_there l.number (there_of (take l.place l.list)) ≡ false
