use Rattle.std.proofs.Common.{◌≡◌, map, take}
use Rattle.rip_wire.specs.Items.{reported_of}
use Rattle.rip_session.specs.Tasks.{reports}
use Rattle.rip_session.proofs.work.work.works_of.Given as goal

-- the items so far
abbrev pub invariant-loop-item : goal.invariant-loop-item
invariant-loop-item l = l.works.items ≡ map reports (map reported_of (take l.item-index l.items))
