use Rattle.std.proofs.Common.{◌≡◌, map, take}
use Rattle.rip_early.proofs.names.Names.units.Given as goal

-- the names so far are copied
abbrev pub invariant-loop-name : goal.invariant-loop-name
invariant-loop-name l = l.names.items ≡ map (λ r. r.now) (take l.name-index l.self.list.items)
