use Rattle.std.proofs.Common.{◌≡◌, length, drop}
use Rattle.rip_dom.specs.Names.{is_small}
use Rattle.rip_dom.proofs.names.is_small.Given as goal

abbrev pub invariant-loop-i : goal.invariant-loop-i
invariant-loop-i l = (length l.text ≡ length l.name) × (is_small (drop l.i l.text) (drop l.i l.name) ≡ is_small l.text l.name)
