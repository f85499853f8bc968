use Rattle.std.proofs.Common.{◌≡◌, false, map}
use Rattle.rip_wire.specs.Items.{reported_of}
use Rattle.rip_gen.specs.Lies.{tells_call}
use Rattle.rip_gen.proofs.generate.lie.lie_in_items.Given as goal

abbrev pub invariant-loop-item : goal.invariant-loop-item
invariant-loop-item l = (map reported_of l.told.items ≡ map reported_of l.yielded) × (tells_call (map reported_of l.yielded) ≡ false)
