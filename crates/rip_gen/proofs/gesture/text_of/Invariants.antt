use Rattle.std.proofs.Common.{◌≡◌, take}
use Rattle.rip_gen.proofs.gesture.text_of.Given as goal

-- the bytes so far, as units
abbrev pub invariant-loop-byte : goal.invariant-loop-byte
invariant-loop-byte l = l.units.items ≡ take l.byte-index l.byte-items
