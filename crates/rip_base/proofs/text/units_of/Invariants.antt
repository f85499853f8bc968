use Rattle.std.proofs.Common.{◌≡◌}
use Rattle.rip_base.specs.Text.{encode_utf16_all}
use Rattle.rip_base.proofs.text.units_of.Given as goal

abbrev pub invariant-loop-c : goal.invariant-loop-c
invariant-loop-c l = l.units.items ≡ encode_utf16_all l.yielded
