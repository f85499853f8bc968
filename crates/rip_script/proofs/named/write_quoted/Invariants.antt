use Rattle.std.proofs.Common.{◌≡◌, ◌++◌, take}
use Rattle.std.specs.List.{flat_map}
use Rattle.rip_script.specs.Values.{unit_text}
use Rattle.rip_script.proofs.named.write_quoted.Given as goal

-- the units so far are written
abbrev pub invariant-loop-unit : goal.invariant-loop-unit
invariant-loop-unit l = l.out ≡ l.initial.out ++ flat_map unit_text (take l.unit-index l.units)
