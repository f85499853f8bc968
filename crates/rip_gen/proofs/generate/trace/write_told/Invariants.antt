use Rattle.std.proofs.Common.{◌≡◌, ◌++◌, take}
use Rattle.rip_gen.specs.Work.{told_lines}
use Rattle.rip_gen.proofs.generate.trace.write_told.Given as goal

abbrev pub invariant-loop-told : goal.invariant-loop-told
invariant-loop-told l = l.text ≡ l.initial.text ++ told_lines l.place (take l.told-index l.batches)
