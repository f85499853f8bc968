use Rattle.std.proofs.Common.{◌≡◌, take}
use Rattle.rip_outer.proofs.memory_files.copy_of_files.Given as goal

-- the files that were passed are copied
abbrev pub invariant-loop-file : goal.invariant-loop-file
invariant-loop-file l = l.copy.items ≡ take l.file-index l.file-items
