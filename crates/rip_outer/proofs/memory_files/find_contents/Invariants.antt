use Rattle.std.proofs.Common.{◌≡◌, drop}
use Rattle.rip_outer.specs.Reading.{contents_of}
use Rattle.rip_outer.proofs.memory_files.find_contents.Given as goal

-- no file that was passed has the name
abbrev pub invariant-loop-file : goal.invariant-loop-file
invariant-loop-file l = contents_of l.file-items l.name ≡ contents_of (drop l.file-index l.file-items) l.name
