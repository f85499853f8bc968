use Rattle.std.proofs.Common.{◌≤◌, vec_len}
use Rattle.rip_outer.specs.Reading.{longest_file}
use Rattle.rip_real.proofs.files.read_file.Given as goal

-- no more is read than a file may have
abbrev pub invariant-reads : goal.invariant-reads
invariant-reads g l = vec_len l.bytes ≤ longest_file
