use Rattle.std.proofs.Common.{◌≡◌, ◌+◌, ◌++◌}
use Rattle.std.specs.Prelude.{replicate}
use Rattle.rip_script.proofs.lines.write_indent.Given as goal

-- two spaces are written for each level so far
abbrev pub invariant-levels : goal.invariant-levels
invariant-levels l = l.out ≡ l.initial.out ++ replicate (l.counter + l.counter) 32
