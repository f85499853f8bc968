use Rattle.std.proofs.Common.{◌≡◌, ◌++◌}
use Rattle.rip_trace.specs.Said.{quiet_lines}
use Rattle.rip_trace.proofs.lines.said.write_quiet.Given as goal

abbrev pub invariant-loop-turn : goal.invariant-loop-turn
invariant-loop-turn l = l.text ≡ l.initial.text ++ quiet_lines l.turn
