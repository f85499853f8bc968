use Rattle.std.proofs.Common.{◌≡◌, ◌+◌, ◌++◌, length}
use Rattle.rip_html.specs.Scripts.{script_numbers}
use Rattle.rip_html.proofs.scripts.script_numbers.Given as goal

abbrev pub invariant-loop-rest : goal.invariant-loop-rest
invariant-loop-rest l = record {
  found : l.numbers.items ++ script_numbers l.number l.rest ≡ script_numbers 0 l.nodes;
  bound : l.number + length l.rest ≡ length l.nodes;
}

abbrev pub decreases-loop-rest : goal.decreases-loop-rest
decreases-loop-rest l = length l.rest
