use Rattle.std.proofs.Common.{◌<◌, ◌^◌, length}
use Rattle.rip_outer.specs.Pieces.{pieces}
use Rattle.rip_trace.proofs.TraceLemmas.{Progress}
use Rattle.rip_trace.proofs.read.read_trace.Given as goal

-- each line so far was read
abbrev pub invariant-loop-line : goal.invariant-loop-line
invariant-loop-line l =
    (goal.iterator-loop-line).can_next l.line-iterator × (goal.iterator-loop-line).is_finite l.line-iterator × Progress (pieces l.fn.text) l.drawn l.number l.reading l.line-iterator × (length (pieces l.fn.text) < 2 ^ 64)
