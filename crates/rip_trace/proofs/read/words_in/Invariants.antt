use Rattle.rip_outer.specs.Pieces.{pieces}
use Rattle.rip_trace.proofs.TraceLemmas.{Finding}
use Rattle.rip_trace.proofs.read.words_in.Given as goal

-- the words of the lines so far
abbrev pub invariant-loop-line : goal.invariant-loop-line
invariant-loop-line l =
    (goal.iterator-loop-line).can_next l.line-iterator × (goal.iterator-loop-line).is_finite l.line-iterator × Finding (pieces l.fn.text) l.line-iterator l.words.items
