use Rattle.std.proofs.Common.{◌<◌, ◌^◌, length}
use Rattle.rip_outer.specs.Pieces.{pieces}
use Rattle.rip_trace.proofs.GestureTexts.{Progress}
use Rattle.rip_trace.proofs.gestures.read_gestures.Given as goal

-- each line so far was read
abbrev pub invariant-loop-line : goal.invariant-loop-line
invariant-loop-line l =
    (goal.iterator-loop-line).can_next l.line-iterator × (goal.iterator-loop-line).is_finite l.line-iterator × Progress (pieces l.fn.text) l.number l.gestures.items l.line-iterator × (length (pieces l.fn.text) < 2 ^ 64)
