use Rattle.std.proofs.Common.{◌≡◌, ◌≤◌, length}
use Rattle.rip_base.specs.Blank.{trimmed_end}
use Rattle.rip_base.proofs.blank.trim_end.Given as goal

abbrev pub invariant-loop-rest : goal.invariant-loop-rest
invariant-loop-rest l = (trimmed_end l.rest ≡ trimmed_end l.text) × (length l.rest ≤ length l.text)

abbrev pub decreases-loop-rest : goal.decreases-loop-rest
decreases-loop-rest l = length l.rest
