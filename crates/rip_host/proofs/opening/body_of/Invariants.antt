use Rattle.std.proofs.Common.{◌≡◌, drop}
use Rattle.rip_host.specs.Opening.{body_from}
use Rattle.rip_host.proofs.opening.body_of.Given as goal

abbrev pub invariant-loop-i : goal.invariant-loop-i
invariant-loop-i l = body_from 0 l.page.nodes ≡ body_from l.i (drop l.i l.page.nodes)
