use Rattle.std.proofs.Common.{arith}
use Rattle.rip_trace.proofs.LineLemmas.{other_moment}
use Rattle.rip_trace.proofs.line.moment_in.Goals as goal

pub returns-then-moment-gt-LAST_MOMENT-clause-none : goal.returns-then-moment-gt-LAST_MOMENT-clause-none
returns-then-moment-gt-LAST_MOMENT-clause-none c = λ _. other_moment c.args.rest.now c.in_ok-moment.moment c.in_ok-moment.ensures.some (omega arith) (omega (arith, c.if-moment-gt-LAST_MOMENT.true))
