use Rattle.std.proofs.Common.{refl}
use Rattle.rip_trace.proofs.LineLemmas.{other_report}
use Rattle.rip_trace.proofs.say.report_in.Goals as goal

pub returns-in_err-session-clause-none : goal.returns-in_err-session-clause-none
returns-in_err-session-clause-none c = λ _. other_report c.args.rest.now c.in_ok-number.number c.in_ok-number.body.now c.in_ok-number.ensures.is c.in_ok-number.ensures.bounded (c.in_err-session.ensures.none refl)
