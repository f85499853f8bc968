use Rattle.std.proofs.Common.{refl, arith}
use Rattle.rip_trace.proofs.LineLemmas.{other_quit}
use Rattle.rip_trace.proofs.say.quit_in.Goals as goal

pub returns-in_err-session-clause-none : goal.returns-in_err-session-clause-none
returns-in_err-session-clause-none c = λ _. other_quit c.args.rest.now c.in_ok-read_number.field-0 c.in_ok-read_number.ensures.some (omega arith) (c.in_err-session.ensures.none refl)
