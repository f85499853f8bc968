use Rattle.std.proofs.Common.{refl, arith}
use Rattle.rip_log.proofs.KindLemmas.{other_status}
use Rattle.rip_log.proofs.kinds.ended_run_in.Goals as goal

pub returns-in_err-status-clause-none : goal.returns-in_err-status-clause-none
returns-in_err-status-clause-none c =
    λ _. other_status c.args.words.now c.in_ok-turn.turn c.number.new.self c.in_ok-number.field-0 c.number-2.new.self c.in_ok-turn.ensures.some c.in_ok-number.ensures.some (omega arith) (c.in_err-status.ensures.none refl)
