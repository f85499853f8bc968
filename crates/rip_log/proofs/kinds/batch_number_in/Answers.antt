use Rattle.std.proofs.Common.{arith}
use Rattle.rip_log.proofs.KindLemmas.{other_number}
use Rattle.rip_log.proofs.kinds.batch_number_in.Goals as goal

pub returns-then-number-gt-MOST_BATCHES-clause-none : goal.returns-then-number-gt-MOST_BATCHES-clause-none
returns-then-number-gt-MOST_BATCHES-clause-none c =
    λ _. other_number c.args.words.now c.in_ok-number.number c.number.new.self c.in_ok-number.ensures.some (omega arith) (omega (arith, c.if-number-gt-MOST_BATCHES.true))
