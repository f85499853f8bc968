use Rattle.std.proofs.Common.{◌∷◌, decimal}
use Rattle.rip_log.proofs.KindLemmas.{zero_number}
use Rattle.rip_log.proofs.kinds.place_in.Goals as goal

pub returns-then-batch-eq0-clause-none : goal.returns-then-batch-eq0-clause-none
returns-then-batch-eq0-clause-none c =
    λ _ batch number rest some bounded small e. zero_number c.args.words.now c.in_ok-batch.batch c.batch_number_in.new.words c.in_ok-batch.ensures.some c.if-batch-eq0.true batch (decimal number ∷ rest) some bounded e
