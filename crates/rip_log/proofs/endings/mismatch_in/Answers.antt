use Rattle.std.proofs.Common.{rules}
use Rattle.rip_log.proofs.EndingLemmas.{no_calls}
use Rattle.rip_log.proofs.endings.mismatch_in.Goals as goal

pub returns-in_err-reported-clause-other : goal.returns-in_err-reported-clause-other
returns-in_err-reported-clause-other c =
    λ err. no_calls c.args.words.now c.in-Some.item c.short.new.self c.in-Some-short.number c.short-2.new.self c.in-Some.ensures.some c.in-Some-short.ensures.some (c.in_err-reported.ensures.other (search rules))
