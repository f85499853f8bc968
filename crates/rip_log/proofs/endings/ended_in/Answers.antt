use Rattle.std.proofs.Common.{rules}
use Rattle.rip_log.proofs.EndingLemmas.{only_mismatch}
use Rattle.rip_log.proofs.endings.ended_in.Goals as goal

pub returns-in_err-mismatch_in-clause-other : goal.returns-in_err-mismatch_in-clause-other
returns-in_err-mismatch_in-clause-other c =
    λ err. only_mismatch c.args.words.now c.in-Some.word.now c.next.new.self c.in-Some.ensures.some c.if-is_word-2.ensures.yes (c.in_err-mismatch_in.ensures.other (search rules))
