use Rattle.rip_trace.proofs.LineLemmas.{only_word, none_is}
use Rattle.rip_trace.proofs.line.read_line.Goals as goal

pub returns-in-Some-behind-2-clause-other : goal.returns-in-Some-behind-2-clause-other
returns-in-Some-behind-2-clause-other c =
    λ err. only_word c.args.bytes.now c.in-Some-behind-2.digits.now c.in-Some-behind-2.ensures.some (c.word_line.ensures.none (none_is c.word_line.result (c.or_other-in-Some-behind-2.ensures.err err)))
