use Rattle.rip_trace.proofs.LineLemmas.{other_digits}
use Rattle.rip_trace.proofs.line.word_told.Goals as goal

pub returns-clause-none : goal.returns-clause-none
returns-clause-none c = λ none. other_digits c.args.bytes.now c.in_ok-behind.field-0.now c.in_ok-behind.ensures.some (c.word_in.ensures.none none)
