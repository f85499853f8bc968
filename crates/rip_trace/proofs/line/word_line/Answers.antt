use Rattle.std.proofs.Common.{refl}
use Rattle.rip_trace.proofs.line.word_line.Goals as goal

pub returns-in_err-word_in-clause-none : goal.returns-in_err-word_in-clause-none
returns-in_err-word_in-clause-none c = λ _. c.in_err-word_in.ensures.none refl
