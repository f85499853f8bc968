use Rattle.std.proofs.Common.{refl}
use Rattle.rip_trace.proofs.Spaces.{no_space_there, other_numeral}
use Rattle.rip_trace.proofs.text.number_then.Goals as goal

pub returns-in_err-word-clause-none : goal.returns-in_err-word-clause-none
returns-in_err-word-clause-none c = λ _. no_space_there c.args.bytes.now c.in_err-word.ensures.none

pub returns-in_err-number-clause-none : goal.returns-in_err-number-clause-none
returns-in_err-number-clause-none c =
    λ _. other_numeral c.args.bytes.now c.in_ok-word.word.now c.in_ok-word.rest.now c.in_ok-word.ensures.is c.in_ok-word.ensures.front (c.in_err-number.ensures.none refl)
