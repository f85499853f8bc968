use Rattle.std.proofs.Common.{refl}
use Rattle.rip_trace.proofs.GestureLemmas.{no_word, other_word, other_target}
use Rattle.rip_trace.proofs.gesture_line.report_in.Goals as goal

pub returns-in_default-clause-other : goal.returns-in_default-clause-other
returns-in_default-clause-other c = λ err. no_word c.args.bytes.now c.in_default.ensures.none

pub returns-in_default-kind_of-clause-other : goal.returns-in_default-kind_of-clause-other
returns-in_default-kind_of-clause-other c =
    λ err. other_word c.args.bytes.now c.in-Some.word.now c.in-Some.target.now c.in-Some.ensures.is c.in-Some.ensures.front (c.in_default-kind_of.ensures.none refl)

pub returns-clause-other : goal.returns-clause-other
returns-clause-other c =
    λ err. other_target c.args.bytes.now c.in-Some.word.now c.in-Some.target.now c.in-Some-kind_of.kind c.in-Some.ensures.is c.in-Some.ensures.front c.in-Some-kind_of.ensures.is (c.target_in.ensures.other err)
