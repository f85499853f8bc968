use Rattle.std.proofs.Common.{refl, rules}
use Rattle.rip_trace.proofs.GestureLemmas.{late_input, other_input}
use Rattle.rip_trace.proofs.gesture_line.input_in.Goals as goal

pub returns-in_default-node_of-clause-other : goal.returns-in_default-node_of-clause-other
returns-in_default-node_of-clause-other c =
    λ err. late_input c.args.bytes.now c.in-Some.utf8.now c.in-Some.number c.in-Some.ensures.is c.in-Some.ensures.bounded (c.in_default-node_of.ensures.none refl)

pub returns-in_err-text_in-clause-other : goal.returns-in_err-text_in-clause-other
returns-in_err-text_in-clause-other c =
    λ err. other_input c.args.bytes.now c.in-Some.utf8.now c.in-Some.number c.in-Some.ensures.is c.in-Some.ensures.bounded (c.in_err-text_in.ensures.other (search rules))
