use Rattle.std.proofs.Common.{refl, inl, inr}
use Rattle.rip_trace.proofs.GestureLemmas.{no_change, other_change}
use Rattle.rip_trace.proofs.gesture_line.change_in.Goals as goal

pub returns-in_err-node_of-in-Some-clause-none : goal.returns-in_err-node_of-in-Some-clause-none
returns-in_err-node_of-in-Some-clause-none c =
    λ _. other_change c.args.bytes.now c.in-Some.place.now c.in-Some.number c.in-Some.ensures.is c.in-Some.ensures.bounded (inl (c.in_err-node_of-in-Some.ensures.none refl))

pub returns-in_err-small_number-in-Some-clause-none : goal.returns-in_err-small_number-in-Some-clause-none
returns-in_err-small_number-in-Some-clause-none c =
    λ _. other_change c.args.bytes.now c.in-Some.place.now c.in-Some.number c.in-Some.ensures.is c.in-Some.ensures.bounded (inr (c.in_err-small_number-in-Some.ensures.none refl))

pub returns-in-None-clause-none : goal.returns-in-None-clause-none
returns-in-None-clause-none c = λ none. no_change c.args.bytes.now (c.in-None.ensures.none refl) (c.bare_in.ensures.none none)
