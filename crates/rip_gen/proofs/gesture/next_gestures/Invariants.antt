use Rattle.rip_gen.proofs.PlanLemmas.{Drawing}
use Rattle.rip_gen.proofs.gesture.next_gestures.Given as goal

-- these gestures were drawn so far
abbrev pub invariant-loop : goal.invariant-loop
invariant-loop l = Drawing l.count l.fn.draws l.counter l.gestures.items l.draws
