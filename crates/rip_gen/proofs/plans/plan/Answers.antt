use Rattle.std.proofs.Common.{◌+◌, ◌*◌, length, ap, ◌∙◌, arith}
use Rattle.rip_gen.proofs.PlanLemmas.{gestures_many}
use Rattle.rip_gen.proofs.plans.plan.Goals as goal

pub invariant_of-result : goal.invariant_of-result
invariant_of-result c =
    (ap length c.in_ok-next_gestures.ensures ∙ gestures_many (40 * (4 + c.below-sessions.result)) c.below-liar.new.self, omega (arith, c.below-sessions.ensures.below))
