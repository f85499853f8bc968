-- The call is a line more behind the others.
use Rattle.std.proofs.Common.{arith, refl}
use Rattle.rip_calls.proofs.QueueLemmas.{pushed, used_bytes}
use Rattle.rip_calls.proofs.queue.Queue.push_made.Goals as goal

pub returns-clause-limit : goal.returns-clause-limit
returns-clause-limit c =
    let held = used_bytes _ _ _ _ _ c.self.invariant.0 in
    rw (← c.self.view_is) ((λ e. absurd (cc)), (λ passed. absurd (omega (arith, held))))

pub returns-then-call-capacity-clause-limit : goal.returns-then-call-capacity-clause-limit
returns-then-call-capacity-clause-limit c =
    let held = used_bytes _ _ _ _ _ c.self.invariant.0 in
    rw (← c.self.view_is) ((λ _. omega (arith, held)), (λ _. refl))

pub invariant_of-self : goal.invariant_of-self
invariant_of-self c =
    rw (c.push_back.ensures.items, c.push_back-2.ensures.items, c.extend_from_slice.ensures, c.with-self-inside.ensures, c.saturating_add-self-inside.ensures)
    (pushed _ _ _ _ _ _ _ _ c.self.invariant.0 c.self.invariant.1 c.requires.line c.requires.least (omega arith), c.self.invariant.1)
