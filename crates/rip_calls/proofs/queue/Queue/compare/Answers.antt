-- Without a line feed no call waits, and the bytes begin with the front.
use Rattle.std.proofs.Common.{refl, sym, arith}
use Rattle.rip_calls.proofs.QueueLemmas.{none_waits, none_front, some_waits, is_front, is_longer, is_other}
use Rattle.rip_calls.proofs.queue.Queue.compare.Goals as goal
use Rattle.rip_calls.proofs.queue.Queue.compare.Goals.{else-end-reported-via-then-end-reported+else-begins_with_line, else-end-reported-via-else-end-reported}

pub returns-in-None-clause-none : goal.returns-in-None-clause-none
returns-in-None-clause-none c =
    rw (← c.self.view_is) ((λ _. none_waits c.self.invariant.0 c.in-None.ensures), (λ _. refl))

pub returns-in-None-clause-same : goal.returns-in-None-clause-same
returns-in-None-clause-same c =
    rw (← c.self.view_is) ((λ e. absurd (cc)), (λ e. absurd (none_front c.self.invariant.0 c.in-None.ensures e)))

pub returns-then-begins_with_line-clause-same : goal.returns-then-begins_with_line-clause-same
returns-then-begins_with_line-clause-same c =
    rw (← c.self.view_is) ((λ _. is_front c.self.invariant.0 c.in-Some.ensures (omega (arith, c.if-end-reported.true)) (c.if-begins_with_line.ensures.0 refl)), (λ _. refl))

pub returns-else-end-reported-clause-same : goal.returns-else-end-reported-clause-same
returns-else-end-reported-clause-same c =
    rw (← c.self.view_is) (
      (λ e. absurd (cc)),
      (λ e. elim c.else-end-reported.branch [
        | else-end-reported-via-then-end-reported+else-begins_with_line w ↦ absurd (is_other c.self.invariant.0 w.if-begins_with_line.ensures e)
        | else-end-reported-via-else-end-reported w ↦ absurd (let long = is_longer c.self.invariant.0 c.in-Some.ensures e in omega (arith, long, w.if-end-reported))
      ]),
    )
