-- The first line is the front.
use Rattle.std.proofs.Common.{Some, ap, ◌∙◌}
use Rattle.rip_calls.proofs.QueueLemmas.{front_is, front_none}
use Rattle.rip_calls.proofs.queue.Queue.front.Goals as goal

pub returns-in_ok-first_bytes-in-Some : goal.returns-in_ok-first_bytes-in-Some
returns-in_ok-first_bytes-in-Some c =
    rw (← c.self.view_is) (ap Some c.in_ok-first_bytes-in-Some.ensures ∙ front_is c.self.invariant.0 c.in-Some.ensures)

pub returns-in-None : goal.returns-in-None
returns-in-None c = rw (← c.self.view_is) (front_none c.self.invariant.0 c.in-None.ensures)
