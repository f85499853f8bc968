-- The bytes of the ring are those waiting.
use Rattle.std.proofs.Common.{◌∙◌}
use Rattle.rip_calls.proofs.QueueLemmas.{used_bytes}
use Rattle.rip_calls.proofs.queue.Queue.used.Goals as goal

pub returns-clause-used : goal.returns-clause-used
returns-clause-used c = rw (← c.self.view_is) (c.len.ensures.len ∙ used_bytes _ _ _ _ _ c.self.invariant.0)
