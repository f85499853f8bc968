-- The first line is the front.
use Rattle.std.proofs.Common.{sym, ◌∙◌}
use Rattle.rip_calls.proofs.LineLemmas.{end_of_front}
use Rattle.rip_calls.proofs.QueueLemmas.{no_texts, taken}
use Rattle.rip_calls.proofs.queue.Queue.take.Goals as goal

pub unwrap-end-requires : goal.unwrap-end-requires
unwrap-end-requires c =
    rw (c.line_end.ensures, c.self.invariant.0.lines) (end_of_front _ c.self.invariant.0.one_line (λ none. c.requires (rw (← c.self.view_is) (no_texts _ none))))

pub invariant_of-self : goal.invariant_of-self
invariant_of-self c =
    rw (c.truncate_front.ensures, c.pop_front.ensures.items, c.without_first-self-inside.ensures, c.len.ensures.len, c.saturating_add-self-inside.ensures)
    (taken _ _ _ _ _ _ c.self.invariant.0 (λ none. c.requires (rw (← c.self.view_is) none)) (sym c.line_end.ensures ∙ c.unwrap-end.ensures), c.self.invariant.1)
