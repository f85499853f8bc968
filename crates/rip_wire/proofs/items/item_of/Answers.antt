use Rattle.rip_wire.proofs.ItemLemmas.{no_event, no_call, no_reply, word_is}
use Rattle.rip_wire.proofs.items.item_of.Goals as goal

pub returns-in-Some-event-clause-body : goal.returns-in-Some-event-clause-body
returns-in-Some-event-clause-body c =
    λ body. no_event _ _ _ c.in-Some.ensures.found (word_is _ _ _ c.in-Some-event.ensures c.in-Some-event.is-event) (c.event_of.ensures.body body)

pub returns-in-Some-call-clause-body : goal.returns-in-Some-call-clause-body
returns-in-Some-call-clause-body c =
    λ body. no_call _ _ _ c.in-Some.ensures.found (word_is _ _ _ c.in-Some-call.ensures c.in-Some-call.is-call) (c.call_of.ensures.body body)

pub returns-in-Some-reply-clause-body : goal.returns-in-Some-reply-clause-body
returns-in-Some-reply-clause-body c =
    λ body. no_reply _ _ _ c.in-Some.ensures.found (word_is _ _ _ c.in-Some-reply.ensures c.in-Some-reply.is-reply) (c.reply_of.ensures.body body)
