use Rattle.rip_client.specs.Sizes.{place_of}
use Rattle.rip_client.proofs.Telling.{Answers}
use Rattle.rip_client.proofs.client.Client.tell_replies.Given as goal

-- the replies that are left follow those that were told
abbrev pub invariant-loop-number : goal.invariant-loop-number
invariant-loop-number g l = Answers g.A.Actor.session l.due l.number-index (place_of l.initial.self l.initial.giver) (place_of l.self l.giver)
