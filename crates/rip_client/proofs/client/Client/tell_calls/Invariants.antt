use Rattle.rip_client.specs.Sizes.{place_of}
use Rattle.rip_client.proofs.Telling.{Follows}
use Rattle.rip_client.proofs.client.Client.tell_calls.Given as goal

-- the calls that wait now follow those that were told
abbrev pub invariant-loop-told : goal.invariant-loop-told
invariant-loop-told g l = Follows g.A.Actor.session (place_of l.initial.self l.initial.giver) (place_of l.self l.giver)
