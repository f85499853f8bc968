use Rattle.std.proofs.Common.{refl}
use Rattle.rip_log.proofs.KindLemmas.{served_tail}
use Rattle.rip_log.proofs.kinds.served_in.Goals as goal

pub returns-in_default-place_in-clause-other : goal.returns-in_default-place_in-clause-other
returns-in_default-place_in-clause-other c =
    λ _ turn session batch number name args time reply h e.
    c.in_default-place_in.ensures.none refl batch number _ h.2.from_one h.2.bounded h.2.number (served_tail c.args.words.now c.in-Some.field-0.turn c.in-Some.field-0.session c.head_in.new.words c.in-Some.ensures.some turn session batch number name args time reply e)
