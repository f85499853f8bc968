use Rattle.std.proofs.Common.{[], ◌∷◌, decimal, refl, sym, ◌∙◌}
use Rattle.rip_log.proofs.EndingLemmas.{first_same, rest_same}
use Rattle.rip_log.proofs.KindLemmas.{opened_tail}
use Rattle.rip_log.proofs.kinds.opened_in.Goals as goal

pub returns-in_err-id-clause-none : goal.returns-in_err-id-clause-none
returns-in_err-id-clause-none c =
    λ _ turn session id seed time h e.
    let tail = opened_tail c.args.words.now c.in_ok-turn.field-0.turn c.in_ok-turn.field-0.session c.head_in.new.words c.in_ok-turn.ensures.some turn session id seed time e in
    c.in_err-id.ensures.none refl id h.2 (first_same _ _ _ _ (sym c.in_ok-next.ensures.some ∙ tail))

pub returns-in_err-seed-clause-none : goal.returns-in_err-seed-clause-none
returns-in_err-seed-clause-none c =
    λ _ turn session id seed time h e.
    let tail = opened_tail c.args.words.now c.in_ok-turn.field-0.turn c.in_ok-turn.field-0.session c.head_in.new.words c.in_ok-turn.ensures.some turn session id seed time e in
    c.in_err-seed.ensures.none refl seed (decimal time ∷ []) h.3 (rest_same _ _ _ _ (sym c.in_ok-next.ensures.some ∙ tail))

pub returns-in_err-time-clause-none : goal.returns-in_err-time-clause-none
returns-in_err-time-clause-none c =
    λ _ turn session id seed time h e.
    let tail = opened_tail c.args.words.now c.in_ok-turn.field-0.turn c.in_ok-turn.field-0.session c.head_in.new.words c.in_ok-turn.ensures.some turn session id seed time e in
    let behind = rest_same _ _ _ _ (sym c.in_ok-next.ensures.some ∙ tail) in
    c.in_err-time.ensures.none refl time [] h.4 (rest_same _ _ _ _ (sym c.in_ok-seed.ensures.some ∙ behind))
