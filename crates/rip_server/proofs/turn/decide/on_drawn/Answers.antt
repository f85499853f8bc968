use Rattle.std.proofs.Common.{◌≡◌, ℕ, ◌+◌, Bool, true, false, length, sym, ap, ◌∙◌}
use Rattle.std.specs.Prelude.{codes, if◌then◌else◌}
use Rattle.rip_history.specs.Requests.{error_body, fails, identifiers_in, no_lack, on_drawn, opens, was_opened}
use Rattle.rip_table.specs.Rolls.{IsRollOf}
use Rattle.rip_server.specs.Deciding.{drawn_as}
use Rattle.rip_server.proofs.DecideLemmas.{comes_memory, comes_refused}
use Rattle.rip_server.proofs.DecidedLemmas.{comes_as, refused_as, told_of}
use Rattle.rip_server.proofs.turn.decide.on_drawn.Goals as goal

pub returns-then-was_opened-clause-comes : goal.returns-then-was_opened-clause-comes
returns-then-was_opened-clause-comes g c = λ limit h stages roll.
    let s = g.S.Sessions in
    let drawn = c.args.drawn in
    let was : was_opened drawn.id h ≡ true = sym (c.was_opened.ensures limit h roll.kept) ∙ c.if-was_opened.true in
    refused_as c.args.at.turn c.args.at.time 503 c.args.close (error_body (codes "clash")) h stages
    (IsRollOf (s.stands c.args.sessions.now) (s.meaning c.args.sessions.now) limit c.args.roll.now) (on_drawn h (drawn_as drawn) no_lack) c.refused.result
    (sym (ap (λ (b : Bool). if b then fails 503 (codes "clash") else opens (length (identifiers_in h) + 1) drawn.id drawn.seed) was))
    (c.refused.ensures c.args.at.turn c.args.at.time) roll

pub returns-in-Ok-clause-comes : goal.returns-in-Ok-clause-comes
returns-in-Ok-clause-comes g c = λ limit h stages roll.
    let s = g.S.Sessions in
    let drawn = c.args.drawn in
    let turn = c.args.at.turn in
    let time = c.args.at.time in
    let new : was_opened drawn.id h ≡ false = sym (c.was_opened.ensures limit h roll.kept) ∙ c.if-was_opened.false in
    let opened = c.in-Ok.ensures.opened limit turn h stages roll in
    comes_as turn time c.args.close h stages (IsRollOf (s.stands c.args.sessions.now) (s.meaning c.args.sessions.now) limit c.open.new.self)
    (on_drawn h (drawn_as drawn) no_lack) (opens c.in-Ok.session drawn.id drawn.seed) c.opened.result
    (ap (λ (n : ℕ). opens n drawn.id drawn.seed) opened.0
    ∙ sym (ap (λ (b : Bool). if b then fails 503 (codes "clash") else opens (length (identifiers_in h) + 1) drawn.id drawn.seed) new))
    (told_of turn time c.args.close h stages (IsRollOf (s.stands c.args.sessions.now) (s.meaning c.args.sessions.now) limit c.open.new.self)
    (opens c.in-Ok.session drawn.id drawn.seed) c.opened.result (c.opened.ensures c.args.close) opened.1)

pub returns-in-Err-clause-comes : goal.returns-in-Err-clause-comes
returns-in-Err-clause-comes g c = λ limit h stages roll.
    let s = g.S.Sessions in
    let turn = c.args.at.turn in
    let time = c.args.at.time in
    comes_memory turn time c.args.close h stages (IsRollOf (s.stands c.args.sessions.now) (s.meaning c.args.sessions.now) limit c.open.new.self)
    (on_drawn h (drawn_as c.args.drawn) no_lack) c.refused-in-Err.result
    (comes_refused turn time 503 c.args.close (error_body (codes "memory")) h stages
    (IsRollOf (s.stands c.args.sessions.now) (s.meaning c.args.sessions.now) limit c.open.new.self) c.refused-in-Err.result
    (c.refused-in-Err.ensures turn time) (c.in-Err.ensures.memory limit h stages roll))
