use Rattle.std.proofs.Common.{[], None, ap}
use Rattle.std.specs.Prelude.{codes}
use Rattle.rip_wire.specs.Answers.{answer_text}
use Rattle.rip_wire.specs.Batches.{contents_of}
use Rattle.rip_history.specs.Decisions.{batch_decision}
use Rattle.rip_history.specs.Requests.{error_body, on_batch_of, served_in}
use Rattle.rip_history.specs.declared.decision.BatchDecision.{BatchDecision}
use Rattle.rip_table.specs.Rolls.{IsRollOf}
use Rattle.rip_server.proofs.DecidedLemmas.{refused_as, repeats_done, repeats_live}
use Rattle.rip_server.proofs.turn.decide.on_batch_of.Goals as goal

pub returns-in-Repeat-clause-comes : goal.returns-in-Repeat-clause-comes
returns-in-Repeat-clause-comes g c = λ limit h stages roll stands.
    let s = g.S.Sessions in
    let st = c.args.standing in
    refused_as c.args.at.turn c.args.at.time 200 c.args.close (answer_text (record { number = c.args.batch.number; ended = None; served = served_in c.args.session c.args.batch.number h })) h stages
    (IsRollOf (s.stands c.args.sessions.now) (s.meaning c.args.sessions.now) limit c.args.roll.now)
    (on_batch_of c.args.session h st (contents_of c.args.batch) (batch_decision st c.args.batch.number)) c.repeat.result
    (ap (λ (d : BatchDecision). on_batch_of c.args.session h st (contents_of c.args.batch) d) c.in-Repeat.ensures) (c.repeat.ensures limit c.args.at.turn c.args.at.time h st roll.kept stands (repeats_live st c.args.batch.number c.in-Repeat.ensures) (repeats_done st c.args.batch.number c.in-Repeat.ensures)) roll

pub returns-in-Gone-clause-comes : goal.returns-in-Gone-clause-comes
returns-in-Gone-clause-comes g c = λ limit h stages roll stands.
    let s = g.S.Sessions in
    let st = c.args.standing in
    refused_as c.args.at.turn c.args.at.time 410 c.args.close (answer_text (record { number = st.last; ended = st.ended; served = [] })) h stages
    (IsRollOf (s.stands c.args.sessions.now) (s.meaning c.args.sessions.now) limit c.args.roll.now)
    (on_batch_of c.args.session h st (contents_of c.args.batch) (batch_decision st c.args.batch.number)) c.gone.result
    (ap (λ (d : BatchDecision). on_batch_of c.args.session h st (contents_of c.args.batch) d) c.in-Gone.ensures) (c.gone.ensures c.args.at.turn c.args.at.time) roll

pub returns-in-Busy-clause-comes : goal.returns-in-Busy-clause-comes
returns-in-Busy-clause-comes g c = λ limit h stages roll stands.
    let s = g.S.Sessions in
    let st = c.args.standing in
    refused_as c.args.at.turn c.args.at.time 409 c.args.close (error_body (codes "busy")) h stages
    (IsRollOf (s.stands c.args.sessions.now) (s.meaning c.args.sessions.now) limit c.args.roll.now)
    (on_batch_of c.args.session h st (contents_of c.args.batch) (batch_decision st c.args.batch.number)) c.refused.result
    (ap (λ (d : BatchDecision). on_batch_of c.args.session h st (contents_of c.args.batch) d) c.in-Busy.ensures) (c.refused.ensures c.args.at.turn c.args.at.time) roll

pub returns-in-Old-clause-comes : goal.returns-in-Old-clause-comes
returns-in-Old-clause-comes g c = λ limit h stages roll stands.
    let s = g.S.Sessions in
    let st = c.args.standing in
    refused_as c.args.at.turn c.args.at.time 409 c.args.close (error_body (codes "old")) h stages
    (IsRollOf (s.stands c.args.sessions.now) (s.meaning c.args.sessions.now) limit c.args.roll.now)
    (on_batch_of c.args.session h st (contents_of c.args.batch) (batch_decision st c.args.batch.number)) c.refused-in-Old.result
    (ap (λ (d : BatchDecision). on_batch_of c.args.session h st (contents_of c.args.batch) d) c.in-Old.ensures) (c.refused-in-Old.ensures c.args.at.turn c.args.at.time) roll

pub returns-in-Gap-clause-comes : goal.returns-in-Gap-clause-comes
returns-in-Gap-clause-comes g c = λ limit h stages roll stands.
    let s = g.S.Sessions in
    let st = c.args.standing in
    refused_as c.args.at.turn c.args.at.time 409 c.args.close (error_body (codes "gap")) h stages
    (IsRollOf (s.stands c.args.sessions.now) (s.meaning c.args.sessions.now) limit c.args.roll.now)
    (on_batch_of c.args.session h st (contents_of c.args.batch) (batch_decision st c.args.batch.number)) c.refused-in-Gap.result
    (ap (λ (d : BatchDecision). on_batch_of c.args.session h st (contents_of c.args.batch) d) c.in-Gap.ensures) (c.refused-in-Gap.ensures c.args.at.turn c.args.at.time) roll
