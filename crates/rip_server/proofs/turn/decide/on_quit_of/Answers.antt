use Rattle.std.proofs.Common.{[], ap}
use Rattle.std.specs.Prelude.{codes}
use Rattle.rip_wire.specs.Answers.{answer_text}
use Rattle.rip_history.specs.Decisions.{close_decision}
use Rattle.rip_history.specs.Requests.{error_body, on_close_of}
use Rattle.rip_history.specs.declared.decision.CloseDecision.{CloseDecision}
use Rattle.rip_table.specs.Rolls.{IsRollOf}
use Rattle.rip_server.proofs.DecidedLemmas.{refused_at}
use Rattle.rip_server.proofs.turn.decide.on_quit_of.Goals as goal

pub returns-in-Gone-clause-comes : goal.returns-in-Gone-clause-comes
returns-in-Gone-clause-comes g c = λ sessions limit h stages roll stands.
    let s = g.S.Sessions in
    let st = c.args.standing in
    refused_at c.args.at.turn c.args.at.time 410 c.args.close (answer_text (record { number = st.last; ended = st.ended; served = [] })) h stages
    (IsRollOf (s.stands sessions) (s.meaning sessions) limit c.args.roll.now) (on_close_of c.args.session st (close_decision st)) c.gone.result
    (ap (λ (d : CloseDecision). on_close_of c.args.session st d) c.in-Gone.ensures) (c.gone.ensures c.args.at.turn c.args.at.time) roll

pub returns-in-Busy-clause-comes : goal.returns-in-Busy-clause-comes
returns-in-Busy-clause-comes g c = λ sessions limit h stages roll stands.
    let s = g.S.Sessions in
    let st = c.args.standing in
    refused_at c.args.at.turn c.args.at.time 409 c.args.close (error_body (codes "busy")) h stages
    (IsRollOf (s.stands sessions) (s.meaning sessions) limit c.args.roll.now) (on_close_of c.args.session st (close_decision st)) c.refused.result
    (ap (λ (d : CloseDecision). on_close_of c.args.session st d) c.in-Busy.ensures) (c.refused.ensures c.args.at.turn c.args.at.time) roll
