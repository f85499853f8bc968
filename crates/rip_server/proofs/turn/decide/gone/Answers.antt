use Rattle.std.proofs.Common.{[]}
use Rattle.rip_wire.specs.Answers.{answer_text}
use Rattle.rip_server.proofs.DecidedLemmas.{body_is}
use Rattle.rip_server.proofs.turn.decide.gone.Goals as goal

pub returns : goal.returns
returns c = λ turn time.
    body_is turn time 410 c.args.close c.in_ok-body.body (answer_text (record { number = c.args.standing.last; ended = c.args.standing.ended; served = [] })) c.answered.result
    c.in_ok-body.ensures.text (c.answered.ensures turn time)
