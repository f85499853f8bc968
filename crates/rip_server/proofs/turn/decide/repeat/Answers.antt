use Rattle.std.proofs.Common.{List, None, ap, ◌∙◌}
use Rattle.rip_wire.specs.Answers.{Served, answer_text}
use Rattle.rip_history.specs.Requests.{served_in}
use Rattle.rip_server.proofs.DecidedLemmas.{body_is}
use Rattle.rip_server.proofs.turn.decide.repeat.Goals as goal

pub returns : goal.returns
returns g c = λ limit turn time h s kept stands live done.
    body_is turn time 200 c.args.close c.in_ok-body.body (answer_text (record { number = c.args.number; ended = None; served = served_in c.args.session c.args.number h })) c.answered.result
    (c.in_ok-body.ensures.text ∙ ap (λ (xs : List Served). answer_text (record { number = c.args.number; ended = None; served = xs })) (c.served.ensures limit c.args.number h s kept stands live done))
    (c.answered.ensures turn time)
