use Rattle.rip_server.proofs.LegacyLemmas.{answered_opening, answered_batch}
use Rattle.rip_server.proofs.turn.answers.batch_answer.Goals as goal

pub returns-then-number-eq0 : goal.returns-then-number-eq0
returns-then-number-eq0 g c = λ limit h how kept so ended.
    answered_opening c.args.page.now c.args.session c.args.number how h c.opening_answer.result c.if-number-eq0.true
    (c.opening_answer.ensures how c.args.session h ended (c.opening_of.ensures limit c.args.number h how kept so))

pub returns : goal.returns
returns g c = λ limit h how kept so ended.
    answered_batch c.args.page.now c.args.session c.args.number how h c.args.ended c.served_of.result.now c.in_ok-body.body c.json_answer.result
    c.if-number-eq0.false ended (c.served_of.ensures limit c.args.number h how kept so) c.in_ok-body.ensures.text c.json_answer.ensures
