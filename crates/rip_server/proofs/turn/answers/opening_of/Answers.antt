use Rattle.rip_server.proofs.LegacyLemmas.{opening_left, lives_still}
use Rattle.rip_server.proofs.turn.answers.opening_of.Goals as goal

pub returns-in-Some : goal.returns-in-Some
returns-in-Some g c = λ limit number h how kept so.
    opening_left how c.args.legacy.now c.in-Some.left c.args.session number h c.in-Some.is so

pub returns-in-None : goal.returns-in-None
returns-in-None g c = λ limit number h how kept so.
    c.opening.ensures limit h so.standing kept so.stands (lives_still how c.args.legacy.now c.args.session number h c.in-None.is so)
