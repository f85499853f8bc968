use Rattle.std.proofs.Common.{◌∙◌, ap, map}
use Rattle.rip_wire.specs.Answers.{served_of}
use Rattle.rip_server.proofs.LegacyLemmas.{served_left, lives_still}
use Rattle.rip_server.proofs.turn.answers.served_of.Goals as goal

pub returns-in-Some : goal.returns-in-Some
returns-in-Some g c = λ limit number h how kept so.
    ap (map served_of) c.as_slice.ensures.value
    ∙ served_left how c.args.legacy.now c.in-Some.left c.args.session number h c.in-Some.is so

pub returns-in-None : goal.returns-in-None
returns-in-None g c = λ limit number h how kept so.
    c.served.ensures limit number h so.standing kept so.stands (lives_still how c.args.legacy.now c.args.session number h c.in-None.is so) so.done
