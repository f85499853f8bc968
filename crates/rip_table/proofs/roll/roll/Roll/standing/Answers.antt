-- The seat tells the standing.
use Rattle.std.proofs.Common.{◌∙◌, ap, Some, None}
use Rattle.rip_history.specs.declared.standing.Standing.{Standing}
use Rattle.rip_table.proofs.TellLemmas.{standing_told}
use Rattle.rip_table.proofs.roll.roll.Roll.standing.Goals as goal

pub returns-in-Some : goal.returns-in-Some
returns-in-Some g c = λ limit h k.
    ap (λ (s : Standing). Some s) c.standing.ensures
    ∙ standing_told limit c.args.self.now h c.args.session (Some c.in-Some.seat.now) c.in-Some.ensures k

pub returns-in-None : goal.returns-in-None
returns-in-None g c = λ limit h k. standing_told limit c.args.self.now h c.args.session None c.in-None.ensures k
