-- The seat tells what was served.
use Rattle.rip_table.proofs.TellLemmas.{served_told, served_none}
use Rattle.rip_table.proofs.roll.roll.Roll.served.Goals as goal

pub returns-in-Some : goal.returns-in-Some
returns-in-Some g c = λ limit number h s k stands live done.
    served_told limit number c.args.self.now h c.args.session c.in-Some.seat.now s c.told.result.now c.in-Some.ensures c.told.ensures k stands live done

pub returns-in-None : goal.returns-in-None
returns-in-None g c = λ limit number h s k stands live done.
    absurd (served_none limit c.args.self.now h c.args.session s c.in-None.ensures k stands)
