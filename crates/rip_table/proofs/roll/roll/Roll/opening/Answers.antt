-- The seat tells the opening.
use Rattle.rip_table.proofs.TellLemmas.{opening_is_told, served_none}
use Rattle.rip_table.proofs.roll.roll.Roll.opening.Goals as goal

pub returns-in-Some : goal.returns-in-Some
returns-in-Some g c = λ limit h s k stands live.
    opening_is_told limit c.args.self.now h c.args.session c.in-Some.seat.now s c.opening.result c.in-Some.ensures c.opening.ensures k stands live

pub returns-in-None : goal.returns-in-None
returns-in-None g c = λ limit h s k stands live. absurd (served_none limit c.args.self.now h c.args.session s c.in-None.ensures k stands)
