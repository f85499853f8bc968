use Rattle.rip_parser.proofs.Literals.{closed_by_first}
use Rattle.rip_parser.proofs.literal.is_plain.Goals as goal

pub returns-in-len1-up : goal.returns-in-len1-up
returns-in-len1-up c = closed_by_first c.args.spelling.now c.args.units.now c.is_closed.result c.in-len1-up.len_at_least c.is_closed.ensures
