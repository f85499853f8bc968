use Rattle.rip_parser.proofs.Holding.{are_held_once}
use Rattle.rip_parser.proofs.laws.nodes_are_held_once.Goals as goal

pub returns : goal.returns
returns c = are_held_once
