use Rattle.rip_history.proofs.TurnLemmas.{turns_are_first, turns_keep_order, distance_is_of_cost}
use Rattle.rip_history.proofs.laws.turns_are_first.Goals as goal

pub returns-clause-first : goal.returns-clause-first
returns-clause-first c = turns_are_first

pub returns-clause-order : goal.returns-clause-order
returns-clause-order c = turns_keep_order

pub returns-clause-distance : goal.returns-clause-distance
returns-clause-distance c = distance_is_of_cost
