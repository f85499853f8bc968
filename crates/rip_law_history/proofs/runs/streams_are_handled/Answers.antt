use Rattle.rip_law_history.proofs.StreamLemmas.{nothing_is_left, streams_are_handled}
use Rattle.rip_law_history.proofs.runs.streams_are_handled.Goals as goal

pub returns-clause-taken : goal.returns-clause-taken
returns-clause-taken c = streams_are_handled

pub returns-clause-all : goal.returns-clause-all
returns-clause-all c = nothing_is_left
