use Rattle.rip_convert.proofs.Calling.{calls_are_told, lists_are_told}
use Rattle.rip_convert.proofs.laws.calls_are_told.Goals as goal

pub returns-clause-calls : goal.returns-clause-calls
returns-clause-calls c = calls_are_told

pub returns-clause-lists : goal.returns-clause-lists
returns-clause-lists c = lists_are_told
