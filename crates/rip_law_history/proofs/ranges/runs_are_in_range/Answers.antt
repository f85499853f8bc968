use Rattle.rip_law_history.proofs.RangeRunLemmas.{runs_are_in_range, logs_are_in_range, broken_runs_are_in_range}
use Rattle.rip_law_history.proofs.ranges.runs_are_in_range.Goals as goal

pub returns-clause-histories : goal.returns-clause-histories
returns-clause-histories c = runs_are_in_range

pub returns-clause-logs : goal.returns-clause-logs
returns-clause-logs c = logs_are_in_range

pub returns-clause-broken : goal.returns-clause-broken
returns-clause-broken c = broken_runs_are_in_range
