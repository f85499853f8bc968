use Rattle.rip_history.proofs.CourseLemmas.{courses_are_in_order, courses_count, courses_isolate}
use Rattle.rip_history.proofs.laws.courses_hold.Goals as goal

pub returns-clause-order : goal.returns-clause-order
returns-clause-order c = courses_are_in_order

pub returns-clause-counts : goal.returns-clause-counts
returns-clause-counts c = courses_count

pub returns-clause-isolation : goal.returns-clause-isolation
returns-clause-isolation c = courses_isolate
