use Rattle.rip_law_history.proofs.EndLemmas.{runs_end, runs_put}
use Rattle.rip_law_history.proofs.WholeRunLemmas.{runs_are_courses}
use Rattle.rip_law_history.proofs.runs.runs_are_courses.Goals as goal

pub returns-clause-courses : goal.returns-clause-courses
returns-clause-courses c = runs_are_courses

pub returns-clause-ends : goal.returns-clause-ends
returns-clause-ends c = runs_end

pub returns-clause-puts : goal.returns-clause-puts
returns-clause-puts c = runs_put
