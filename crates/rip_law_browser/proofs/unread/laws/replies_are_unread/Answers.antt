use Rattle.rip_law_browser.proofs.UnreadAnswers.{answers_read_none, runs_read_none}
use Rattle.rip_law_browser.proofs.unread.laws.replies_are_unread.Goals as goal

pub returns-clause-answers : goal.returns-clause-answers
returns-clause-answers c = answers_read_none

pub returns-clause-runs : goal.returns-clause-runs
returns-clause-runs c = runs_read_none
