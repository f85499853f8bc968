use Rattle.rip_app.proofs.Answering.{has_one_app, has_one_refusal, is_never_both}
use Rattle.rip_app.proofs.Existing.{has_an_answer}
use Rattle.rip_app.proofs.app.applications_are_one.Goals as goal

pub returns-clause-some : goal.returns-clause-some
returns-clause-some c = has_an_answer

pub returns-clause-application : goal.returns-clause-application
returns-clause-application c = has_one_app

pub returns-clause-refusal : goal.returns-clause-refusal
returns-clause-refusal c = has_one_refusal

pub returns-clause-apart : goal.returns-clause-apart
returns-clause-apart c = is_never_both
