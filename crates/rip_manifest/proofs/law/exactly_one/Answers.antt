use Rattle.rip_manifest.proofs.AnswerLemmas.{one_answer}
use Rattle.rip_manifest.proofs.Answering.{an_answer}
use Rattle.rip_manifest.proofs.law.exactly_one.Goals as goal

pub returns-clause-some : goal.returns-clause-some
returns-clause-some c = an_answer

pub returns-clause-one : goal.returns-clause-one
returns-clause-one c = one_answer
