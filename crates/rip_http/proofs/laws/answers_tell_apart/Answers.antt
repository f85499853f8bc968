use Rattle.rip_http.proofs.AnswerLemmas.{answers_tell_apart}
use Rattle.rip_http.proofs.laws.answers_tell_apart.Goals as goal

pub returns : goal.returns
returns c = answers_tell_apart
