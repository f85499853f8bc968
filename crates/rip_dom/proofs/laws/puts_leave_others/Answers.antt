use Rattle.rip_dom.proofs.LawLemmas.{others-left}
use Rattle.rip_dom.proofs.laws.puts_leave_others.Goals as goal

pub returns : goal.returns
returns c = others-left
