use Rattle.rip_dom.proofs.LawLemmas.{numbers-new}
use Rattle.rip_dom.proofs.laws.numbers_are_new.Goals as goal

pub returns : goal.returns
returns c = numbers-new
