use Rattle.rip_headline.proofs.LackLemmas.{lacks_at_calls}
use Rattle.rip_headline.proofs.prefixes.laws.lacks_are_at_calls.Goals as goal

pub returns : goal.returns
returns c = λ app seed time bs gs l lack. lacks_at_calls app seed time bs gs l lack
