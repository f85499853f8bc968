use Rattle.rip_headline.proofs.MatchedLemmas.{applications_serve}
use Rattle.rip_headline.proofs.prefixes.laws.applications_serve_prefixes.Goals as goal

pub returns : goal.returns
returns c = λ app seed time bs gs. applications_serve app seed time bs gs
