use Rattle.rip_headline.proofs.Runs.{are_complete}
use Rattle.rip_headline.proofs.completeness.laws.truthful_clients_are_complete.Goals as goal

pub returns : goal.returns
returns c = are_complete
