use Rattle.rip_headline.proofs.BrokenLaw.{broken_runs_serve}
use Rattle.rip_headline.proofs.prefixes.laws.broken_runs_serve_prefixes.Goals as goal

pub returns : goal.returns
returns c = broken_runs_serve
