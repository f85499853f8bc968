use Rattle.rip_http.proofs.TargetLemmas.{first_mark}
use Rattle.rip_http.proofs.target.query_start.Goals as goal

pub returns-clause-value : goal.returns-clause-value
returns-clause-value c = first_mark c.args.target.now c.memchr.result c.memchr.ensures
