use Rattle.std.proofs.Common.{rules}
use Rattle.rip_log.proofs.LineLemmas.{other_line}
use Rattle.rip_log.proofs.read.read_first.Goals as goal

pub returns-in_err-entry-clause-other : goal.returns-in_err-entry-clause-other
returns-in_err-entry-clause-other c =
    λ err. other_line c.args.text.now c.in-Some.line.now c.in-Some.behind.now c.in-Some.ensures.is c.in-Some.ensures.line (c.in_err-entry.ensures.other (search rules))
