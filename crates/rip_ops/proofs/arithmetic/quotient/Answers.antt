use Rattle.rip_ops.proofs.QuotientLemmas.{quotient_law}
use Rattle.rip_ops.proofs.arithmetic.quotient.Goals as goal

pub returns-clause-law : goal.returns-clause-law
returns-clause-law c = quotient_law c.args.a c.args.b c.divided.result c.divided.ensures
