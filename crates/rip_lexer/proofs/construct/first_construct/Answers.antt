use Rattle.std.proofs.Common.{sym, subst}
use Rattle.rip_lexer.specs.View.{IsConstruct}
use Rattle.rip_lexer.proofs.Constructs.{unit_refused}
use Rattle.rip_lexer.proofs.construct.first_construct.Goals as goal

pub returns-in-White-clause-construct : goal.returns-in-White-clause-construct
returns-in-White-clause-construct c =
    subst (λ r. IsConstruct c.args.units.now r) (sym c.refused.ensures)
    (unit_refused c.args.units.now c.class_of.result c.in-len1-up.len_at_least c.requires c.class_of.ensures c.in-White.is)
