use Rattle.rip_grammar.proofs.Producing.{made_by_production, production_makes}
use Rattle.rip_grammar.proofs.laws.operators_bind_by_productions.Goals as goal

pub returns-clause-made : goal.returns-clause-made
returns-clause-made c = made_by_production

pub returns-clause-makes : goal.returns-clause-makes
returns-clause-makes c = production_makes
