use Rattle.std.proofs.Common.{◌∙◌}
use Rattle.rip_replica.specs.Items.{fine}
use Rattle.rip_replica.proofs.items.session.SessionItems.event_step.Goals as goal

pub returns-in-Ok-clause-plan : goal.returns-in-Ok-clause-plan
returns-in-Ok-clause-plan g c = λ item. c.in-Ok.ensures.reports c.args.number fine ∙ c.flow_step.ensures.plan item
