use Rattle.rip_app.proofs.Answering.{only_app, first_cause}
use Rattle.rip_app.proofs.app.load.Goals as goal

pub returns-clause-only : goal.returns-clause-only
returns-clause-only c = only_app c.args.page.now c.args.manifest.now c.application_of.result c.application_of.ensures.loaded c.application_of.ensures.refused

pub returns-clause-first : goal.returns-clause-first
returns-clause-first c = first_cause c.args.page.now c.args.manifest.now c.application_of.result c.application_of.ensures.loaded c.application_of.ensures.refused
