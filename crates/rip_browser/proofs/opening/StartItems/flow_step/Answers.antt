use Rattle.std.proofs.Common.{◌∙◌}
use Rattle.rip_replica.specs.Items.{fine}
use Rattle.rip_browser.proofs.OpeningLemmas.{calls-listener}
use Rattle.rip_browser.proofs.opening.StartItems.flow_step.Goals as goal

pub returns-in-None-clause-plan : goal.returns-in-None-clause-plan
returns-in-None-clause-plan c = λ start. c.in-None.ensures.plan c.args.number fine

pub returns-in-Some-clause-plan : goal.returns-in-Some-clause-plan
returns-in-Some-clause-plan c = λ start.
    c.in-Some.ensures.plan c.args.number fine
    ∙ calls-listener c.args.self.now.stage c.args.self.now.begun c.next_call.new.flow start c.args.number c.in-Some.call c.listener_step.result c.args.heap.now c.next_call.new.browser
    c.requires.stage c.listener_step.ensures
