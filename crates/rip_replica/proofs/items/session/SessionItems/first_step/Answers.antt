use Rattle.rip_replica.specs.Items.{left_of_item}
use Rattle.rip_replica.proofs.PlannedItemLemmas.{of_event, of_reply}
use Rattle.rip_replica.proofs.items.session.SessionItems.first_step.Goals as goal

pub returns-in-Event-clause-plan : goal.returns-in-Event-clause-plan
returns-in-Event-clause-plan g c =
    of_event g.H.PageHost.rules c.args.self.now.batch c.args.item.now c.in-Event.report c.args.number c.args.heap.now c.event_step.new.heap c.args.host.now
    c.event_step.new.host (λ item. left_of_item g.H.PageHost.rules c.args.self.now.batch c.event_step.new.self.flow c.event_step.new.self.under_way item c.args.number)
    c.event_step.result c.in-Event.is c.event_step.ensures.plan

pub returns-in-Reply-clause-plan : goal.returns-in-Reply-clause-plan
returns-in-Reply-clause-plan g c =
    of_reply g.H.PageHost.rules c.args.self.now.batch c.args.item.now c.in-Reply.call c.args.number c.args.heap.now c.reply_step.new.heap c.args.host.now
    c.reply_step.new.host (λ item. left_of_item g.H.PageHost.rules c.args.self.now.batch c.reply_step.new.self.flow c.reply_step.new.self.under_way item c.args.number)
    c.reply_step.result c.in-Reply.is c.reply_step.ensures.plan
