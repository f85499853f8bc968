use Rattle.rip_replica.proofs.PlannedItemLemmas.{of_fresh}
use Rattle.rip_replica.proofs.items.session.SessionItemsItemsItem.next_of.Goals as goal

pub returns-in-Fresh-clause-plan : goal.returns-in-Fresh-clause-plan
returns-in-Fresh-clause-plan g c =
    of_fresh g.H.PageHost.rules c.args.self.now.batch c.first_step.new.self.batch c.args.self.now.flow c.first_step.new.self.flow c.args.self.now.under_way
    c.first_step.new.self.under_way c.args.item.now c.args.number c.args.heap.now c.first_step.new.heap c.args.host.now c.first_step.new.host c.first_step.result c.in-Fresh.is
    c.first_step.ensures.batch c.first_step.ensures.plan

pub returns-in-Flowing-clause-plan : goal.returns-in-Flowing-clause-plan
returns-in-Flowing-clause-plan g c = rw (c.in-Flowing.is, c.flow_step.ensures.batch) (c.flow_step.ensures.plan c.args.item.now)
