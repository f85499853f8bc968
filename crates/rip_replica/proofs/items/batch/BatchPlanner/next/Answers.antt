use Rattle.std.proofs.Common.{ap}
use Rattle.rip_replica.proofs.BatchLemmas.{step_of_batch}
use Rattle.rip_replica.proofs.items.batch.BatchPlanner.next.Goals as goal

pub returns-in-Some-clause-plan : goal.returns-in-Some-clause-plan
returns-in-Some-clause-plan g c =
    let old = c.args.self.now in
    let new = c.within_item.new.self in
    let kept = c.within_item.ensures.batch in
    step_of_batch (g.I.Items.item_plan old.items) (g.I.Items.item_plan new.items) (g.I.Items.under_way old.items) (g.I.Items.under_way new.items)
    old.batch.items new.batch.items old.begun new.begun old.stage new.stage c.args.heap.now c.within_item.new.heap c.args.host.now c.within_item.new.host c.in-Some.step
    c.in-Within.is c.within_item.ensures.items.0 (ap (λ b. b.items) kept.0) kept.1 kept.2 (rw c.in-Some.is at c.in_ok-step-in-Within.ensures.plan)
