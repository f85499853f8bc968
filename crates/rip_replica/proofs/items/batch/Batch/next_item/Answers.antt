use Rattle.std.proofs.Common.{◌<◌, length, arith}
use Rattle.rip_replica.proofs.BatchLemmas.{begins_next}
use Rattle.rip_replica.proofs.items.batch.Batch.next_item.Goals as goal

pub returns-then-self-len-clause-plan : goal.returns-then-self-len-clause-plan
returns-then-self-len-clause-plan g c = λ w s.
    let less : c.args.self.now.begun < length c.args.self.now.batch.items = omega (arith, c.len.ensures, c.if-self-len.true) in
    rw c.begin.ensures.item_plan (begins_next (g.I.Items.item_plan c.args.self.now.items) (g.I.Items.under_way c.begin.new.self) c.args.self.now.batch.items c.args.self.now.begun w s c.begin.ensures.under_way less)
