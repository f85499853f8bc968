use Rattle.std.proofs.Common.{◌∙◌, length}
use Rattle.rip_events.specs.Chained.{is_on}
use Rattle.rip_events.proofs.Chains.{past-one, off}
use Rattle.rip_events.proofs.listeners.Listeners.first_on.Goals as goal

pub loop-n-preserved : goal.loop-n-preserved
loop-n-preserved c = (
  c.loop-n.invariant.0,
  c.loop-n.invariant.1 ∙ past-one (length c.args.self.now.registered) c.loop-n.n (is_on c.args.self.now.registered c.args.node)
      (off c.args.self.now.registered c.args.node c.loop-n.n c.listener-in-loop-n.result c.listener-in-loop-n.ensures c.if-listener-node-2.false),
)
