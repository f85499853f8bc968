use Rattle.rip_early.specs.Indexed.{names_of}
use Rattle.rip_early.specs.Scopes.{scoping_at}
use Rattle.rip_early.proofs.Gathering.{mapped-more}
use Rattle.rip_early.proofs.program.push_scoping.Goals as goal

pub loop-id-preserved : goal.loop-id-preserved
loop-id-preserved c = mapped-more (scoping_at (names_of c.args.top.now) c.args.tree.now) c.loop-id.id c.args.scoping.now.items c.loop-id.scoping.items _ _ c.in_ok-push.ensures.items c.loop-id.invariant c.in_ok-said.ensures
