use Rattle.std.proofs.Common.{arith}
use Rattle.rip_early.specs.Indexed.{names_of}
use Rattle.rip_early.proofs.Earliest.{least-all, least-more}
use Rattle.rip_early.proofs.script.script_mistake.Goals as goal

pub loop-id-preserved : goal.loop-id-preserved
loop-id-preserved c = least-more (names_of c.args.top.now) c.args.tree.now c.loop-id.id _ (c.earlier-least.ensures _ _ c.loop-id.invariant c.in_ok-found.ensures)

pub returns : goal.returns
returns c = least-all (names_of c.args.top.now) c.args.tree.now c.loop-id.id _ (omega arith) c.loop-id.invariant
