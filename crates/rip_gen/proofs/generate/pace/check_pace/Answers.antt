use Rattle.std.proofs.Common.{arith}
use Rattle.rip_gen.proofs.PaceLemmas.{paced_all, paced_more, paced_none}
use Rattle.rip_gen.proofs.generate.pace.check_pace.Goals as goal

pub loop-entry-init : goal.loop-entry-init
loop-entry-init c = paced_none c.args.entries.now

pub loop-entry-preserved : goal.loop-entry-preserved
loop-entry-preserved c =
    paced_more c.args.entries.now c.loop-entry.entry-index c.entry-item.result c.loop-entry.answered c.in_ok-answered.answered c.loop-entry.invariant (omega arith) c.entry-item.is c.in_ok-answered.ensures

pub returns : goal.returns
returns c = paced_all c.args.entries.now c.loop-entry.entry-index c.loop-entry.answered c.loop-entry.invariant (omega arith)
