use Rattle.std.proofs.Common.{sym}
use Rattle.rip_dom.proofs.WritingLemmas.{clears-none, clears-more, clears-all, clears-end, child-known}
use Rattle.rip_dom.proofs.dom.Dom.clear.Goals as goal

pub loop-i-init : goal.loop-i-init
loop-i-init c = clears-none c.args.self.now c.args.n c.made-i-end.result c.grows.ensures c.made-i-end.ensures.made

pub take_out-requires : goal.take_out-requires
take_out-requires c = child-known c.loop-i.self c.args.n c.in-Some.child c.grows-in-Some.ensures (sym c.in-Some.ensures)

pub loop-i-preserved : goal.loop-i-preserved
loop-i-preserved c = clears-more c.args.self.now c.loop-i.self c.take_out.new.self c.args.n c.made-i-end.result c.loop-i._i c.in-Some.child c.loop-i.invariant c.grows-in-Some.ensures (sym c.in-Some.ensures) c.take_out.ensures

pub returns-in-None-clause-emptied : goal.returns-in-None-clause-emptied
returns-in-None-clause-emptied c = clears-all c.args.self.now c.loop-i.self c.args.n c.made-i-end.result c.loop-i._i c.loop-i.invariant (sym c.in-None.ensures)

pub returns-clause-emptied : goal.returns-clause-emptied
returns-clause-emptied c = clears-end c.args.self.now c.loop-i.self c.args.n c.made-i-end.result c.loop-i._i c.loop-i.invariant c.loop-i-test.false
