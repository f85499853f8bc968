use Rattle.std.proofs.Common.{arith}
use Rattle.rip_gen.specs.Work.{told_line}
use Rattle.rip_gen.proofs.Lines.{lines_all, lines_more}
use Rattle.rip_gen.proofs.generate.trace.write_told.Goals as goal

pub loop-told-preserved : goal.loop-told-preserved
loop-told-preserved c =
    lines_more (told_line c.args.place) c.args.text.now c.loop-told.text c.write_batch.new.text c.args.batches.now c.loop-told.told-index c.told-item.result (omega arith) c.told-item.is
    c.loop-told.invariant c.in_ok-write_batch.ensures

pub returns : goal.returns
returns c = lines_all (told_line c.args.place) c.args.text.now c.loop-told.text c.args.batches.now c.loop-told.told-index (omega arith) c.loop-told.invariant
