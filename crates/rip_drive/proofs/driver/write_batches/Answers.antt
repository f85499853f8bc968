use Rattle.std.proofs.Common.{arith}
use Rattle.rip_wire.specs.Batches.{contents_of}
use Rattle.rip_trace.specs.Said.{batch_line}
use Rattle.rip_client.specs.declared.list.ToldBatch.{ToldBatch}
use Rattle.rip_drive.proofs.Lines.{lines_more}
use Rattle.rip_drive.proofs.driver.write_batches.Goals as goal

pub loop-told-preserved : goal.loop-told-preserved
loop-told-preserved c =
    lines_more (batch_line 0 1) (λ (b : ToldBatch). contents_of b.batch) c.args.text.now c.loop-told.text c.write_batch_line.new.text c.args.batches.now c.loop-told.told-index c.told-item.result
    (omega arith) c.told-item.is c.loop-told.invariant c.in_ok-write_batch_line.ensures
