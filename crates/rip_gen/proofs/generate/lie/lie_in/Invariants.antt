use Rattle.std.proofs.Common.{◌≡◌, false}
use Rattle.rip_client.specs.Bytes.{batches_of}
use Rattle.rip_gen.specs.Lies.{lies_in}
use Rattle.rip_gen.proofs.generate.lie.lie_in.Given as goal

abbrev pub invariant-loop-batch : goal.invariant-loop-batch
invariant-loop-batch l = (batches_of l.told.items ≡ batches_of l.yielded) × (lies_in (batches_of l.yielded) ≡ false)
