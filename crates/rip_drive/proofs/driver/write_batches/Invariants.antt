use Rattle.std.proofs.Common.{◌≡◌, ◌++◌, take}
use Rattle.rip_client.specs.Bytes.{batches_of}
use Rattle.rip_drive.specs.Driving.{batch_lines}
use Rattle.rip_drive.proofs.driver.write_batches.Given as goal

-- the lines of the batches before the index stand behind the text
abbrev pub invariant-loop-told : goal.invariant-loop-told
invariant-loop-told l = l.text ≡ l.initial.text ++ batch_lines (batches_of (take l.told-index l.batches))
