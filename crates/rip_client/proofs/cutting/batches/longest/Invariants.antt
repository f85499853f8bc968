use Rattle.std.proofs.Common.{◌≡◌, ◌+◌, ◌≤◌, take}
use Rattle.rip_client.specs.Cutting.{body_size}
use Rattle.rip_client.proofs.cutting.batches.longest.Given as goal

-- what is taken so far fits, and the room is what it leaves
abbrev pub invariant-loop-taken : goal.invariant-loop-taken
invariant-loop-taken l = record {
  few : l.taken ≤ 64;
  left : l.room + body_size l.number (take l.taken l.sizes) ≡ 65536;
}
