use Rattle.std.proofs.Common.{◌≡◌, drop}
use Rattle.rip_ops.specs.Calls.{call_named}
use Rattle.rip_ops.proofs.access.calls.call_named.Given as goal

abbrev pub invariant-loop-text : goal.invariant-loop-text
invariant-loop-text l = call_named l.heap.pool l.name l.calls ≡ call_named l.heap.pool l.name (drop l.text-index l.calls)
