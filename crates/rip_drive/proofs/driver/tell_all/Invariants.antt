use Rattle.std.specs.Prelude.{◌≡◌, None}
use Rattle.rip_drive.proofs.Drives.{Reads}
use Rattle.rip_drive.proofs.driver.tell_all.Given as goal

-- whatever the others come to, all come to it behind the batches so far; and the client goes on
abbrev pub invariant-loop-lined : goal.invariant-loop-lined
invariant-loop-lined g l = Reads g.A.Actor.session l.initial.driver l.gestures l.lined-index l.driver × (l.driver.client.over ≡ None)
