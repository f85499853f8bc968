use Rattle.std.proofs.Common.{◌≡◌, Some, ap, ◌∙◌, subst}
use Rattle.rip_real.specs.History.{shuts_in}
use Rattle.rip_real.specs.Journal.{JournalState}
use Rattle.rip_real.proofs.Deeds.{shuts_next}
use Rattle.rip_real.proofs.door.TcpDoorDoor.next.Goals as goal

pub returns-clause-shuts : goal.returns-clause-shuts
returns-clause-shuts c =
    let told = c.tell-told in
    let same = shuts_next c.self.inside.journal.deeds told.result c.what_came-came.new.room c.args.busy in
    subst (λ (s : JournalState). Some (shuts_in told.new.self.deeds) ≡ Some (shuts_in s.deeds)) c.self.view_is (ap Some (ap shuts_in told.ensures.deeds ∙ same))
