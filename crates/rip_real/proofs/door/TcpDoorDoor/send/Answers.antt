use Rattle.std.proofs.Common.{◌≡◌, Some, ap, ◌∙◌, subst}
use Rattle.rip_real.specs.History.{shuts_in}
use Rattle.rip_real.specs.Journal.{JournalState}
use Rattle.rip_real.proofs.Deeds.{shuts_send}
use Rattle.rip_real.proofs.door.TcpDoorDoor.send.Goals as goal

pub returns-clause-shuts : goal.returns-clause-shuts
returns-clause-shuts c =
    let same = shuts_send c.self.inside.journal.deeds c.answer.result c.args.c c.args.bytes.now in
    subst (λ (s : JournalState). Some (shuts_in c.answer.new.self.deeds) ≡ Some (shuts_in s.deeds)) c.self.view_is (ap Some (ap shuts_in c.answer.ensures.deeds ∙ same))
