use Rattle.std.proofs.Common.{◌≡◌, Some, ap, ◌∙◌, subst}
use Rattle.rip_outer.specs.Connections.{also_shut}
use Rattle.rip_real.specs.History.{told_in, shuts_in}
use Rattle.rip_real.specs.Journal.{JournalState}
use Rattle.rip_real.proofs.Deeds.{shuts_shut}
use Rattle.rip_real.proofs.door.TcpDoorDoor.shut.Goals as goal

pub returns-clause-shuts : goal.returns-clause-shuts
returns-clause-shuts c =
    let one_more = shuts_shut c.self.inside.journal.deeds c.args.c in
    subst (λ (s : JournalState). Some (shuts_in c.shut.new.self.deeds) ≡ also_shut c.args.c (Some (told_in s.deeds)) (Some (shuts_in s.deeds))) c.self.view_is (ap Some (ap shuts_in c.shut.ensures.deeds ∙ one_more))
