use Rattle.std.proofs.Common.{false, refl}
use Rattle.rip_gen.specs.Working.{sessions_by}
use Rattle.rip_gen.proofs.WorkLemmas.{opens_none}
use Rattle.rip_gen.proofs.generate.work.Work.begin.Goals as goal

pub returns : goal.returns
returns g c =
    opens_none (sessions_by g.A.Actor.session g.O.Opens.opens g.O.Opens.gives)
    (record { opener = c.args.opener; clients = c.new.result; giver = c.in_ok-giver.giver; lied = false; text = c.new-2.result }) c.in_ok-giver.ensures c.new.ensures.items refl c.new-2.ensures
