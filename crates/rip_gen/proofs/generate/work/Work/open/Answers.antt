use Rattle.std.proofs.Common.{refl}
use Rattle.rip_gen.specs.Work.{waits}
use Rattle.rip_gen.specs.Working.{sessions_by}
use Rattle.rip_gen.proofs.WorkLemmas.{opens_more}
use Rattle.rip_gen.proofs.generate.work.Work.open.Goals as goal

pub returns : goal.returns
returns g c =
    let old = c.args.self.now in
    opens_more (sessions_by g.A.Actor.session g.O.Opens.opens g.O.Opens.gives) c.args.place (waits c.in_ok-opened.opened.cost) old
    (record { opener = old.opener; clients = c.push.new.self; giver = c.open.new.giver; lied = old.lied; text = c.write_open.new.text }) c.in_ok-opened.opened.close c.is_fine-goes_on.result c.in_ok-opened.opened.actor
    c.new-client.result c.kept.result c.requires.there c.in_ok-opened.ensures c.new-client.ensures.actor c.new-client.ensures.number c.new-client.ensures.waiting c.new-client.ensures.over c.is_fine-goes_on.ensures
    c.kept.ensures c.in_ok-push.ensures.items refl c.in_ok-write_open.ensures
