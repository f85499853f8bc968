use Rattle.std.proofs.Common.{◌∙◌, false, sym}
use Rattle.std.specs.Prelude.{slice_get}
use Rattle.rip_gen.specs.Working.{sessions_by}
use Rattle.rip_gen.proofs.Places.{some_taken}
use Rattle.rip_gen.proofs.WorkLemmas.{skips_so, tells_so}
use Rattle.rip_gen.proofs.generate.work.Work.tell.Goals as goal

pub returns-in_default : goal.returns-in_default
returns-in_default g c =
    skips_so (sessions_by g.A.Actor.session g.O.Opens.opens g.O.Opens.gives) c.args.place c.args.gesture.now false c.args.self.now c.take.new.self c.take.result
    (record { there = c.take.ensures.taken; clients = c.take.ensures.clients; others = c.take.ensures.others }) c.in_default.not-Some c.requires.on

pub returns : goal.returns
returns g c =
    let before = c.requires.on c.args.place c.in-Some.client (some_taken (slice_get c.args.self.now.clients.items c.args.place) c.in-Some.client (sym c.take.ensures.taken ∙ c.in-Some.is)) in
    tells_so (sessions_by g.A.Actor.session g.O.Opens.opens g.O.Opens.gives) c.args.place c.args.gesture.now c.args.self.now c.take.new.self c.put.new.self c.take.result c.kept.result c.in-Some.client
    c.gesture-told.new.self c.gesture-told.new.giver c.gesture-told.result.how c.in_ok-goes_on.goes_on c.gesture-told.result.batches.items c.as_slice.result.now c.write_told.new.text
    (record { there = c.take.ensures.taken; clients = c.take.ensures.clients; others = c.take.ensures.others }) c.in-Some.is (c.gesture-told.ensures.told before) c.in_ok-goes_on.ensures c.in_ok-write_told.ensures
    c.as_slice.ensures.value c.kept.ensures c.put.ensures.clients c.put.ensures.others c.requires.on (c.gesture-told.ensures.over before)

pub gesture-told-requires : goal.gesture-told-requires
gesture-told-requires g c = c.requires.gesture
