use Rattle.std.proofs.Common.{◌∙◌, true, sym}
use Rattle.std.specs.Prelude.{slice_get}
use Rattle.rip_gen.specs.Working.{sessions_by}
use Rattle.rip_gen.proofs.Places.{some_taken}
use Rattle.rip_gen.proofs.WorkLemmas.{lies_so, skips_so}
use Rattle.rip_gen.proofs.generate.work.Work.tell_lying.Goals as goal

pub returns-in_default : goal.returns-in_default
returns-in_default g c =
    skips_so (sessions_by g.A.Actor.session g.O.Opens.opens g.O.Opens.gives) c.args.place c.args.gesture.now true c.args.self.now c.take.new.self c.take.result
    (record { there = c.take.ensures.taken; clients = c.take.ensures.clients; others = c.take.ensures.others }) c.in_default.not-Some c.requires.on

pub returns : goal.returns
returns g c =
    let before = c.requires.on c.args.place c.in-Some.client (some_taken (slice_get c.args.self.now.clients.items c.args.place) c.in-Some.client (sym c.take.ensures.taken ∙ c.in-Some.is)) in
    lies_so (sessions_by g.A.Actor.session g.O.Opens.opens g.O.Opens.gives) c.args.place c.args.gesture.now c.args.self.now c.take.new.self c.put.new.self c.take.result c.kept.result c.in-Some.client
    c.gesture-told.new.self c.in_ok-giver.giver c.gesture-told.new.giver c.gesture-told.result.how c.in_ok-goes_on.goes_on c.in_ok-lie.lie.is_told c.is_on.result c.gesture-told.result.batches.items c.in_ok-lie.lie.batches.items
    c.as_slice.result.now c.write_told.new.text (record { there = c.take.ensures.taken; clients = c.take.ensures.clients; others = c.take.ensures.others }) c.in-Some.is c.in_ok-giver.ensures (c.gesture-told.ensures.told before)
    c.in_ok-goes_on.ensures c.in_ok-lie.ensures.lied c.in_ok-lie.ensures.told c.in_ok-write_told.ensures c.as_slice.ensures.value c.is_on.ensures c.kept.ensures c.put.ensures.clients c.put.ensures.others c.requires.on (c.gesture-told.ensures.over before)

pub gesture-told-requires : goal.gesture-told-requires
gesture-told-requires g c = c.requires.gesture
