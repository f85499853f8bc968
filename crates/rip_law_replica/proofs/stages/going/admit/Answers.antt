use Rattle.std.proofs.Common.{◌∙◌, ap, sym}
use Rattle.rip_law_replica.proofs.Rooms.{rooms_admitted}
use Rattle.rip_law_replica.proofs.Staging.{admit_stands, sound_by}
use Rattle.rip_law_replica.proofs.stages.going.admit.Goals as goal

pub returns-clause-next : goal.returns-clause-next
returns-clause-next g c = λ program doing st b by number items at ok.
    let w = g.I.Works in
    admit_stands (g.E.Evaluator.evaluation program) doing g.I.Items.item_plan g.I.Items.under_way w.may_serve c.args.replica.now c.admit.new.self st b
    (sound_by doing w.plans w.fact w.served w.ending w.may_serve by g.met.I.Works.shapes g.met.I.Works.still) at ok (c.admit.ensures.place.1 ∙ number) (record {
      evaluator = c.admit.ensures.runs.0;
      full = c.admit.ensures.runs.1;
      plan = c.admit.ensures.items.0 ∙ ap w.plans number ∙ ap (λ p. p b.number) (sym (by.planned st.seed st.time));
      all = ap (λ v. v.items) c.admit.ensures.items.1 ∙ items;
      begun = c.admit.ensures.items.2;
      place = c.admit.ensures.place.0;
      world = c.admit.ensures.world.0;
      page = c.admit.ensures.world.1;
    })

pub returns-clause-rooms : goal.returns-clause-rooms
returns-clause-rooms g c = λ program rooms.
    rooms_admitted (g.E.Evaluator.evaluation program) g.E.Evaluator.has_room (λ p. g.I.Items.room p.items) g.I.Items.need c.args.replica.now.runner c.admit.new.self.runner
    c.args.replica.now.host c.admit.new.self.host c.admit.ensures.runs.0 c.admit.ensures.runs.1 c.admit.ensures.rooms.0 c.admit.ensures.rooms.1 c.admit.ensures.rooms.2
    c.admit.ensures.world.1 rooms
