use Rattle.std.proofs.Common.{◌∙◌, ◌≤◌, ℕ, ap, arith, sym, refl, subst}
use Rattle.rip_replica.specs.declared.scheduler.runner.Runner.{Runner}
use Rattle.rip_replica.specs.SchedulerRooms.{HasRooms}
use Rattle.rip_history.specs.Stages.{begun}
use Rattle.rip_replica.specs.declared.replica.Place.TheVariants.{First}
use Rattle.rip_law_replica.specs.AtStage.{IsAtStage}
use Rattle.rip_law_replica.proofs.Staging.{only_one, open_stands, sound_by}
use Rattle.rip_law_replica.proofs.stages.going.open.Goals as goal

pub returns-clause-begun : goal.returns-clause-begun
returns-clause-begun g c = λ program doing seed time by run full opening world page.
    let w = g.I.Works in
    let e = g.E.Evaluator.evaluation program in
    let R : Runner _ _ → Type 0 = λ q.
    IsAtStage e doing g.I.Items.item_plan g.I.Items.under_way w.may_serve (record { runner = q; place = First; number = 0; heap = c.args.heap; host = c.args.host }) (begun seed time) in
    subst R (sym c.new.ensures) (open_stands e doing g.I.Items.item_plan g.I.Items.under_way w.may_serve _ seed time
    (sound_by doing w.plans w.fact w.served w.ending w.may_serve by g.met.I.Works.shapes g.met.I.Works.still) refl (record {
      run = sym run;
      full = sym full;
      plan = c.enter.ensures.plans ∙ ap (λ p. p 0) (sym (by.planned seed time));
      all = only_one c.push.new.self.items c.new-batch.result.items c.args.opening (doing seed time).opening c.in_ok-push.ensures.items c.new-batch.ensures.items opening;
      begun = refl;
      place = refl;
      world = sym world;
      page = sym page;
    }))

pub returns-clause-rooms : goal.returns-clause-rooms
returns-clause-rooms g c = λ program runs steps.
    let e = g.E.Evaluator.evaluation program in
    let R : Runner _ _ → Type 0 = λ q. HasRooms e g.E.Evaluator.has_room (λ p. g.I.Items.room p.items) g.I.Items.need q c.args.host in
    let L : ℕ → Type 0 = λ k. g.I.Items.need c.args.host ≤ k in
    subst R (sym c.new.ensures) (record { runs = runs; fuel = omega arith; steps = subst L (sym c.enter.ensures.room) steps })
