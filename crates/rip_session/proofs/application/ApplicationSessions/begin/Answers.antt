use Rattle.std.proofs.Common.{◌≡◌, sym, ap, ◌∙◌}
use Rattle.rip_history.specs.Stages.{begun}
use Rattle.rip_session.specs.Serving.{moment_of}
use Rattle.rip_session.specs.Tasks.{opens}
use Rattle.rip_session.specs.declared.opening.Opened.{Opened}
use Rattle.rip_session.specs.Application.{doing_of, runs_of}
use Rattle.rip_session.specs.Opening.{opened_of}
use Rattle.rip_session.proofs.SessionLemmas.{begin_stands, done_by, opened_goes, opened_nodes, opened_room}
use Rattle.rip_session.proofs.application.ApplicationSessions.begin.Goals as goal

pub invariant_of-result : goal.invariant_of-result
invariant_of-result c = record {
  goes = opened_goes c.in_ok-heap.field-0.browser c.in_ok-open.field-0.host c.in_ok-heap.field-0.heap c.in_ok-open.field-0.heap c.in_ok-heap.ensures.fits
      c.in_ok-open.ensures.world.1 c.in_ok-open.ensures.world.0;
}

pub returns : goal.returns
returns c =
    let is : c.in_ok-heap.field-0 ≡ opened_of c.args.self.now.app.now c.args.seed (moment_of c.args.time) =
    c.in_ok-heap.ensures.opened ∙ ap (opened_of c.args.self.now.app.now c.args.seed) c.moment_of.ensures in
    begin_stands c.args.self.now.app.now c.args.seed (moment_of c.args.time) c.in_ok-heap.field-0 (begun c.args.seed c.args.time) c.in_ok-open.field-0 is
    c.in_ok-open.ensures.world.0 c.in_ok-open.ensures.world.1 c.in_ok-open.ensures.place
    (record { nodes = c.is_page_within.ensures.nodes; waiting = c.is_page_within.ensures.waiting; replies = c.is_page_within.ensures.replies })
    c.is_within.ensures.cells c.is_within.ensures.units
    (c.in_ok-open.ensures.begun c.args.self.now.app.now.program (doing_of c.args.self.now.app.now) c.args.seed c.args.time (done_by c.args.self.now.app.now)
    (ap (λ m. (runs_of c.args.self.now.app.now).run m) (sym (ap (λ (o : Opened). o.machine) is)))
    (sym (ap (λ l. l.fuel) c.limits-limits.ensures.value))
    (ap opens (sym (ap (λ (o : Opened). o.start) is)) ∙ sym c.opens-opening.ensures)
    (sym (ap (λ (o : Opened). o.heap) is))
    (sym (ap (λ (o : Opened). o.browser) is)))
    (c.in_ok-open.ensures.rooms c.args.self.now.app.now.program
    (opened_room c.args.self.now.app.now c.args.seed (moment_of c.args.time) c.in_ok-heap.field-0 c.limits-limits.result.now.fuel is (ap (λ l. l.fuel) c.limits-limits.ensures.value))
    (opened_nodes c.args.self.now.app.now c.args.seed (moment_of c.args.time) c.in_ok-heap.field-0 c.in_ok-items.items c.limits-limits.result.now.nodes is
    (ap (λ l. l.nodes) c.limits-limits.ensures.value) c.in_ok-items.ensures.room))
