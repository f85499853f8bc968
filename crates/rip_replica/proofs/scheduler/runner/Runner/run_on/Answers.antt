use Rattle.std.proofs.Common.{◌≡◌, ◌+◌, ◌≤◌, ap, sym, subst, ◌∙◌, arith}
use Rattle.rip_eval_rows.specs.declared.step.Phase.{Phase}
use Rattle.rip_replica.specs.SchedulerNumbers.{host_reached}
use Rattle.rip_replica.specs.SchedulerRooms.{fuel_in}
use Rattle.rip_replica.proofs.scheduler.runner.Runner.run_on.Goals as goal

pub returns-in-Passed-clause-number : goal.returns-in-Passed-clause-number
returns-in-Passed-clause-number g c = λ number keeps.
    ap (λ r. number (host_reached r)) (sym (c.in-Passed.ensures.advances.0 0))
    ∙ keeps.runs c.args.self.now.evaluator c.args.heap.now c.args.host.now (c.args.n + 0)

pub returns-in-Broken-clause-number : goal.returns-in-Broken-clause-number
returns-in-Broken-clause-number g c = λ number keeps.
    ap (λ r. number (host_reached r)) (sym (c.in-Broken.ensures.advances.0 0))
    ∙ keeps.runs c.args.self.now.evaluator c.args.heap.now c.args.host.now (c.args.n + 0)

pub returns-in-Passed-clause-memory : goal.returns-in-Passed-clause-memory
returns-in-Passed-clause-memory g c = λ keeps none rooms.
    let e = g.E.Evaluator.evaluation c.args.program.now in
    let F : Phase → Type 0 = λ phase. fuel_in e c.args.self.now phase ≤ c.args.self.now.full in
    let fuel : e.fuel c.args.self.now.evaluator ≤ c.args.self.now.full = subst F c.requires.running rooms.fuel in
    let left : c.fuel_left-fuel.result ≡ e.fuel c.args.self.now.evaluator = c.fuel_left-fuel.ensures c.args.program.now in
    let need : g.P.Planner.need c.advance.new.host ≡ g.P.Planner.need c.args.host.now =
    ap (λ r. g.P.Planner.need (host_reached r)) (sym (c.in-Passed.ensures.advances.0 0))
    ∙ keeps.runs c.args.self.now.evaluator c.args.heap.now c.args.host.now (c.args.n + 0) in (
      record {
        runs = c.in-Passed.ensures.room c.args.self.now.full rooms.runs;
        fuel = omega (arith, fuel, left);
        steps = omega (arith, need, rooms.steps);
      },
      tt,
    )

pub returns-in-Broken-clause-memory : goal.returns-in-Broken-clause-memory
returns-in-Broken-clause-memory g c = λ keeps none rooms.
    let e = g.E.Evaluator.evaluation c.args.program.now in
    let F : Phase → Type 0 = λ phase. fuel_in e c.args.self.now phase ≤ c.args.self.now.full in
    let fuel : e.fuel c.args.self.now.evaluator ≤ c.args.self.now.full = subst F c.requires.running rooms.fuel in
    let left : c.fuel_left-fuel.result ≡ e.fuel c.args.self.now.evaluator = c.fuel_left-fuel.ensures c.args.program.now in
    let need : g.P.Planner.need c.advance.new.host ≡ g.P.Planner.need c.args.host.now =
    ap (λ r. g.P.Planner.need (host_reached r)) (sym (c.in-Broken.ensures.advances.0 0))
    ∙ keeps.runs c.args.self.now.evaluator c.args.heap.now c.args.host.now (c.args.n + 0) in (
      record {
        runs = c.in-Broken.ensures.room c.args.self.now.full rooms.runs;
        fuel = omega (arith, fuel, left);
        steps = omega (arith, need, rooms.steps);
      },
      tt,
    )
