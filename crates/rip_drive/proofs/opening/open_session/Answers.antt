use Rattle.std.proofs.Common.{◌≡◌, ◌∙◌, ◌∷◌, ◌++◌, [], List, ap, refl, sym}
use Rattle.rip_machine.specs.Law.{Standing}
use Rattle.rip_session.specs.Plans.{work_plan}
use Rattle.rip_session.specs.Serving.{moment_of}
use Rattle.rip_session.specs.Tasks.{Task, opens}
use Rattle.rip_session.specs.Application.{runs_of}
use Rattle.rip_session.specs.Kept.{goes-fits}
use Rattle.rip_session.specs.Opening.{opened_of}
use Rattle.rip_drive.specs.Actors.{Does}
use Rattle.rip_drive.proofs.opening.open_session.Goals as goal

pub invariant_of-result : goal.invariant_of-result
invariant_of-result c = record { goes = goes-fits c.in_ok-heap.field-0.browser c.in_ok-heap.field-0.heap c.in_ok-heap.ensures.fits }

pub returns : goal.returns
unfolding Does
returns c =
    let app = c.args.app.now in
    let is : c.in_ok-heap.field-0 ≡ opened_of app c.args.seed (moment_of 0) = c.in_ok-heap.ensures.opened ∙ ap (opened_of app c.args.seed) c.moment_of.ensures in
    let made = c.new.ensures in
    let machine : c.new.result.evaluator ≡ (opened_of app c.args.seed (moment_of 0)).machine = (λ i. (made i).evaluator) ∙ (λ i. (is i).machine) in
    let start = c.opens.ensures ∙ (λ i. opens (is i).start) in
    record {
      does = record {
        runs = ap (λ (m : Standing). (runs_of app).run m) (sym machine);
        fuel = sym ((λ i. (made i).full) ∙ ap (λ l. l.fuel) c.limits-limits.ensures.value);
        plans_are = refl;
        facts = refl;
        serving = refl;
      };
      plans = ap work_plan ((λ i. (made i).planner.items.batches.batch) ∙ c.in_ok-items.ensures.batch);
      number = refl;
      batch = (λ i. (made i).planner.batch.items) ∙ c.in_ok-push.ensures.items ∙ ap (λ (ts : List Task). ts ++ c.opens.result ∷ []) c.new-batch.ensures.items ∙ ap (λ (t : Task). t ∷ []) start;
      opening = refl;
      begun = λ i. (made i).planner.begun;
      world = λ i. (is i).heap;
      page = λ i. (is i).browser;
    }
