use Rattle.std.proofs.Common.{ℕ, ◌≤◌, ap, sym, subst, ◌∙◌}
use Rattle.rip_headline.specs.declared.limits.counts.Used.{Used}
use Rattle.rip_headline.specs.Sessions.{IsPageAllowed}
use Rattle.rip_law_replica.proofs.Cut.{busy_cut}
use Rattle.rip_law_replica.proofs.Done.{done_idle, ended_has, not_done_busy}
use Rattle.rip_replica.specs.Cuts.{CutAfter}
use Rattle.rip_replica.specs.Standing.{spot}
use Rattle.rip_session.specs.Application.{doing_of, runs_of}
use Rattle.rip_session.specs.declared.work.items.PageItems.{PageItems}
use Rattle.rip_session.specs.Plans.{left_of_work, work_plan}
use Rattle.rip_session.specs.Serving.{may_serve}
use Rattle.rip_headline.specs.Within.{open_in, used_in}
use Rattle.rip_headline.proofs.Opened.{none_open, same_open}
use Rattle.rip_headline.proofs.limits.counts.used_by_session.Goals as goal

pub returns-clause-page : goal.returns-clause-page
returns-clause-page c = λ app st at lives.
    let page = at.page lives in
    let r = c.args.session.now.replica in
    let n = r.runner in
    let depth = subst (λ (d : ℕ). d ≤ app.manifest.limits.depth) (same_open app r.place n.evaluator n.phase) page.within.depth in
    subst (λ (u : Used). IsPageAllowed app.manifest.limits u) (sym c.used_by.ensures.used)
    (record { nodes = page.within.nodes; depth = depth; waiting = page.within.waiting; replies = page.within.replies })

pub returns-clause-cut : goal.returns-clause-cut
returns-clause-cut c = λ app st at undone.
    let r = c.args.session.now.replica in
    let n = r.runner in
    let to = spot (λ (items : PageItems). work_plan items.batches.batch) left_of_work r in
    let busy = not_done_busy (runs_of app) (doing_of app) may_serve to st at.stage.stands undone in
    record {
      depth = open_in r.place n.phase n.evaluator;
      world = r.heap;
      page = r.host;
      cut = subst (λ (d : ℕ). CutAfter (doing_of app st.seed st.time) st.batches st.given st.units d r.heap r.host) (same_open app r.place n.evaluator n.phase)
          (busy_cut (runs_of app) (doing_of app) may_serve to st busy);
      used = c.used_by.ensures.used;
    }

pub returns-clause-idle : goal.returns-clause-idle
returns-clause-idle c = λ app st at done lives.
    let r = c.args.session.now.replica in
    let n = r.runner in
    let to = spot (λ (items : PageItems). work_plan items.batches.batch) left_of_work r in
    let idle = done_idle (runs_of app) (doing_of app) may_serve to st at.stage.stands done lives in
    record {
      world = r.heap;
      page = r.host;
      stands = record { cost = idle.cost; behind = idle.behind };
      used = c.used_by.ensures.used ∙ ap (λ (d : ℕ). used_in r.heap d r.host) (none_open r.place n.phase n.evaluator idle.place);
    }

pub returns-clause-ended : goal.returns-clause-ended
returns-clause-ended c = λ app st at ended.
    let r = c.args.session.now.replica in
    let n = r.runner in
    let to = spot (λ (items : PageItems). work_plan items.batches.batch) left_of_work r in
    let has = ended_has (runs_of app) (doing_of app) may_serve to st at.stage.stands ended in
    record {
      world = r.heap;
      page = r.host;
      stands = has.stands;
      used = c.used_by.ensures.used ∙ ap (λ (d : ℕ). used_in r.heap d r.host) (none_open r.place n.phase n.evaluator has.place);
    }
