use Rattle.std.proofs.Common.{◌≡◌, ℕ, ◌+◌, ◌-◌, List, [], ◌∷◌, Some, slice_get, refl, sym, ap, subst, ◌∙◌}
use Rattle.rip_replica.specs.Going.{going, rest}
use Rattle.rip_replica.specs.Play.{Closes, Holds, play}
use Rattle.rip_replica.specs.Standing.{planned}
use Rattle.rip_client.specs.Wholes.{calls_behind, given_for}
use Rattle.rip_client.proofs.PlayedWhole.{again, begun_last, finished_rest, fresh_play, held, leads_rest, ok_onto, planned_is, play_moved, served_calls, unserved_calls, whole_from}
use Rattle.rip_client.proofs.whole.play.play_next.Goals as goal

pub returns-in-Finished-clause-whole : goal.returns-in-Finished-clause-whole
returns-in-Finished-clause-whole g c = λ d meant calls item doing plans at replies.
    let e = g.E.Evaluator.evaluation c.args.program.now in
    let old = c.args.replica.now in
    let b = c.begin_next.new.replica in
    let new = c.go_on.new.replica in
    let begun = c.begin_next.ensures in
    let r = going (planned g.I.Items.under_way) b.runner in
    let q = going (planned g.I.Items.under_way) new.runner in
    let number = old.runner.planner.begun + 1 in
    let close = c.in-Finished.close in
    let left = c.in-Finished.left in
    let law = c.in-Finished.ensures.law in
    let plan = g.I.Works.plans old.number item number in
    let run = e.run old.runner.evaluator in
    let full = old.runner.full in
    let here = begun_last b.runner.planner.batch.items old.runner.planner.batch.items b.runner.planner.begun old.runner.planner.begun item begun.begun.0 (ap (λ v. v.items) begun.begun.1) at in
    let means = planned_is g.I.Items.under_way b.runner.planner (g.I.Works.plans old.number) item number (begun.items.1 ∙ plans) here begun.begun.0 in
    let comes : (gs : List (g.row.H.Denot → g.row.H.Denot)) → play run full (plan old.heap old.host) gs full full ≡ Closes close gs q.fuel left new.heap new.host =
    λ gs. play_moved run (e.run r.evaluator) full r.full plan old.heap b.heap old.host b.host gs (Closes close gs q.fuel left new.heap new.host) (ap e.run begun.runs.0) begun.runs.1 begun.world.0 begun.world.1
    (fresh_play e r plan b.heap b.host gs begun.phase.0 (begun.phase.1 ∙ sym begun.runs.1) means
    ∙ finished_rest e r q b.heap new.heap b.host new.host b.runner.full left close law.0 law.1 gs) in
    let gave = given_for meant calls c.args.time (g.I.Works.fact item) in (
      whole_from d run full g.I.Works.plans g.I.Works.fact g.I.Works.served old.number item number old.heap new.heap old.host new.host gave close (b.runner.full - left) (g.I.Works.served old.number gave ∷ []) q.fuel left doing (comes (g.I.Works.served old.number gave ∷ [])) (ap (λ k. k - left) begun.runs.1),
      subst (λ cs. g.V.Service.replies_as c.args.service.now meant cs) (sym (unserved_calls run full g.I.Works.may_serve (plan old.heap old.host) (g.I.Works.fact item) close calls q.fuel left new.heap new.host (g.met.I.Works.shapes old.number item number old.heap old.host) comes)) replies,
    )

pub returns-in_ok-serve_next-in-Awaits-clause-whole :
    goal.returns-in_ok-serve_next-in-Awaits-clause-whole
returns-in_ok-serve_next-in-Awaits-clause-whole g c = λ d meant calls item doing plans at replies.
    let e = g.E.Evaluator.evaluation c.args.program.now in
    let old = c.args.replica.now in
    let b = c.begin_next.new.replica in
    let on = c.go_on.new.replica in
    let serving = c.serve_next.new.replica in
    let new = c.finish.new.replica in
    let begun = c.begin_next.ensures in
    let kept = c.in-Awaits.ensures.kept in
    let same = c.in_ok-serve_next-in-Awaits.ensures.kept in
    let r = going (planned g.I.Items.under_way) b.runner in
    let q = going (planned g.I.Items.under_way) on.runner in
    let z = going (planned g.I.Items.under_way) serving.runner in
    let number = old.runner.planner.begun + 1 in
    let left = c.in-Awaits.left in
    let law = c.in-Awaits.ensures.law in
    let plan = g.I.Works.plans old.number item number in
    let run = e.run old.runner.evaluator in
    let full = old.runner.full in
    let here = begun_last b.runner.planner.batch.items old.runner.planner.batch.items b.runner.planner.begun old.runner.planner.begun item begun.begun.0 (ap (λ v. v.items) begun.begun.1) at in
    let means = planned_is g.I.Items.under_way b.runner.planner (g.I.Works.plans old.number) item number (begun.items.1 ∙ plans) here begun.begun.0 in
    let there = begun_last on.runner.planner.batch.items old.runner.planner.batch.items on.runner.planner.begun old.runner.planner.begun item (kept.1 ∙ begun.begun.0) (ap (λ v. v.items) (kept.0 ∙ begun.begun.1)) at in
    let gave = given_for meant calls c.args.time (g.I.Works.fact item) in
    let change = g.I.Works.served old.number gave in
    let served = c.in_ok-serve_next-in-Awaits.ensures.served meant calls item there replies in
    let page : change on.host ≡ serving.host = sym (served.0 ∙ ap (λ k. g.I.Works.served k gave on.host) (c.in-Awaits.ensures.number ∙ begun.begun.2)) in
    let reaches : (gs : List (g.row.H.Denot → g.row.H.Denot)) → play (e.run r.evaluator) r.full (plan b.heap b.host) gs r.full r.full ≡ rest e q on.heap on.host gs left =
    λ gs. fresh_play e r plan b.heap b.host gs begun.phase.0 (begun.phase.1 ∙ sym begun.runs.1) means ∙ leads_rest e r q b.heap on.heap b.host on.host b.runner.full left law.1 gs in
    let holds = play_moved run (e.run r.evaluator) full r.full plan old.heap b.heap old.host b.host [] (Holds 0 on.heap on.host) (ap e.run begun.runs.0) begun.runs.1 begun.world.0 begun.world.1 (reaches [] ∙ held e q on.heap on.host left law.0) in
    let onward = again e q z on.heap on.host change left same.0 (ap (planned g.I.Items.under_way) same.1) same.2 same.3 c.in_ok-serve_next-in-Awaits.ensures.phase law.0 in
    ok_onto c.finish.result _ _ c.finish.ensures.law (λ over behind.
    let comes = play_moved run (e.run r.evaluator) full r.full plan old.heap b.heap old.host b.host (change ∷ []) (Closes over.close [] behind.fuel behind.left new.heap new.host) (ap e.run begun.runs.0) begun.runs.1 begun.world.0 begun.world.1
    (reaches (change ∷ []) ∙ onward ∙ ap (λ s. rest e z on.heap s [] left) page ∙ ap (λ w. rest e z w serving.host [] left) (sym same.4) ∙ behind.is []) in (
      whole_from d run full g.I.Works.plans g.I.Works.fact g.I.Works.served old.number item number old.heap new.heap old.host new.host gave over.close over.fuel [] behind.fuel behind.left doing comes (behind.took ∙ ap (λ k. k - behind.left) begun.runs.1),
      subst (λ cs. g.V.Service.replies_as c.serve_next.new.service meant cs) (served_calls run full g.I.Works.may_serve (plan old.heap old.host) (g.I.Works.fact item) over.close calls change [] behind.fuel behind.left on.heap new.heap on.host new.host (g.met.I.Works.shapes old.number item number old.heap old.host) holds comes) served.1,
    ))
