use Rattle.std.proofs.Common.{rules, ◌+◌, ◌-◌, subst, ◌∙◌, arith}
use Rattle.rip_eval_rows.specs.Done.{Done}
use Rattle.rip_eval_rows.specs.Frame.{inner, inside}
use Rattle.rip_eval_rows.specs.Round.{rest_at}
use Rattle.rip_eval_rows.proofs.Doing.{round-done}
use Rattle.rip_eval_rows.proofs.steps.go_round.Goals as goal

pub loop-last-preserved : goal.loop-last-preserved
loop-last-preserved g c =
    let h = g.H.Host.answers in
    let t = g.R.Rows.table c.args.rows.now in
    let at = c.args.at.now in
    let part = inner at c.in-Part.node in
    let wait = c.in-Part.wait in
    let done = c.in-Some.done in
    let l = c.loop-last.left in
    let w = c.loop-last.heap in
    let y = c.at_once.new.heap in
    let first : Done t (inside at part) done.units w done.completion y =
    subst (λ i. Done t (inside at i) done.units w done.completion y) c.inner.ensures
    (subst (λ part. Done t part done.units w done.completion y) c.inside.ensures c.in-Some.ensures.done.0) in
    record {
      run = λ k host. round-done h t at part wait (rest_at t at c.loop-last.place c.loop-last.completion w) done.units l (l - done.units) k done.completion w y host first (omega (arith, c.in-Some.ensures.done.1)) c.in-Part.ensures.row
          ∙ c.loop-last.invariant.run k host;
      within = omega (arith, c.loop-last.invariant.within);
      grows = search rules;
    }
