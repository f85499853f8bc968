use Rattle.std.proofs.Common.{◌≡◌, ◌+◌, ◌-◌, [], ap, sym, subst, ◌∙◌, inl, inr, arith}
use Rattle.rip_eval_rows.specs.Done.{Done}
use Rattle.rip_eval_rows.specs.Frame.{inside, waiting}
use Rattle.rip_eval_rows.specs.Rest.{next_run}
use Rattle.rip_eval_rows.specs.Run.{run}
use Rattle.rip_eval_rows.specs.Stack.{framed}
use Rattle.rip_eval_rows.proofs.Doing.{part-asked, part-turned, rest-asked, rest-turned}
use Rattle.rip_eval_rows.proofs.steps.take_part.Goals as goal

pub returns-in_ok-finish-in-None-of-clause-run : goal.returns-in_ok-finish-in-None-of-clause-run
returns-in_ok-finish-in-None-of-clause-run g c k =
    let h = g.H.Host.answers in
    let t = g.R.Rows.table c.args.rows.now in
    let at = c.args.at.now in
    let inner = c.in-Ask.inner in
    let wait = c.in-Ask.wait in
    let next = c.finish.new.next in
    let done = c.in-Some.done in
    let l = c.args.left.now in
    let w = c.args.heap.now in
    let y = c.at_once.new.heap in
    let z = c.finish.new.heap in
    let s = c.args.host.now in
    let r = c.finish.new.host in
    let first : Done t (inside at inner) done.units w done.completion y =
    subst (λ part. Done t part done.units w done.completion y) c.inside.ensures c.in-Some.ensures.done.0 in
    elim c.in-Ask.is [
      | inl e ↦ part-asked h t at inner wait next done.units l (l - done.units) k done.completion w y z s r first (omega (arith, c.in-Some.ensures.done.1)) c.in_ok-finish-in-None-of.ensures.row
          ∙ ap (λ n. next_run h t at n (l + k) w s) (sym e)
      | inr e ↦ part-turned h t at inner wait next done.units l (l - done.units) k done.completion w y z s r first (omega (arith, c.in-Some.ensures.done.1)) c.in_ok-finish-in-None-of.ensures.row
          ∙ ap (λ n. next_run h t at n (l + k) w s) (sym e)
    ]

pub returns-in-Some-of-clause-run : goal.returns-in-Some-of-clause-run
returns-in-Some-of-clause-run g c k =
    let h = g.H.Host.answers in
    let t = g.R.Rows.table c.args.rows.now in
    let at = c.args.at.now in
    let inner = c.in-Ask.inner in
    let wait = c.in-Ask.wait in
    let done = c.in-Some.done in
    let l = c.args.left.now in
    let m = l - done.units in
    let w = c.args.heap.now in
    let y = c.at_once.new.heap in
    let s = c.args.host.now in
    let first : Done t (inside at inner) done.units w done.completion y =
    subst (λ part. Done t part done.units w done.completion y) c.inside.ensures c.in-Some.ensures.done.0 in
    let sum : l ≡ done.units + m = omega (arith, c.in-Some.ensures.done.1) in
    c.go_round.ensures.run k s
    ∙ ap (λ p. run h t (at.room - 1) (t.rest (framed (waiting at p) []) done.completion y) (m + k) s) (sym c.in-Some-of.ensures)
    ∙ elim c.in-Ask.is [
      | inl e ↦ rest-asked h t at inner wait done.units l m k done.completion w y s first sum ∙ ap (λ n. next_run h t at n (l + k) w s) (sym e)
      | inr e ↦ rest-turned h t at inner wait done.units l m k done.completion w y s first sum ∙ ap (λ n. next_run h t at n (l + k) w s) (sym e)
    ]
