use Rattle.std.proofs.Common.{◌≡◌, ◌+◌, ◌-◌, if◌then◌else◌, ap, sym, ◌∙◌, append-nil, arith}
use Rattle.std.proofs.lemmas.Bool.{eq-eqb}
use Rattle.rip_base.specs.declared.value.Limit.TheVariants.{Depth}
use Rattle.rip_eval_rows.specs.declared.completion.Stop.TheVariants.{Limit as AtLimit}
use Rattle.rip_eval_rows.specs.declared.next.Control.TheVariants.{Enter, Halted}
use Rattle.rip_eval_rows.specs.declared.next.Next.TheVariants.{Halt}
use Rattle.rip_eval_rows.specs.Rest.{rest}
use Rattle.rip_eval_rows.specs.Row.{Halts, entered}
use Rattle.rip_eval_rows.proofs.Doing.{rest-done}
use Rattle.rip_eval_rows.proofs.StepLaws.{enter_rest}
use Rattle.rip_eval_rows.proofs.steps.enter.Goals as goal

-- a part for which no depth is left
pub returns-then-part-eq0-clause-rest : goal.returns-then-part-eq0-clause-rest
returns-then-part-eq0-clause-rest g c k =
    let h = g.H.Host.answers in
    let t = g.R.Rows.table c.args.rows.now in
    let part = c.args.part.now in
    let frames = c.args.stack.now.frames in
    let none : part.room ≡ 0 = c.if-part-eq0.true in
    let row : Halts (AtLimit Depth) c.args.heap.now ≡ entered t part c.args.heap.now =
    ap (λ full. if full then Halts (AtLimit Depth) c.args.heap.now else t.row part c.args.heap.now) (sym (eq-eqb part.room 0 none)) in
    enter_rest h t part (Halt (AtLimit Depth)) frames frames (Halted (AtLimit Depth) 0) c.args.heap.now c.args.heap.now c.args.host.now (c.args.ahead.now.left - 1 + k)
    row (ap (λ room. Halted (AtLimit Depth) (room - 1)) (sym none)) (sym (append-nil frames))
    ∙ ap (λ n. rest h t (Enter part) frames n c.args.heap.now c.args.host.now) (omega (arith, c.requires.some))

-- a part that is done at once
pub returns-in-Some-clause-rest : goal.returns-in-Some-clause-rest
returns-in-Some-clause-rest g c k =
    let done = c.in-Some.done in
    rest-done g.H.Host.answers (g.R.Rows.table c.args.rows.now) c.args.part.now c.args.stack.now.frames done.units c.args.ahead.now.left (c.args.ahead.now.left - done.units) k
    done.completion c.args.heap.now c.at_once.new.heap c.args.host.now c.in-Some.ensures.done.0 (omega (arith, c.in-Some.ensures.done.1))
