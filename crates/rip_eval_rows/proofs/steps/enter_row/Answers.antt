use Rattle.std.proofs.Common.{◌≡◌, ◌+◌, ◌-◌, ◌≤◌, if◌then◌else◌, [], ap, sym, ◌∙◌, arith}
use Rattle.std.proofs.lemmas.Bool.{ne_eqb}
use Rattle.rip_base.specs.declared.value.Limit.TheVariants.{Depth}
use Rattle.rip_eval_rows.specs.declared.completion.Stop.TheVariants.{Limit as AtLimit}
use Rattle.rip_eval_rows.specs.Rest.{next_run}
use Rattle.rip_eval_rows.specs.Row.{Halts, entered}
use Rattle.rip_eval_rows.specs.Run.{run}
use Rattle.rip_eval_rows.specs.Stack.{Frames, count_of_values}
use Rattle.rip_eval_rows.proofs.Nested.{went_inside}
use Rattle.rip_eval_rows.proofs.Roomed.{went_values}
use Rattle.rip_eval_rows.proofs.StepLaws.{begun_rest}
use Rattle.rip_eval_rows.proofs.steps.enter_row.Goals as goal

pub returns-clause-rest : goal.returns-clause-rest
returns-clause-rest g c k =
    let h = g.H.Host.answers in
    let t = g.R.Rows.table c.args.rows.now in
    let part = c.args.part.now in
    let next = c.begin.new.next in
    let w = c.args.heap.now in
    let ne : part.room ≡ 0 → ⊥ = λ e. omega (arith, c.requires.some, e) in
    let begun : next_run h t part next (c.begin.new.left + k) c.begin.new.heap c.begin.new.host ≡ run h t (part.room - 1) (entered t part w) (c.args.ahead.now.left + k) c.args.host.now =
    c.in_ok-begin.ensures.run k ∙ sym (ap (λ full. run h t (part.room - 1) (if full then Halts (AtLimit Depth) w else t.row part w) (c.args.ahead.now.left + k) c.args.host.now) (ne_eqb part.room 0 ne)) in
    begun_rest h t part next c.args.stack.now.frames c.open.new.stack.frames c.open.new.control w c.begin.new.heap c.args.host.now c.begin.new.host (c.begin.new.left + k) (c.args.ahead.now.left + k) (c.args.ahead.now.left + 1 + k)
    begun c.open.ensures.control (ap (λ (m : Frames). m.frames) c.open.ensures.frames) (omega arith)

pub returns-clause-inside : goal.returns-clause-inside
returns-clause-inside g c =
    went_inside c.args.stack.now c.open.new.stack c.args.part.now c.begin.new.next [] c.args.stack.now.frames c.open.new.control c.requires.inside.0 c.requires.some c.requires.inside.1 c.open.ensures.control c.open.ensures.frames

pub returns-clause-values : goal.returns-clause-values
returns-clause-values g c =
    let within : c.begin.new.left ≤ c.args.ahead.now.left = c.begin.ensures.within in
    went_values c.args.stack.now c.open.new.stack c.args.part.now c.begin.new.next [] c.args.stack.now.frames c.open.new.control c.begin.new.left (count_of_values c.args.stack.now.frames + (c.args.ahead.now.left + 1)) c.open.ensures.control c.open.ensures.frames (omega (arith, within))
