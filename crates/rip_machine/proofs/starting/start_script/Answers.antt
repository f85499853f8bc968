use Rattle.std.proofs.Common.{rules, ◌≡◌, ℕ, Some, Ok, ap, subst, sym}
use Rattle.rip_eval_rows.specs.declared.frame.Ending.TheVariants.{Script}
use Rattle.rip_eval_rows.specs.declared.part.Part.{Part}
use Rattle.rip_eval_rows.specs.Law.{Begins}
use Rattle.rip_eval_language.specs.Does.{DoesPurely}
use Rattle.rip_machine.specs.Law.{StartsRun}
use Rattle.rip_eval_language.specs.Reading.{children_from}
use Rattle.rip_eval_language.specs.Rows.Scripts.{script_entered, script_part, script_row}
use Rattle.rip_eval_language.specs.Rows.Statements.{statements}
use Rattle.rip_machine.specs.Starting.{script_begun}
use Rattle.rip_eval_language.specs.Table.{table}
use Rattle.rip_machine.proofs.Beginnings.{stood}
use Rattle.rip_machine.proofs.starting.start_script.Goals as goal

pub returns-clause-starts : goal.returns-clause-starts
returns-clause-starts c =
    let p = c.args.p.now in
    let m = c.args.run.now in
    let n = c.begin.new.self in
    let x = c.enter_script.new.heap in
    let root : ℕ = c.root.result in
    let at : Part = c.script_part-at.result in
    let entered : script_entered p c.args.script c.args.heap.now ≡ Some x = search rules in
    let B : Part → Type 0 = λ at. Begins (table p) (statements p at Script (children_from p at.node 0) x) c.args.fuel x n in
    let D : ℕ → Type 0 = λ depth. B (script_part root depth) in
    let S : ℕ → Type 0 = λ r. StartsRun (table p) (script_begun p m.depth r (script_entered p c.args.script c.args.heap.now)) c.args.fuel c.args.heap.now x m n (Ok tt) in
    let does : DoesPurely p at c.next-first.result (statements p at Script (children_from p at.node 0)) =
    subst (λ next. DoesPurely p at next (statements p at Script (children_from p at.node 0))) (sym c.next-first.ensures) c.statements.ensures.row in
    let begun : D m.depth =
    subst D c.greatest_depth-depth.ensures.depth (subst B c.script_part-at.ensures
    (stood c.next-first.result (table p) at (statements p at Script (children_from p at.node 0)) c.args.fuel n does c.begin.ensures.begins x)) in
    subst S c.root.ensures (script_row p root m.depth x, ap (script_begun p m.depth root) entered, begun)
