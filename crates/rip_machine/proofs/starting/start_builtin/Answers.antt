use Rattle.std.proofs.Common.{rules, ◌≡◌, ℕ, length, Some, ap, subst}
use Rattle.rip_heap.specs.World.{World, charging}
use Rattle.rip_eval_rows.specs.declared.part.Part.{Part}
use Rattle.rip_eval_rows.specs.Law.{Begins}
use Rattle.rip_eval_rows.specs.Row.{Row}
use Rattle.rip_eval_language.specs.Rows.Calls.{answered_by, answerer_of}
use Rattle.rip_machine.specs.Starting.{builtin_begun, outside}
use Rattle.rip_eval_language.specs.Table.{table}
use Rattle.rip_machine.proofs.starting.start_builtin.Goals as goal

pub returns-clause-starts : goal.returns-clause-starts
returns-clause-starts c = λ p.
    let m = c.args.run.now in
    let x = c.charge.new.self in
    let n : ℕ = length c.args.args.now in
    let charged : charging {A = World} n c.args.heap.now (λ w. w) ≡ Some x = search rules in
    let row : Part → Row = λ at. answered_by p at (answerer_of c.args.b) c.args.b c.args.this.now c.args.args.now x in
    let B : Part → Type 0 = λ at. Begins (table p) (row at) c.args.fuel x c.begin_beside.new.self in
    let D : ℕ → Type 0 = λ depth. B (outside depth c.args.this.now) in
    let begun = subst D c.greatest_depth-depth.ensures.depth (subst B c.outside.ensures (c.begin_beside.ensures.begins (table p) x)) in
    (row (outside m.depth c.args.this.now), ap (builtin_begun p m.depth c.args.b c.args.this.now c.args.args.now) charged, begun)
