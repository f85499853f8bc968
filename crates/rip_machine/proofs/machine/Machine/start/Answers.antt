use Rattle.std.proofs.Common.{List, subst}
use Rattle.rip_base.specs.declared.value.Span.{Span}
use Rattle.rip_machine.specs.Law.{Standing, Starts, loaded, standing}
use Rattle.rip_eval_language.specs.Reading.{Loaded}
use Rattle.rip_machine.specs.Starting.{begun}
use Rattle.rip_eval_language.specs.Table.{table}
use Rattle.rip_machine.proofs.Beginnings.{starts_machine}
use Rattle.rip_machine.proofs.machine.Machine.start.Goals as goal

pub returns-clause-starts : goal.returns-clause-starts
returns-clause-starts c =
    let w = c.args.heap.now in
    let x = c.start_run.new.heap in
    let m = c.self.inside.run in
    let n = c.start_run.new.run in
    let s = c.args.s.now in
    let r = c.start_run.result in
    let literals = c.self.inside.literals.items in
    let new = standing n literals in
    let L : List Span → Type 0 = λ ls. let p : Loaded = record { code = c.args.program.now; literals = ls } in Starts (table p) (begun p m.depth s w) c.args.fuel w x (standing m literals) new r in
    let M : Standing → Type 0 = λ m. Starts (table (loaded c.args.program.now m)) (begun (loaded c.args.program.now m) m.depth s w) c.args.fuel w x m new r in
    let p : Loaded = record { code = c.args.program.now; literals = c.as_slice.result.now } in
    subst M c.self.view_is (subst L c.as_slice.ensures.value (starts_machine (table p) (begun p m.depth s w) c.args.fuel w x m n literals r c.start_run.ensures.starts))
