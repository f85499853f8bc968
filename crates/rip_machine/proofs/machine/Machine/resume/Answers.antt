use Rattle.std.proofs.Common.{List, subst}
use Rattle.rip_base.specs.declared.value.Span.{Span}
use Rattle.rip_machine.specs.Law.{Resumes, Standing, standing}
use Rattle.rip_eval_language.specs.Table.{table}
use Rattle.rip_machine.proofs.machine.Machine.resume.Goals as goal

pub returns-clause-law : goal.returns-clause-law
returns-clause-law g c =
    let h = g.H.Host.answers in
    let literals = c.self.inside.literals.items in
    let new = standing c.resume.new.self literals in
    let L : List Span → Type 0 = λ ls. Resumes h (table (record { code = c.args.program.now; literals = ls })) (standing c.self.inside.run literals) c.args.heap.now c.args.host.now c.args.n new c.resume.new.heap c.resume.new.host c.resume.result in
    let M : Standing → Type 0 = λ m. Resumes h (table (record { code = c.args.program.now; literals = m.literals })) m c.args.heap.now c.args.host.now c.args.n new c.resume.new.heap c.resume.new.host c.resume.result in
    subst M c.self.view_is (subst L c.as_slice.ensures.value c.resume.ensures.law)
