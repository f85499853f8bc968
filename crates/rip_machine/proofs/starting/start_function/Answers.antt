use Rattle.std.proofs.Common.{Ok, subst}
use Rattle.rip_eval_language.specs.declared.callee.Invocable.{Invocable}
use Rattle.rip_machine.specs.Law.{StartsRun}
use Rattle.rip_machine.specs.Starting.{call_begun}
use Rattle.rip_eval_language.specs.Table.{table}
use Rattle.rip_machine.proofs.starting.start_function.Goals as goal

pub returns-in-OfScript-clause-starts : goal.returns-in-OfScript-clause-starts
returns-in-OfScript-clause-starts c =
    let p = c.args.p.now in
    let S : Invocable → Type 0 = λ callee. StartsRun (table p) (call_begun p c.args.run.now.depth c.args.this.now c.args.args.now callee c.args.heap.now) c.args.fuel c.args.heap.now c.start_call.new.heap c.args.run.now c.start_call.new.run c.start_call.result in
    subst S c.in-OfScript.ensures c.start_call.ensures.starts

pub returns-in-OfBuiltin-clause-starts : goal.returns-in-OfBuiltin-clause-starts
returns-in-OfBuiltin-clause-starts c =
    let p = c.args.p.now in
    let S : Invocable → Type 0 = λ callee. StartsRun (table p) (call_begun p c.args.run.now.depth c.args.this.now c.args.args.now callee c.args.heap.now) c.args.fuel c.args.heap.now c.start_builtin.new.heap c.args.run.now c.start_builtin.new.run c.start_builtin.result in
    subst S c.in-OfBuiltin.ensures (c.start_builtin.ensures.starts p)

pub returns-in-NotCallable-clause-starts : goal.returns-in-NotCallable-clause-starts
returns-in-NotCallable-clause-starts c =
    let p = c.args.p.now in
    let S : Invocable → Type 0 = λ callee. StartsRun (table p) (call_begun p c.args.run.now.depth c.args.this.now c.args.args.now callee c.args.heap.now) c.args.fuel c.args.heap.now c.start_throw.new.heap c.args.run.now c.start_throw.new.run (Ok tt) in
    subst S c.in-NotCallable.ensures (c.start_throw.ensures.starts p c.args.args.now)
