use Rattle.std.proofs.Common.{◌≡◌, ℕ, Some, refl, sym, ◌∙◌, subst}
use Rattle.rip_eval_rows.specs.declared.frame.Ending.TheVariants.{Call}
use Rattle.rip_eval_rows.specs.declared.part.Inner.{Inner}
use Rattle.rip_eval_rows.specs.declared.part.Part.{Part}
use Rattle.rip_eval_rows.specs.Frame.{inside}
use Rattle.rip_eval_rows.specs.Law.{Begins}
use Rattle.rip_eval_language.specs.declared.callee.Invocable.TheVariants.{OfScript}
use Rattle.rip_eval_language.specs.Rows.Calls.{running}
use Rattle.rip_eval_language.specs.Rows.Functions.{body, function_entered}
use Rattle.rip_eval_language.specs.Rows.Statements.{statements}
use Rattle.rip_machine.specs.Starting.{function_part, outside}
use Rattle.rip_eval_language.specs.Table.{table}
use Rattle.rip_machine.proofs.Beginnings.{runs_function, stood}
use Rattle.rip_eval_statements.proofs.Declared.{entered_scope}
use Rattle.rip_machine.proofs.starting.start_call.Goals as goal

pub returns-in-Some-clause-starts : goal.returns-in-Some-clause-starts
returns-in-Some-clause-starts c =
    let p = c.args.p.now in
    let m = c.args.run.now in
    let n = c.begin.new.self in
    let w = c.args.heap.now in
    let x = c.enter_function.new.heap in
    let f : ℕ = c.args.function.0 in
    let scope : ℕ = c.args.function.1 in
    let made : ℕ = c.in-Some.field-0 in
    let this = c.args.this.now in
    let args = c.args.args.now in
    let entered : function_entered p f scope args w ≡ Some (made, x) = c.in-Some.ensures.entered in
    let some : m.depth ≡ 0 → ⊥ = λ e. c.if-depth-eq0.false (c.greatest_depth-depth.ensures.depth ∙ e) in
    let at : Part = c.outside-at.result in
    let function : Inner = c.running.result in
    let number : c.scopes.result ≡ made = c.scopes.ensures ∙ sym (entered_scope p f scope args w (made, x) entered) in
    let A : Part → Type 0 = λ at. Begins (table p) (statements p (inside at function) Call (body p function.node) x) c.args.fuel x n in
    let G : Inner → Type 0 = λ function. Begins (table p) (statements p (inside (outside m.depth this) function) Call (body p function.node) x) c.args.fuel x n in
    let D : ℕ → Type 0 = λ depth. A (outside depth this) in
    let N : ℕ → Type 0 = λ made. G (running f made this) in
    let begun : Begins (table p) (statements p (function_part f made this m.depth) Call (body p f) x) c.args.fuel x n =
    subst N number (subst G c.running.ensures (subst D c.greatest_depth-depth.ensures.depth (subst A c.outside-at.ensures
    (stood c.call_statements-first.result (table p) at (statements p (inside at function) Call (body p function.node)) c.args.fuel n c.call_statements-first.ensures.row c.begin.ensures.begins x)))) in
    (statements p (function_part f made this m.depth) Call (body p f) x, runs_function p m.depth this args (OfScript f scope) w x f scope made some refl entered, begun)
