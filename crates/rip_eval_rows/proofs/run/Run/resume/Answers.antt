use Rattle.std.proofs.Common.{◌≡◌, ℕ, ◌+◌, ◌-◌, ◌≤◌, min, nat_lt, refl, ap, ◌∙◌, subst}
use Rattle.rip_eval_rows.specs.Rest.{rest}
use Rattle.rip_eval_rows.specs.Law.{Standing, Resumes}
use Rattle.rip_eval_rows.proofs.Resumes.{resumes}
use Rattle.rip_eval_rows.proofs.run.Run.resume.Goals.{in-Ok, in-Err}
use Rattle.rip_eval_rows.proofs.run.Run.resume.Goals as goal

pub returns-clause-law : goal.returns-clause-law
returns-clause-law g c = elim c.match-ran.branch [
  | in-Ok w ↦
      let h = g.H.Host.answers in
      let t = g.R.Rows.table c.args.rows.now in
      let u : ℕ = c.steps-ran.new.ahead.left in
      let old : Standing = record { control = c.self.inside.control; frames = c.self.inside.stack.frames; fuel = c.self.inside.fuel; spent = c.self.inside.spent; depth = c.self.inside.depth; value_room = c.self.inside.stack.room } in
      let new : Standing = record { control = c.steps-ran.new.ahead.control; frames = c.steps-ran.new.stack.frames; fuel = c.self.inside.fuel - (c.min-budget.result - u); spent = c.self.inside.spent + (c.min-budget.result - u); depth = c.self.inside.depth; value_room = c.steps-ran.new.stack.room } in
      let budget : c.min-budget.result ≡ min c.args.n c.self.inside.fuel = c.min-budget.ensures in
      let B : ℕ → Type 0 = λ b. u ≤ b in
      let within : u ≤ min c.args.n c.self.inside.fuel = subst B budget c.steps-ran.ensures.within in
      let law : Resumes h t old c.args.heap.now c.args.host.now c.args.n new c.steps-ran.new.heap c.steps-ran.new.host c.match-ran.result =
      rw (w.result-is, w.turned_of.ensures) (resumes h t old new c.args.heap.now c.steps-ran.new.heap c.args.host.now c.steps-ran.new.host c.args.n u c.steps-ran.new.ahead.control (nat_lt c.args.n c.self.inside.fuel)
      (λ j. w.in-Ok.ensures.rest j ∙ ap (λ b. rest h t old.control old.frames (b + j) c.args.heap.now c.args.host.now) budget)
      w.in-Ok.ensures.stands within refl (ap (λ b. c.self.inside.fuel - (b - u)) budget) (ap (λ b. c.self.inside.spent + (b - u)) budget) refl refl) in
      let M : Standing → Type 0 = λ m. Resumes h t m c.args.heap.now c.args.host.now c.args.n new c.steps-ran.new.heap c.steps-ran.new.host c.match-ran.result in
      subst M c.self.view_is law
  | in-Err w ↦ rw w.result-is tt
]
