-- A session that is admitted a batch keeps its rooms.
use Rattle.std.proofs.Common.{◌≡◌, ℕ, ◌≤◌, ap, sym, subst, ◌∙◌}
use Rattle.rip_eval_rows.specs.declared.step.Phase.{Phase}
use Rattle.rip_eval_rows.specs.declared.step.Phase.TheVariants.{Asking, Taking, Awaiting, Running, Over}
use Rattle.rip_eval_rows.specs.Evaluation.{Evaluation}
use Rattle.rip_replica.specs.declared.scheduler.runner.Runner.{Runner}
use Rattle.rip_replica.specs.SchedulerRooms.{HasRooms, fuel_in}

fuel_same : {M P S : Type 0} (e : Evaluation M S) (r t : Runner M P) → t.evaluator ≡ r.evaluator → t.fuel ≡ r.fuel → (phase : Phase)
    → fuel_in e t phase ≡ fuel_in e r phase
fuel_same e r t evaluator fuel Asking = fuel
fuel_same e r t evaluator fuel Taking = fuel
fuel_same e r t evaluator fuel Awaiting = fuel
fuel_same e r t evaluator fuel (Running item) = ap (λ m. e.fuel m) evaluator
fuel_same e r t evaluator fuel (Over close) = fuel

pub rooms_admitted : {M P S : Type 0} (e : Evaluation M S) (has_room : M → ℕ → Type 0) (room : P → ℕ) (need : S → ℕ) (r t : Runner M P) (s y : S)
    → t.evaluator ≡ r.evaluator → t.full ≡ r.full → room t.planner ≡ room r.planner → t.phase ≡ r.phase → t.fuel ≡ r.fuel → y ≡ s
    → HasRooms e has_room room need r s → HasRooms e has_room room need t y
rooms_admitted e has_room room need r t s y evaluator full rooms phase fuel page h =
    let R : _ → Type 0 = λ m. has_room m t.full in
    let F : ℕ → Type 0 = λ k. has_room r.evaluator k in
    let same : fuel_in e t t.phase ≡ fuel_in e r r.phase = ap (λ p. fuel_in e t p) phase ∙ fuel_same e r t evaluator fuel r.phase in
    let L : ℕ → Type 0 = λ k. k ≤ r.full in
    let M : ℕ → Type 0 = λ k. fuel_in e t t.phase ≤ k in
    let N : ℕ → Type 0 = λ k. k ≤ room t.planner in
    let K : ℕ → Type 0 = λ k. need s ≤ k in
    record {
      runs = subst R (sym evaluator) (subst F (sym full) h.runs);
      fuel = subst M (sym full) (subst L (sym same) h.fuel);
      steps = subst N (sym (ap need page)) (subst K (sym rooms) h.steps);
    }
