-- The machine as plans see it.
use Rattle.std.proofs.Common.{◌≡◌, ℕ, ◌+◌, ◌-◌, ◌≤◌, min, Option, None, Some, Result, Ok, Err, refl, ap, sym, ◌∙◌, arith}
use Rattle.rip_base.specs.declared.value.Refused.{Refused}
use Rattle.rip_base.specs.declared.value.Refused.TheVariants.{Limit as At, Memory as NoRoom}
use Rattle.rip_heap.specs.World.{World}
use Rattle.rip_eval_rows.specs.declared.completion.Completion.{Completion}
use Rattle.rip_eval_rows.specs.declared.completion.Completion.TheVariants.{Normal, Thrown as ThrownCompletion, Returned, Broken, Continued, Referred, Method}
use Rattle.rip_eval_rows.specs.declared.completion.Stop.{Stop}
use Rattle.rip_eval_rows.specs.declared.completion.Stop.TheVariants.{Fault as AtFault, Limit as AtLimit}
use Rattle.rip_eval_rows.specs.declared.evaluator.Advance.TheVariants.{Paused}
use Rattle.rip_eval_rows.specs.Evaluation.{Advances, Begins, Passes, Breaks, Pauses, Reached, reached}
use Rattle.rip_eval_rows.specs.Row.{Table}
use Rattle.rip_eval_rows.specs.Run.{Answer, Completes, Stops, Cuts, Calling}
use Rattle.rip_eval_rows.specs.Started.{Started}
use Rattle.rip_tree.specs.Program.{Code}
use Rattle.rip_eval_rows.specs.declared.outcome.Outcome.{Outcome}
use Rattle.rip_eval_rows.specs.declared.outcome.Outcome.TheVariants.{Value as Gives, Thrown, Fault, Limit as PastLimit, Memory}
use Rattle.rip_eval_rows.specs.declared.outcome.Turned.TheVariants.{More, Done}
use Rattle.rip_eval_rows.specs.Law.{end_of, further, outcome_of, stop_outcome}
use Rattle.rip_machine.specs.Law.{Ends, Resumes, Standing, Starts, left, loaded, open_depth}
use Rattle.rip_machine.specs.Plans.{advance_of, evaluation}
use Rattle.rip_machine.specs.Run.{run_begun, run_from}
use Rattle.rip_machine.specs.Starting.{begun_by}
use Rattle.rip_eval_language.specs.Table.{table}
use Rattle.rip_machine.proofs.WholeRuns.{runs_on}

-- another machine with these literals and this depth reads the program alike
same_left : {S : Type 0} (h : Calling S) (code : Code) (m n : Standing) (w : World) (s : S) (k : ℕ) → n.literals ≡ m.literals → n.depth ≡ m.depth
    → reached n.depth (left h (table (loaded code n)) n w s k) ≡ reached m.depth (left h (table (loaded code m)) n w s k)
same_left h code m n w s k literals depth =
    ap (λ d. reached d (left h (table (loaded code n)) n w s k)) depth
    ∙ ap (λ ls. reached m.depth (left h (table (record { code = code; literals = ls })) n w s k)) literals

pub begins : {S : Type 0} (h : Calling S) (code : Code) (m n : Standing) (w x : World) (start : Started) (fuel : ℕ) (result : Result (Unit {0}) Refused)
    → n.literals ≡ m.literals → n.depth ≡ m.depth
    → Starts (table (loaded code m)) (begun_by (loaded code m) m.depth start w) fuel w x m n result
    → Begins (evaluation h code) start fuel m w n x result
begins h code m n w x start fuel (Ok done) literals depth starts =
    (λ s k. same_left h code m n x s k literals depth ∙ ap (reached m.depth) (runs_on h (loaded code m) m.depth start w x s fuel n (starts.0, starts.1, starts.2, depth) k), starts.2.1)
begins h code m n w x start fuel (Err (At limit)) literals depth starts =
    (λ s k. ap (λ b. reached m.depth (run_begun h (table (loaded code m)) m.depth b w s fuel k)) starts.0 ∙ (let e : min fuel k ≡ min k fuel = omega arith in ap (λ u. Breaks (AtLimit limit) u w s) e), starts.1)
begins h code m n w x start fuel (Err NoRoom) literals depth starts = starts

-- where a run stands that has come to its end with this outcome
by_outcome : {S : Type 0} → Outcome → ℕ → World → S → Reached S
by_outcome (Gives v) u w s = Passes u w s
by_outcome (Thrown v) u w s = Passes u w s
by_outcome (Fault fault) u w s = Breaks (AtFault fault) u w s
by_outcome (PastLimit limit) u w s = Breaks (AtLimit limit) u w s
by_outcome Memory u w s = Pauses 0 w s

passes : {S : Type 0} (c : Completion) (u : ℕ) (w : World) (s : S) → by_outcome (outcome_of c) u w s ≡ Passes u w s
unfolding by_outcome
passes (Normal v) u w s = refl
passes (ThrownCompletion v) u w s = refl
passes (Returned v) u w s = refl
passes Broken u w s = refl
passes Continued u w s = refl
passes (Referred r) u w s = refl
passes (Method f this) u w s = refl

breaks : {S : Type 0} (stop : Stop) (u : ℕ) (w : World) (s : S) → by_outcome (stop_outcome stop) u w s ≡ Breaks stop u w s
unfolding by_outcome
breaks (AtFault fault) u w s = refl
breaks (AtLimit limit) u w s = refl

-- the same of the end of an answer, where it has one
told : {S : Type 0} → Reached S → Option (Outcome × ℕ × ℕ × World × S) → Reached S
told other None = other
told other (Some t) = by_outcome t.0 t.2 t.3 t.4

told_end : {S : Type 0} (d : ℕ) (a : Answer S) → told (reached d a) (end_of d a) ≡ reached d a
unfolding told
told_end d (Completes c u w s) = passes c u w s
told_end d (Stops stop room u w s) = breaks stop u w s
told_end d (Cuts room w s) = refl

comes_out : {S : Type 0} (d : ℕ) (a : Answer S) (outcome : Outcome) (o u : ℕ) (w : World) (s : S) → end_of d a ≡ Some (outcome, o, u, w, s) → reached d a ≡ by_outcome outcome u w s
unfolding told
comes_out d a outcome o u w s e = sym (told_end d a) ∙ ap (told (reached d a)) e

-- an end within n units, with those that it used
ends_so : {S : Type 0} (h : Calling S) (t : Table) (m m' : Standing) (w w' : World) (s s' : S) (n : ℕ) (outcome : Outcome) → m.spent ≤ m'.spent → Ends h t m w s n m' w' s' outcome
    → (k : ℕ) → reached m.depth (left h t m w s (n + k)) ≡ by_outcome outcome (min (n + k) m.fuel - (m'.spent - m.spent)) w' s'
ends_so h t m m' w w' s s' n outcome later ends k =
    let u : ends.0 + further m.fuel n k ≡ min (n + k) m.fuel - (m'.spent - m.spent) = omega (arith, ends.2) in
    comes_out m.depth (left h t m w s (n + k)) outcome (open_depth m') (ends.0 + further m.fuel n k) w' s' (ends.1 k) ∙ ap (λ u. by_outcome outcome u w' s') u

used_within : {S : Type 0} (h : Calling S) (t : Table) (m m' : Standing) (w w' : World) (s s' : S) (n : ℕ) (outcome : Outcome) → Ends h t m w s n m' w' s' outcome
    → m'.spent - m.spent ≤ min n m.fuel
used_within h t m m' w w' s s' n outcome ends = omega (arith, ends.2)

-- what `resume` leaves, as plans see it
pub advances : {S : Type 0} (h : Calling S) (code : Code) (m m' : Standing) (w w' : World) (s s' : S) (n : ℕ) (outcome : Outcome)
    → m.spent ≤ m'.spent → Resumes h (table (loaded code m)) m w s n m' w' s' (Done outcome) → Advances (evaluation h code) n m w s m' w' s' (advance_of outcome (m'.spent - m.spent))
unfolding by_outcome
advances h code m m' w w' s s' n (Gives v) later law = (ends_so h (table (loaded code m)) m m' w w' s s' n (Gives v) later law, used_within h (table (loaded code m)) m m' w w' s s' n (Gives v) law)
advances h code m m' w w' s s' n (Thrown v) later law = (ends_so h (table (loaded code m)) m m' w w' s s' n (Thrown v) later law, used_within h (table (loaded code m)) m m' w w' s s' n (Thrown v) law)
advances h code m m' w w' s s' n (Fault fault) later law = (ends_so h (table (loaded code m)) m m' w w' s s' n (Fault fault) later law, used_within h (table (loaded code m)) m m' w w' s s' n (Fault fault) law)
advances h code m m' w w' s s' n (PastLimit limit) later law = (ends_so h (table (loaded code m)) m m' w w' s s' n (PastLimit limit) later law, used_within h (table (loaded code m)) m m' w w' s s' n (PastLimit limit) law)
advances h code m m' w w' s s' n Memory later law = tt

pub pauses : {S : Type 0} (h : Calling S) (code : Code) (m m' : Standing) (w w' : World) (s s' : S) (n : ℕ)
    → m'.literals ≡ m.literals → m'.depth ≡ m.depth → m'.spent + m'.fuel ≡ m.spent + m.fuel
    → Resumes h (table (loaded code m)) m w s n m' w' s' More → Advances (evaluation h code) n m w s m' w' s' Paused
pauses h code m m' w w' s s' n literals depth counted law = (
  ap (reached m.depth) law.0.1 ∙ ap (λ d. Pauses d w' s') (sym law.0.2),
  λ k. same_left h code m m' w' s' k literals depth ∙ ap (reached m.depth) (law.1 k),
  omega (arith, law.2, counted),
)

-- a machine with these literals and this depth runs a program alike
pub same_run : {S : Type 0} (h : Calling S) (code : Code) (m n : Standing) → n.literals ≡ m.literals → n.depth ≡ m.depth
    → (evaluation h code).run n ≡ (evaluation h code).run m
same_run h code m n literals depth =
    ap (λ d. λ start w s fuel k. reached d (run_from h (loaded code n) d start w s fuel k)) depth
    ∙ ap (λ ls. λ start w s fuel k. reached m.depth (run_from h (record { code = code; literals = ls }) m.depth start w s fuel k)) literals
