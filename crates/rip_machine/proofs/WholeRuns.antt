-- A run that was started and went on to its end is the whole run of its start.
use Rattle.std.proofs.Common.{◌≡◌, ℕ, ◌+◌, ◌-◌, ◌≤◌, min, Bool, true, false, Some, ap, sym, ◌∙◌, arith}
use Rattle.std.proofs.lemmas.Bool.{le-leb}
use Rattle.rip_base.specs.declared.value.Limit.{Limit}
use Rattle.rip_heap.specs.World.{World}
use Rattle.rip_eval_rows.specs.Cut.{conclude}
use Rattle.rip_eval_rows.specs.Row.{Table}
use Rattle.rip_eval_rows.specs.Run.{Answer, Completes, Stops, Cuts, Calling}
use Rattle.rip_eval_rows.specs.Started.{Started}
use Rattle.rip_eval_rows.specs.Law.{end_of, further}
use Rattle.rip_machine.specs.Law.{Ends, Resumes, Standing, left, open_depth, run}
use Rattle.rip_eval_language.specs.Reading.{Loaded}
use Rattle.rip_machine.specs.Run.{IsStarted, IsWhole, RunsWhole, comes_to, run_begun, run_from}
use Rattle.rip_machine.specs.Starting.{Runs, Exceeds, begun_by}
use Rattle.rip_eval_language.specs.Table.{table}
use Rattle.rip_eval_rows.specs.declared.outcome.Outcome.{Outcome}
use Rattle.rip_eval_rows.specs.declared.outcome.Outcome.TheVariants.{Value as Gives, Thrown, Fault, Limit as AtLimit, Memory}
use Rattle.rip_eval_rows.specs.declared.outcome.Turned.{Turned}
use Rattle.rip_eval_rows.specs.declared.outcome.Turned.TheVariants.{More, Done}
use Rattle.rip_eval_rows.proofs.Resumes.{begins_whole}

-- what is left after a start
pub runs_on : {S : Type 0} (h : Calling S) (p : Loaded) (depth : ℕ) (start : Started) (w x : World) (s : S) (fuel : ℕ) (n : Standing)
    → IsStarted p depth start w fuel x n → (k : ℕ) → left h (table p) n x s k ≡ run_from h p depth start w s fuel k
runs_on h p depth start w x s fuel n started k =
    begins_whole h (table p) started.0 fuel x s (run n) started.2 k
    ∙ ap (λ d. run_begun h (table p) d (Runs started.0 x) w s fuel k) started.3
    ∙ ap (λ b. run_begun h (table p) depth b w s fuel k) (sym started.1)

-- a run whose fuel is spent is not cut
not_cut : {S : Type 0} (spent : Bool) (answer : Answer S) (room : ℕ) (w : World) (s : S) → spent ≡ true → conclude spent answer ≡ Cuts room w s → ⊥
not_cut false answer room w s e h = cc
not_cut true (Completes c u x r) room w s e h = cc
not_cut true (Stops stop there u x r) room w s e h = cc
not_cut true (Cuts there x r) room w s e h = cc

never_more : {S : Type 0} (h : Calling S) (t : Table) (n : Standing) (x : World) (s : S) (fuel : ℕ) (e : Standing) (y : World) (r : S)
    → n.fuel ≤ fuel → Resumes h t n x s fuel e y r More → ⊥
never_more h t n x s fuel e y r enough law = not_cut _ _ law.0.0 y r (le-leb n.fuel fuel enough) law.0.1

whole_end : {S : Type 0} (h : Calling S) (p : Loaded) (depth : ℕ) (start : Started) (w x y : World) (s r : S) (fuel : ℕ) (n e : Standing) (outcome : Outcome)
    → IsStarted p depth start w fuel x n → Ends h (table p) n x s fuel e y r outcome → RunsWhole h p depth start w s fuel e y r outcome
whole_end h p depth start w x y s r fuel n e outcome started ends =
    let same : n.depth ≡ depth = started.3 in
    let begins = started.2 in
    let fuel_is : n.fuel ≡ fuel = begins.1 in
    let spent : n.spent ≡ 0 = begins.2 in
    let all : fuel ≡ fuel + 0 = omega arith in
    let none : ends.0 + further n.fuel fuel 0 ≡ ends.0 = omega arith in (
      ends.0,
      ap (λ a. end_of depth a) (sym (runs_on h p depth start w x s fuel n started fuel))
          ∙ ap (λ d. end_of d (left h (table p) n x s fuel)) (sym same)
          ∙ ap (λ k. end_of n.depth (left h (table p) n x s k)) all
          ∙ ends.1 0
          ∙ ap (λ u. Some (outcome, open_depth e, u, y, r)) none,
      omega (arith, ends.2, fuel_is, spent),
    )

-- what is left of a run that was started, after as many units as its fuel
pub goes_whole : {S : Type 0} (h : Calling S) (p : Loaded) (depth : ℕ) (start : Started) (w x y : World) (s r : S) (fuel : ℕ) (n e : Standing) (turned : Turned)
    → IsStarted p depth start w fuel x n → Resumes h (table p) n x s fuel e y r turned → IsWhole h p depth start w s fuel e y r turned
goes_whole h p depth start w x y s r fuel n e More started law =
    let fuel_is : n.fuel ≡ fuel = started.2.1 in
    never_more h (table p) n x s fuel e y r (omega (arith, fuel_is)) law
goes_whole h p depth start w x y s r fuel n e (Done (Gives v)) started ends = whole_end h p depth start w x y s r fuel n e (Gives v) started ends
goes_whole h p depth start w x y s r fuel n e (Done (Thrown v)) started ends = whole_end h p depth start w x y s r fuel n e (Thrown v) started ends
goes_whole h p depth start w x y s r fuel n e (Done (Fault fault)) started ends = whole_end h p depth start w x y s r fuel n e (Fault fault) started ends
goes_whole h p depth start w x y s r fuel n e (Done (AtLimit limit)) started ends = whole_end h p depth start w x y s r fuel n e (AtLimit limit) started ends
goes_whole h p depth start w x y s r fuel n e (Done Memory) started ends = tt

-- a start that would pass a limit
pub stopped : {S : Type 0} (h : Calling S) (p : Loaded) (depth : ℕ) (start : Started) (w : World) (s : S) (fuel : ℕ) (limit : Limit)
    → begun_by p depth start w ≡ Exceeds limit → comes_to h p depth start w s fuel fuel ≡ Some (AtLimit limit, 0, fuel, w, s)
stopped h p depth start w s fuel limit e =
    let u : min fuel fuel ≡ fuel = omega arith in
    let d : depth - depth ≡ 0 = omega arith in
    ap (λ b. end_of depth (run_begun h (table p) depth b w s fuel fuel)) e
    ∙ ap (λ o. Some (AtLimit limit, o, min fuel fuel, w, s)) d ∙ ap (λ u. Some (AtLimit limit, 0, u, w, s)) u
