-- Plans: what an item, or a whole batch of items, does, as a program that asks for runs of the evaluator. A plan never sees
-- units, fuel or a cut, and no program.
use Rattle.std.specs.Prelude.{ℕ, ◌<◌, ◌≤◌, List, [], ◌∷◌, Option, None, Some}
use Rattle.rip_base.specs.declared.value.Value.{Value}
use Rattle.rip_heap.specs.World.{World}
use Rattle.rip_eval_rows.specs.declared.close.Close.{Close}
use Rattle.rip_eval_rows.specs.declared.close.Close.TheVariants.{Fine, Refused, Mismatch, Stopped}
use Rattle.rip_eval_rows.specs.declared.step.Opening.{Opening}
use Rattle.rip_eval_rows.specs.declared.step.Opening.TheVariants.{Script, Call}
use Rattle.rip_eval_rows.specs.declared.step.Step.{Step}
use Rattle.rip_eval_rows.specs.declared.step.Step.TheVariants as step
use Rattle.rip_eval_rows.specs.Started.{Started, ScriptOf, CallOf}

-- where S is the host's type: a plan is over, in this way; or takes a unit that is no fuel, after which the fuel is full
-- again; or waits until the outside has changed the host, and goes on with the host that it leaves; or begins a run for
-- this item, with the fuel that is left to it, and goes on with the world and the host after it, however it completes
pub data Plan (S : Type 0) : Type 0 where
  Over : Close → World → S → Plan S
  Takes : World → S → Plan S → Plan S
  Awaits : World → S → (S → Plan S) → Plan S
  Runs : ℕ → Started → World → S → (World → S → Plan S) → Plan S

-- where this plan is over and fine goes on with the next; any other close ends both
abbrev pub closed : {S : Type 0} → Close → World → S → (World → S → Plan S) → Plan S
closed Fine w s next = next w s
closed (Refused item kind) w s next = Over (Refused item kind) w s
closed (Mismatch item) w s next = Over (Mismatch item) w s
closed (Stopped item stop) w s next = Over (Stopped item stop) w s

-- one plan, and where it is fine the next
abbrev pub and_then : {S : Type 0} → Plan S → (World → S → Plan S) → Plan S
and_then (Over close w s) next = closed close w s next
and_then (Takes w s plan) next = Takes w s (and_then plan next)
and_then (Awaits w s go) next = Awaits w s (λ r. and_then (go r) next)
and_then (Runs item start w s go) next = Runs item start w s (λ x r. and_then (go x r) next)

-- no other call was reported than the one that the script made
abbrev pub IsNoMismatch : Close → Type 0
IsNoMismatch Fine = Unit {0}
IsNoMismatch (Refused item kind) = Unit {0}
IsNoMismatch (Mismatch item) = ⊥
IsNoMismatch (Stopped item stop) = Unit {0}

-- the plan takes no unit but for fuel, waits for nothing, and ends with no mismatch
abbrev pub IsPlain : {S : Type 0} → Plan S → Type 0
IsPlain (Over close w s) = IsNoMismatch close
IsPlain (Takes w s plan) = ⊥
IsPlain (Awaits w s go) = ⊥
IsPlain (Runs item start w s go) = (x : World) (r : _) → IsPlain (go x r)

-- the arguments of a call that has at most one
abbrev pub arguments_of : Option Value → List Value
arguments_of None = []
arguments_of (Some v) = v ∷ []

-- what a run is of that a step begins
abbrev pub opened : Opening → Started
opened (Script n) = ScriptOf n
opened (Call f this argument) = CallOf f this (arguments_of argument)

-- the plan that begins with this step, where the rest is what the planner means then
abbrev pub ahead : {S : Type 0} → (World → S → Plan S) → Step → World → S → Plan S
ahead rest (step.Over close) w s = Over close w s
ahead rest step.Take w s = Takes w s (rest w s)
ahead rest step.Await w s = Awaits w s (rest w)
ahead rest (step.Run item opening) w s = Runs item (opened opening) w s rest

-- how many steps are ahead falls with each step; at the end of a plan it does not rise
abbrev pub IsFewer : Step → ℕ → ℕ → Type 0
IsFewer (step.Over close) new old = new ≤ old
IsFewer step.Take new old = new < old
IsFewer step.Await new old = new < old
IsFewer (step.Run item opening) new old = new < old
