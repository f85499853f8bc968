-- A session with rooms for its items wants memory only at an item that reports a call.
use Rattle.std.specs.Prelude.{◌≡◌, ℕ, ◌-◌, ◌≤◌, true, List, [], ◌∷◌, Option, None, Some, slice_get}
use Rattle.rip_heap.specs.World.{World}
use Rattle.rip_wire.specs.declared.ending.Ending.{Ending}
use Rattle.rip_wire.specs.declared.ending.Ending.TheVariants as ending
use Rattle.rip_eval_rows.specs.declared.close.Close.{Close}
use Rattle.rip_eval_rows.specs.declared.close.Close.TheVariants.{Fine, Refused, Mismatch, Stopped}
use Rattle.rip_eval_rows.specs.Evaluation.{Evaluation}
use Rattle.rip_eval_rows.specs.Plan.{Plan}
use Rattle.rip_replica.specs.declared.scheduler.runner.Runner.{Runner}
use Rattle.rip_replica.specs.SchedulerRooms.{HasRooms}
use Rattle.rip_history.specs.Parts.{Fact, Given, Part, serves_call, tells_call}
use Rattle.rip_history.specs.declared.sessions.Progress.{Progress}
use Rattle.rip_history.specs.declared.sessions.Progress.TheVariants as progress
use Rattle.rip_replica.specs.declared.item.AtItem.{AtItem}
use Rattle.rip_replica.specs.declared.replica.Turn.{Turn}
use Rattle.rip_replica.specs.declared.replica.Turn.TheVariants.{On, Busy, Calls, Done, Ends, Lacks}
use Rattle.rip_replica.specs.Numbers.{KeepsServed, KeepsSteps}

-- no memory is wanting in a turn
abbrev pub HasNoLack : Turn → Type 0
HasNoLack (On u) = Unit {0}
HasNoLack Busy = Unit {0}
HasNoLack (Calls u) = Unit {0}
HasNoLack Done = Unit {0}
HasNoLack (Ends close) = Unit {0}
HasNoLack Lacks = ⊥

-- the item reports another call than the one that the script made, or none was made
abbrev pub IsMismatch : Close → Type 0
IsMismatch Fine = ⊥
IsMismatch (Refused item kind) = ⊥
IsMismatch (Mismatch item) = Unit {0}
IsMismatch (Stopped item stop) = ⊥

-- the ending is not that for want of memory
abbrev pub IsNoLack : Ending → Type 0
IsNoLack (ending.Mismatch item number reported made) = Unit {0}
IsNoLack (ending.BadReport item kind) = Unit {0}
IsNoLack (ending.Limit item limit) = Unit {0}
IsNoLack (ending.Fault item fault) = Unit {0}
IsNoLack (ending.Memory item) = ⊥
IsNoLack ending.Closed = Unit {0}

-- a session has the rooms of its runner; the host never wants memory, where `May` says that it may; and what its items need is
-- changed by no run, no step of an item and no call that is served
pub record IsRoomed {M I A S : Type 0} (e : Evaluation M S) (has_room : M → ℕ → Type 0) (room : I → ℕ) (need : S → ℕ)
    (under_way : I → A → ℕ → World → S → Plan S) (serve : ℕ → Given → S → S) (May : Type 0) (r : Runner M (AtItem I A)) (s : S) : Type 0 where
  pub steps : KeepsSteps e under_way need
  pub served : KeepsServed serve need
  pub never : May → ⊥
  pub rooms : HasRooms e has_room (λ (p : AtItem I A). room p.items) need r s

-- the item of this number, counted from 1, is there and reports a call
abbrev pub IsCallAt : {A : Type 0} → (A → Fact) → List A → ℕ → Type 0
IsCallAt fact items number = (1 ≤ number) × (a : _) × (slice_get items (number - 1) ≡ Some a) × (serves_call (fact a) ≡ true)

-- the next part is that of an item which reports a call
abbrev pub HeadsCall : List Part → Type 0
HeadsCall [] = ⊥
HeadsCall (p ∷ ps) = tells_call p.fact ≡ true

-- this holds where the session lives
abbrev pub IfLives : Progress → Type 0 → Type 0
IfLives progress.Busy this = this
IfLives (progress.Finished None) this = this
IfLives (progress.Finished (Some how)) this = Unit {0}
