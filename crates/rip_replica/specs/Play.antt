-- A plan as it is played: the one interpreter of plans, which has the units, the fuel and what the outside changes.
use Rattle.std.specs.Prelude.{ℕ, zero, suc, ◌+◌, ◌-◌, min, List, [], ◌∷◌}
use Rattle.rip_heap.specs.World.{World}
use Rattle.rip_eval_rows.specs.declared.close.Close.{Close}
use Rattle.rip_eval_rows.specs.declared.close.Close.TheVariants.{Fine, Refused, Mismatch, Stopped}
use Rattle.rip_eval_rows.specs.Evaluation.{Reached, Passes, Breaks, Pauses}
use Rattle.rip_eval_rows.specs.Plan.{Plan, Over, Takes, Awaits, Runs}
use Rattle.rip_eval_rows.specs.Started.{Started}

-- how a plan comes out, where S is the host's type: it closes, with the changes, the fuel and the units that it did not
-- need; or it holds, with so much of the depth open, where no unit is left or the outside changes nothing more
pub data Played (S : Type 0) : Type 0 where
  Closes : Close → List (S → S) → ℕ → ℕ → World → S → Played S
  Holds : ℕ → World → S → Played S

-- goes on after a run for which there were so much fuel and so many units, with those that it did not need, however it
-- completed; a fault and a limit close the plan
abbrev pub after_run : {S : Type 0} → ℕ → Reached S → List (S → S) → ℕ → ℕ → (ℕ → ℕ → World → S → Played S) → Played S
after_run item (Passes v w s) gs fuel u go = go (fuel - min u fuel + v) (u - min u fuel + v) w s
after_run item (Breaks stop v w s) gs fuel u go =
    Closes (Stopped item stop) gs (fuel - min u fuel + v) (u - min u fuel + v) w s
after_run item (Pauses open_depth w s) gs fuel u go = Holds open_depth w s

-- a plan with these changes of the outside to come, so much fuel and so many units, where runs mean this, and `full` is the
-- fuel of an item
abbrev pub play : {S : Type 0} → (Started → World → S → ℕ → ℕ → Reached S) → ℕ → Plan S → List (S → S) → ℕ → ℕ → Played S
play run full (Over close w s) gs fuel u = Closes close gs fuel u w s
play run full (Takes w s plan) gs fuel zero = Holds 0 w s
play run full (Takes w s plan) gs fuel (suc u) = play run full plan gs full u
play run full (Awaits w s go) [] fuel u = Holds 0 w s
play run full (Awaits w s go) (g ∷ gs) fuel u = play run full (go (g s)) gs fuel u
play run full (Runs item start w s go) gs fuel u =
    after_run item (run start w s fuel u) gs fuel u (λ e v x r. play run full (go x r) gs e v)

-- goes on where a plan closed fine, with what it did not need
abbrev pub followed : {S : Type 0} → Played S → (List (S → S) → ℕ → ℕ → World → S → Played S) → Played S
followed (Closes Fine gs fuel u w s) go = go gs fuel u w s
followed (Closes (Refused item kind) gs fuel u w s) go = Closes (Refused item kind) gs fuel u w s
followed (Closes (Mismatch item) gs fuel u w s) go = Closes (Mismatch item) gs fuel u w s
followed (Closes (Stopped item stop) gs fuel u w s) go = Closes (Stopped item stop) gs fuel u w s
followed (Holds open_depth w s) go = Holds open_depth w s
