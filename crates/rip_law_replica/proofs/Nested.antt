-- No more of the depth is open in a session than its runs nest.
use Rattle.std.proofs.Common.{◌≡◌, ℕ, Bool, zero, suc, ◌-◌, ◌+◌, ◌≤◌, min, List, [], ◌∷◌, None, Some, sym, subst, arith}
use Rattle.rip_heap.specs.World.{World}
use Rattle.rip_eval_rows.specs.Evaluation.{Evaluation, Reached, Passes, Breaks, Pauses}
use Rattle.rip_eval_rows.specs.Plan.{Plan, Over, Takes, Awaits, Runs}
use Rattle.rip_eval_rows.specs.Started.{Started}
use Rattle.rip_replica.specs.Going.{depth_in}
use Rattle.rip_replica.specs.Play.{Played, Closes, Holds, after_run, play}
use Rattle.rip_history.specs.Parts.{Given, Part}
use Rattle.rip_history.specs.declared.sessions.Progress.{Progress}
use Rattle.rip_history.specs.declared.sessions.Progress.TheVariants.{Busy, Finished}
use Rattle.rip_replica.specs.declared.replica.Place.{Place}
use Rattle.rip_replica.specs.declared.replica.Place.TheVariants.{First, Between, Within, Idle}
use Rattle.rip_replica.specs.Numbers.{StandsIdleSo, open_at}
use Rattle.rip_replica.specs.Parts.{Doing}
use Rattle.rip_replica.specs.Slices.{BusySo, Comes}
use Rattle.rip_replica.specs.Standing.{Ahead, Behind, IsCut, IsCutIn, Spot, item_play}
use Rattle.rip_law_replica.specs.Depth.{IsWithinSo, NestsWithin, PausesWithin}

HoldsWithin : {S : Type 0} → ℕ → Played S → Type 0
HoldsWithin most (Closes close gs fuel u w s) = Unit {0}
HoldsWithin most (Holds depth w s) = depth ≤ most

after_within : {S : Type 0} (most item : ℕ) (a : Reached S) (gs : List (S → S)) (fuel u : ℕ) (go : ℕ → ℕ → World → S → Played S) → PausesWithin most a
    → ((e v : ℕ) (x : World) (r : S) → HoldsWithin most (go e v x r)) → HoldsWithin most (after_run item a gs fuel u go)
unfolding HoldsWithin
after_within most item (Passes v w s) gs fuel u go h g = g (fuel - min u fuel + v) (u - min u fuel + v) w s
after_within most item (Breaks stop v w s) gs fuel u go h g = tt
after_within most item (Pauses depth w s) gs fuel u go h g = h

-- a plan that is held has no more open than its runs
play_within : {S : Type 0} (most : ℕ) (run : Started → World → S → ℕ → ℕ → Reached S) → NestsWithin most run
    → (full : ℕ) (plan : Plan S) (gs : List (S → S)) (fuel u : ℕ) → HoldsWithin most (play run full plan gs fuel u)
unfolding HoldsWithin
play_within most run nests full (Over close w s) gs fuel u = tt
play_within most run nests full (Takes w s plan) gs fuel zero = omega arith
play_within most run nests full (Takes w s plan) gs fuel (suc u) = play_within most run nests full plan gs full u
play_within most run nests full (Awaits w s go) [] fuel u = omega arith
play_within most run nests full (Awaits w s go) (g ∷ gs) fuel u = play_within most run nests full (go (g s)) gs fuel u
play_within most run nests full (Runs item start w s go) gs fuel u =
    after_within most item (run start w s fuel u) gs fuel u _ (nests start w s fuel u) (λ e v x r. play_within most run nests full (go x r) gs e v)

held_within : {S : Type 0} (most depth : ℕ) (p : Played S) (w : World) (s : S) → p ≡ Holds depth w s → HoldsWithin most p → depth ≤ most
unfolding HoldsWithin
held_within most depth p w s is h = (let H : Played _ → Type 0 = λ q. HoldsWithin most q in subst H is h)

cut_within : {M A S : Type 0} (e : Evaluation M S) (d : Doing A S) (batch : ℕ) (next : Behind S) (at : Spot M A S) (place : Place) (base limit : ℕ) (later : Ahead S) (most : ℕ)
    → NestsWithin most d.run → IsCut e d batch next at place base limit later → open_at place (depth_in e at.going.evaluator at.going.phase) ≤ most
cut_within e d batch next at First base limit later most nests h = omega arith
cut_within e d batch next at Between base limit later most nests h = omega arith
cut_within e d batch next at Within base limit later most nests h =
    let cut : IsCutIn e d batch next at base limit later = h in
    held_within most (depth_in e at.going.evaluator at.going.phase) (item_play d batch cut.item at.begun cut.world cut.page [] cut.units) at.world at.page (cut.held [])
    (play_within most d.run nests d.full (d.plan batch cut.item at.begun cut.world cut.page) [] d.full cut.units)
cut_within e d batch next at Idle base limit later most nests h = omega arith

idle_within : (place : Place) (depth most : ℕ) → place ≡ Idle → open_at place depth ≤ most
idle_within place depth most is =
    let none : open_at Idle depth ≤ most = omega arith in
    subst (λ (p : Place). open_at p depth ≤ most) (sym is) none

-- behind a slice
pub slice_within : {M A S : Type 0} (Roomed : Type 0) (e : Evaluation M S) (d : Doing A S) (may : S → Bool) (batch : ℕ) (next : Behind S) (at : Spot M A S) (from base limit : ℕ) (ahead : Ahead S)
    (ps : List Part) (gs : List Given) (progress : Progress) (most : ℕ) → NestsWithin most d.run → Comes Roomed e d may batch next at from base limit ahead ps gs progress → StandsIdleSo progress at.place
    → IsWithinSo progress (open_at at.place (depth_in e at.going.evaluator at.going.phase)) most
slice_within Roomed e d may batch next at from base limit ahead ps gs Busy most nests comes idle =
    let busy : BusySo e d may batch next at from base limit ahead ps gs = comes in
    cut_within e d batch next at at.place busy.new_base limit busy.later most nests busy.cut
slice_within Roomed e d may batch next at from base limit ahead ps gs (Finished None) most nests comes idle =
    idle_within at.place (depth_in e at.going.evaluator at.going.phase) most idle
slice_within Roomed e d may batch next at from base limit ahead ps gs (Finished (Some how)) most nests comes idle = tt
