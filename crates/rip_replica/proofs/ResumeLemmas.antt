-- The ends of a slice as the session tells them.
use Rattle.std.proofs.Common.{◌≡◌, ◌⊎◌, ◌≤◌, arith, ℕ, ◌+◌, Bool, true, List, Some, inl, inr, ap, sym, subst, ◌∙◌}
use Rattle.rip_heap.specs.World.{World}
use Rattle.rip_wire.specs.declared.ending.Ending.{Ending}
use Rattle.rip_wire.specs.declared.ending.Ending.TheVariants.{Memory}
use Rattle.rip_eval_rows.specs.declared.close.Close.{Close}
use Rattle.rip_eval_rows.specs.Evaluation.{Evaluation}
use Rattle.rip_eval_rows.specs.Plan.{Plan}
use Rattle.rip_replica.specs.Going as runner
use Rattle.rip_replica.specs.declared.scheduler.runner.Runner.{Runner}
use Rattle.rip_history.specs.Parts.{ends_at_mismatch}
use Rattle.rip_history.specs.Services.{Called, Service}
use Rattle.rip_history.specs.declared.sessions.Made.{Made}
use Rattle.rip_history.specs.declared.sessions.Progress.{Progress}
use Rattle.rip_history.specs.declared.sessions.Progress.TheVariants.{Finished}
use Rattle.rip_history.specs.declared.sessions.Slice.{Slice}
use Rattle.rip_replica.specs.declared.item.AtItem.{AtItem}
use Rattle.rip_replica.specs.declared.replica.Place.{Place}
use Rattle.rip_replica.specs.declared.replica.Place.TheVariants.{Between, Within}
use Rattle.rip_replica.specs.declared.replica.Turn.TheVariants as turn
use Rattle.rip_replica.specs.Parts.{Doing}
use Rattle.rip_replica.specs.Rooms.{IsMismatch}
use Rattle.rip_replica.specs.Slices.{EndsSo, LacksSo, Sliced}
use Rattle.rip_replica.specs.Standing.{Ahead, Behind, Spot, Turns, next_number, planned}
use Rattle.rip_replica.proofs.SliceLemmas.{Went, came_ends, came_short}

-- where the session has ended, it stands in that world and with that page, wherever its runner and its place are
elsewhere : {M A S Roomed : Type 0} (e : Evaluation M S) (d : Doing A S) (may : S → Bool) (b : ℕ) (next : Behind S) (from base limit : ℕ) (first : Ahead S) (service : Service) (calls : List Called) (slice : Slice) (old made : Made)
    (to last : Spot M A S) (Replies : List Called → Type 0) (how : Ending) → last.all ≡ to.all → last.world ≡ to.world → last.page ≡ to.page
    → Sliced Roomed e d may b next to from base limit first service calls slice old made (Finished (Some how)) Replies → Sliced Roomed e d may b next last from base limit first service calls slice old made (Finished (Some how)) Replies
elsewhere {Roomed = Roomed} e d may b next from base limit first service calls slice old made to last Replies how all world page h =
    let A : List _ → Type 0 = λ xs. EndsSo d b xs from base limit first h.ps h.gs how to.world to.page ⊎ LacksSo Roomed b from base limit first h.ps h.gs how to.world to.page in
    let W : World → Type 0 = λ w. EndsSo d b last.all from base limit first h.ps h.gs how w to.page ⊎ LacksSo Roomed b from base limit first h.ps h.gs how w to.page in
    let P : _ → Type 0 = λ s. EndsSo d b last.all from base limit first h.ps h.gs how last.world s ⊎ LacksSo Roomed b from base limit first h.ps h.gs how last.world s in
    record { ps = h.ps; gs = h.gs; comes = subst P (sym page) (subst W (sym world) (subst A (sym all) h.comes)); served = h.served }

pub memory_at : {M A S Roomed : Type 0} (e : Evaluation M S) (d : Doing A S) (may : S → Bool) (b : ℕ) (next : Behind S) (from base limit : ℕ) (first : Ahead S) (service : Service) (calls : List Called) (slice : Slice) (old made : Made)
    (to last : Spot M A S) (Replies : List Called → Type 0) (progress : Progress) (how : Ending) → last.all ≡ to.all → last.world ≡ to.world → last.page ≡ to.page → progress ≡ Finished (Some how)
    → Sliced Roomed e d may b next to from base limit first service calls slice old made (Finished (Some how)) Replies → Sliced Roomed e d may b next last from base limit first service calls slice old made progress Replies
memory_at {Roomed = Roomed} e d may b next from base limit first service calls slice old made to last Replies progress how all world page is h =
    let P : Progress → Type 0 = λ p. Sliced Roomed e d may b next last from base limit first service calls slice old made p Replies in
    subst P (sym is) (elsewhere e d may b next from base limit first service calls slice old made to last Replies how all world page h)

pub ended : {M A S Roomed : Type 0} (e : Evaluation M S) (d : Doing A S) (may : S → Bool) (b : ℕ) (next : Behind S) (from base limit : ℕ) (first : Ahead S) (service : Service) (calls : List Called) (slice : Slice) (old made : Made)
    (at to last : Spot M A S) (left : ℕ) (Replies : List Called → Type 0) (close : Close) (went : Went e d may b next from base limit first service calls slice old at left made Replies)
    (ending : List A → Close → S → Ending) → d.ending ≡ ending → last.all ≡ to.all → last.world ≡ to.world → last.page ≡ to.page → at.place ≡ Within → to.begun ≡ at.begun
    → Turns e d may b next to from went.new_base went.spent left went.later (turn.Ends close) → (progress : Progress)
    → (progress ≡ Finished (Some (Memory to.begun)) → IsMismatch close) → (IsMismatch close → ends_at_mismatch (Some (d.ending to.all close to.page)) ≡ true)
    → (progress ≡ Finished (Some (ending to.all close to.page))) ⊎ (progress ≡ Finished (Some (Memory to.begun)))
    → Sliced Roomed e d may b next last from base limit first service calls slice old made progress Replies
ended e d may b next from base limit first service calls slice old made at to last left Replies close went ending same all world page within begun ends progress mismatch tells (inl is) =
    memory_at e d may b next from base limit first service calls slice old made to last Replies progress (d.ending to.all close to.page) all world page
    (is ∙ ap (λ f. Finished (Some (f to.all close to.page))) (sym same))
    (came_ends e d may b next from base limit first service calls slice old made at to left Replies close went ends)
ended e d may b next from base limit first service calls slice old made at to last left Replies close went ending same all world page within begun ends progress mismatch tells (inr is) =
    memory_at e d may b next from base limit first service calls slice old made to last Replies progress (Memory to.begun) all world page is
    (came_short e d may b next from base limit first service calls slice old made at to left Replies close went within begun ends (tells (mismatch is)) (mismatch is))

-- a session of this runner, place, world and page
abbrev pub spot_by : {M I A S : Type 0} → (I → A → ℕ → World → S → Plan S) → (I → A → ℕ → World → S → Plan S) → Runner M (AtItem I A) → Place → World → S → Spot M A S
spot_by ip under r place w s = record {
  going = runner.going (planned under) r;
  item_plan = ip r.planner.items;
  all = r.planner.batch.items;
  begun = r.planner.begun;
  place = place;
  world = w;
  page = s;
}

pub at_last : {M I A S : Type 0} (W : Spot M A S → Type 0) (ip under : I → A → ℕ → World → S → Plan S) (r q : Runner M (AtItem I A)) (p : Place) (w x : World) (s t : S)
    → r ≡ q → p ≡ Between → w ≡ x → s ≡ t → W (spot_by ip under q Between x t) → W (spot_by ip under r p w s)
at_last W ip under r q p w x s t same-runner is same-world same-page h =
    let R : Runner _ _ → Type 0 = λ r. W (spot_by ip under r p w s) in
    let P : Place → Type 0 = λ p. W (spot_by ip under q p w s) in
    let X : World → Type 0 = λ w. W (spot_by ip under q Between w s) in
    let S' : _ → Type 0 = λ s. W (spot_by ip under q Between x s) in
    subst R (sym same-runner) (subst P (sym is) (subst X (sym same-world) (subst S' (sym same-page) h)))

pub within_number : (place : Place) (begun new : ℕ) → place ≡ Within → new ≡ begun → next_number place begun ≤ new + 1
within_number place begun new is same =
    let P : Place → Type 0 = λ p. next_number p begun ≤ new + 1 in
    let le : begun ≤ new + 1 = omega (arith, same) in
    subst P (sym is) le
