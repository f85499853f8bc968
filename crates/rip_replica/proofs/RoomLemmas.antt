-- The rooms of a session from turn to turn, and where it wants memory.
use Rattle.std.proofs.Common.{◌≡◌, ◌⊎◌, inl, inr, ℕ, ◌≤◌, true, List, Some, ap, sym, subst, ◌∙◌}
use Rattle.std.proofs.lemmas.Bool.{true≢false}
use Rattle.rip_wire.specs.declared.ending.Ending.{Ending}
use Rattle.rip_wire.specs.declared.ending.Ending.TheVariants.{Memory}
use Rattle.rip_eval_rows.specs.declared.close.Close.{Close}
use Rattle.rip_eval_rows.specs.declared.close.Close.TheVariants.{Fine, Refused, Mismatch, Stopped}
use Rattle.rip_eval_rows.specs.Evaluation.{Evaluation}
use Rattle.rip_replica.specs.declared.scheduler.runner.Rested.{Rested}
use Rattle.rip_replica.specs.declared.scheduler.runner.Rested.TheVariants.{Unplanned, Unrun}
use Rattle.rip_replica.specs.declared.scheduler.runner.Runner.{Runner}
use Rattle.rip_replica.specs.SchedulerRooms.{HasRooms}
use Rattle.rip_replica.specs.SchedulerRooms as runner
use Rattle.rip_history.specs.Parts.{Fact, serves, ends_at_mismatch, serves_call}
use Rattle.rip_history.specs.declared.sessions.Progress.{Progress}
use Rattle.rip_history.specs.declared.sessions.Progress.TheVariants.{Finished}
use Rattle.rip_replica.specs.declared.item.AtItem.{AtItem}
use Rattle.rip_replica.specs.Rooms.{HasNoLack, IfLives, IsCallAt, IsMismatch}
use Rattle.rip_replica.specs.Standing.{turn_behind}

-- behind an item that closed so
pub closed_lacks_none : (close : Close) (u : ℕ) → HasNoLack (turn_behind close u)
closed_lacks_none Fine u = tt
closed_lacks_none (Refused item kind) u = tt
closed_lacks_none (Mismatch item) u = tt
closed_lacks_none (Stopped item stop) u = tt

-- a runner that wants no memory rests in neither of these ways
pub rests_neither : (rested : Rested) → ((u : ℕ) × (rested ≡ Unplanned u)) ⊎ ((item : ℕ) × (rested ≡ Unrun item)) → runner.HasNoLack rested → ⊥
rests_neither rested (inl is) h = subst runner.HasNoLack is.1 h
rests_neither rested (inr is) h = subst runner.HasNoLack is.1 h

-- a call that is served leaves them
pub rooms_served : {M P S : Type 0} (e : Evaluation M S) (has_room : M → ℕ → Type 0) (room : P → ℕ) (need : S → ℕ) (r t : Runner M P) (s y : S)
    → t ≡ r → need y ≡ need s → HasRooms e has_room room need r s → HasRooms e has_room room need t y
rooms_served e has_room room need r t s y same kept h =
    let L : ℕ → Type 0 = λ k. k ≤ room r.planner in
    let R : Runner _ _ → Type 0 = λ x. HasRooms e has_room room need x y in
    subst R (sym same) (record { runs = h.runs; fuel = h.fuel; steps = subst L (sym kept) h.steps })

-- a mismatch is told as one
pub mismatch_told : {A S : Type 0} (ending : List A → Close → S → Ending) (all : List A) (close : Close) (s : S) → IsMismatch close
    → ((item : ℕ) → ends_at_mismatch (Some (ending all (Mismatch item) s)) ≡ true) → ends_at_mismatch (Some (ending all close s)) ≡ true
mismatch_told ending all Fine s h told = absurd h
mismatch_told ending all (Refused item kind) s h told = absurd h
mismatch_told ending all (Mismatch item) s h told = told item
mismatch_told ending all (Stopped item stop) s h told = absurd h

-- the item that reports a call, where memory is wanting at the number of the item under way
pub call_here : {M I A : Type 0} (fact : A → Fact) (r t : Runner M (AtItem I A)) (progress : Progress) (item : ℕ) → t ≡ r
    → progress ≡ Finished (Some (Memory r.planner.begun)) → progress ≡ Finished (Some (Memory item))
    → IsCallAt fact r.planner.batch.items r.planner.begun → IsCallAt fact t.planner.batch.items item
call_here fact r t progress item same here there h =
    let number : r.planner.begun ≡ item = (let e : Finished (Some (Memory r.planner.begun)) ≡ Finished (Some (Memory item)) = sym here ∙ there in cc) in
    let R : Runner _ _ → Type 0 = λ x. IsCallAt fact x.planner.batch.items item in
    let N : ℕ → Type 0 = λ n. IsCallAt fact r.planner.batch.items n in
    subst R (sym same) (subst N number h)

-- the same where an item ended the session with a mismatch, which is told as one, or memory was wanting to tell it
pub call_ended : {M I A : Type 0} (fact : A → Fact) (r t : Runner M (AtItem I A)) (progress : Progress) (how : Ending) (item : ℕ) → t ≡ r
    → (progress ≡ Finished (Some how)) ⊎ (progress ≡ Finished (Some (Memory r.planner.begun))) → progress ≡ Finished (Some (Memory item))
    → ends_at_mismatch (Some how) ≡ true → IsCallAt fact r.planner.batch.items r.planner.begun → IsCallAt fact t.planner.batch.items item
call_ended fact r t progress how item same (inl is) there told h =
    let e : how ≡ Memory item = (let f : Finished (Some how) ≡ Finished (Some (Memory item)) = sym is ∙ there in cc) in
    absurd (true≢false (sym told ∙ ap (λ x. ends_at_mismatch (Some x)) e))
call_ended fact r t progress how item same (inr is) there told h = call_here fact r t progress item same is there h

-- a session that has ended does not live
pub lacks_lives : (this : Type 0) (p : Progress) (how : Ending) → p ≡ Finished (Some how) → IfLives p this
lacks_lives this p how is = subst (λ q. IfLives q this) (sym is) tt

pub ends_lives : (this : Type 0) (p : Progress) (how then : Ending) → (p ≡ Finished (Some how)) ⊎ (p ≡ Finished (Some then)) → IfLives p this
ends_lives this p how then (inl is) = lacks_lives this p how is
ends_lives this p how then (inr is) = lacks_lives this p then is
