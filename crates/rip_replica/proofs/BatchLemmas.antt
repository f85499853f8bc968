-- Items one after another.
use Rattle.std.proofs.Common.{◌≡◌, ℕ, suc, ◌+◌, ◌-◌, ◌<◌, List, [], ◌∷◌, drop, length, slice_get, Some, ap, sym, ◌∙◌, arith}
use Rattle.std.proofs.Math.Seq.{drop-cons}
use Rattle.std.proofs.lemmas.Option.{slice_get-get_or}
use Rattle.rip_heap.specs.World.{World}
use Rattle.rip_eval_rows.specs.declared.step.Step.{Step}
use Rattle.rip_eval_rows.specs.Plan.{Plan, Takes, ahead}
use Rattle.rip_replica.specs.declared.items.batch.Stage.{Stage}
use Rattle.rip_replica.specs.declared.items.batch.Stage.TheVariants.{Within}
use Rattle.rip_replica.specs.Batch.{GoesOnWithin, items_from, left_of_batch, within}

-- the items from a place on begin with a unit, and with the item that stands there
pub begins_next : {A S : Type 0} (item under_way : A → ℕ → World → S → Plan S) (xs : List A) (k : ℕ) (w : World) (s : S) → under_way ≡ item → k < length xs
    → items_from item (k + 1) (drop k xs) w s ≡ Takes w s (within under_way (slice_get xs (k + 1 - 1)) (k + 1) (items_from item (k + 1 + 1) (drop (k + 1) xs)) w s)
begins_next item under_way [] k w s same less = absurd (omega arith)
begins_next item under_way (x ∷ more) k w s same less =
    let place : k ≡ k + 1 - 1 = omega arith in
    let next : suc k ≡ k + 1 = omega arith in
    ap (λ ys. items_from item (k + 1) ys w s) (drop-cons (x ∷ more) k x less)
    ∙ ap (λ o. Takes w s (within item o (k + 1) (items_from item (k + 1 + 1) (drop (suc k) (x ∷ more))) w s)) (sym (slice_get-get_or (x ∷ more) k x less))
    ∙ ap (λ j. Takes w s (within item (slice_get (x ∷ more) j) (k + 1) (items_from item (k + 1 + 1) (drop (suc k) (x ∷ more))) w s)) place
    ∙ ap (λ j. Takes w s (within item (slice_get (x ∷ more) (k + 1 - 1)) (k + 1) (items_from item (k + 1 + 1) (drop j (x ∷ more))) w s)) next
    ∙ ap (λ plan. Takes w s (within plan (slice_get (x ∷ more) (k + 1 - 1)) (k + 1) (items_from item (k + 1 + 1) (drop (k + 1) (x ∷ more))) w s)) (sym same)

-- a step within an item is a step of its batch
pub step_of_batch : {A S : Type 0} (item later-item under_way later : A → ℕ → World → S → Plan S) (xs ys : List A) (n m : ℕ) (stage later-stage : Stage) (w x : World) (s r : S) (t : Step)
    → stage ≡ Within → later-item ≡ item → ys ≡ xs → m ≡ n → later-stage ≡ stage → GoesOnWithin under_way later (slice_get xs (n - 1)) n w s (Some t) x r
    → left_of_batch item under_way xs n stage w s ≡ ahead (left_of_batch later-item later ys m later-stage) t x r
step_of_batch item later-item under_way later xs ys n m stage later-stage w x s r t is same-item same-items same-number same-stage h =
    rw (same-stage, same-number, same-items, same-item, is) (h (items_from item (n + 1) (drop n xs)))
