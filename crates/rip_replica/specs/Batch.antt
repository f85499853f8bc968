-- Batches: their items one after another, each of which begins with a unit of its own.
use Rattle.std.specs.Prelude.{◌≡◌, ℕ, ◌+◌, ◌-◌, ◌*◌, ◌≤◌, List, [], ◌∷◌, drop, slice_get, Option, None, Some}
use Rattle.rip_heap.specs.World.{World}
use Rattle.rip_eval_rows.specs.declared.close.Close.TheVariants.{Fine, Refused, Mismatch, Stopped}
use Rattle.rip_eval_rows.specs.declared.step.Step.{Step}
use Rattle.rip_eval_rows.specs.declared.step.Step.TheVariants as step
use Rattle.rip_eval_rows.specs.Plan.{IsFewer, Plan, Over, Takes, ahead, and_then}
use Rattle.rip_replica.specs.declared.items.batch.Stage.{Stage}
use Rattle.rip_replica.specs.declared.items.batch.Stage.TheVariants.{First, Between, Within}

-- the items from this number on, where an item of a number does this: each takes a unit, and the first that closes otherwise
-- than fine closes all
abbrev pub items_from : {A S : Type 0} → (A → ℕ → World → S → Plan S) → ℕ → List A → World → S → Plan S
items_from item n [] w s = Over Fine w s
items_from item n (a ∷ items) w s = Takes w s (and_then (item a n w s) (items_from item (n + 1) items))

-- a batch: a unit that does nothing, and then its items, which are numbered from 1
abbrev pub batch_plan : {A S : Type 0} → (A → ℕ → World → S → Plan S) → List A → World → S → Plan S
batch_plan item items w s = Takes w s (items_from item 1 items w s)

-- what is left within an item, and then the next
abbrev pub within : {A S : Type 0} → (A → ℕ → World → S → Plan S) → Option A → ℕ → (World → S → Plan S) → World → S → Plan S
within under_way None n next w s = next w s
within under_way (Some a) n next w s = and_then (under_way a n w s) next

-- what is left of a batch of which so many items were begun, where of an item under way this is left
abbrev pub left_of_batch : {A S : Type 0} → (A → ℕ → World → S → Plan S) → (A → ℕ → World → S → Plan S) → List A → ℕ → Stage → World → S → Plan S
left_of_batch item under_way items n First w s = Takes w s (items_from item (n + 1) (drop n items) w s)
left_of_batch item under_way items n Between w s = items_from item (n + 1) (drop n items) w s
left_of_batch item under_way items n Within w s = within under_way (slice_get items (n - 1)) n (items_from item (n + 1) (drop n items)) w s

-- a step, or none where it is the end of an item that is fine
abbrev pub unless_fine : Step → Option Step
unless_fine (step.Over Fine) = None
unless_fine (step.Over (Refused item kind)) = Some (step.Over (Refused item kind))
unless_fine (step.Over (Mismatch item)) = Some (step.Over (Mismatch item))
unless_fine (step.Over (Stopped item stop)) = Some (step.Over (Stopped item stop))
unless_fine step.Take = Some step.Take
unless_fine step.Await = Some step.Await
unless_fine (step.Run item opening) = Some (step.Run item opening)

-- what is left within an item is this step, and then what is left of the item; or the item is fine, and the next follows
abbrev pub GoesOnWithin : {A S : Type 0} → (A → ℕ → World → S → Plan S) → (A → ℕ → World → S → Plan S) → Option A → ℕ → World → S → Option Step → World → S → Type 0
GoesOnWithin old new a n w s None w' s' = (next : World → _ → Plan _) → within old a n next w s ≡ next w' s'
GoesOnWithin old new a n w s (Some step) w' s' =
    (next : World → _ → Plan _) → within old a n next w s ≡ ahead (within new a n next) step w' s'

-- such a step is one of those that were left of the item
abbrev pub IsFewerWithin : Option Step → ℕ → ℕ → Type 0
IsFewerWithin None new old = new ≤ old
IsFewerWithin (Some step) new old = IsFewer step new old

-- a bound of the steps that are left, where an item has at most `most`, and so many are left of the one under way
abbrev pub steps_of_batch : ℕ → ℕ → ℕ → Stage → ℕ
steps_of_batch most steps ahead First = ahead * (most + 2) + 1
steps_of_batch most steps ahead Between = ahead * (most + 2)
steps_of_batch most steps ahead Within = ahead * (most + 2) + steps + 1
