-- What is left of an item and what is ahead of it, of the two kinds of items together.
use Rattle.std.proofs.Common.{◌≡◌, ℕ, ◌+◌, Result, Ok, Err, IfOk, OnErr, refl, sym, ap, subst, arith}
use Rattle.rip_heap.specs.World.{World}
use Rattle.rip_eval_rows.specs.declared.step.Step.{Step}
use Rattle.rip_eval_rows.specs.declared.step.Step.TheVariants as step
use Rattle.rip_eval_rows.specs.Plan.{IsFewer, Plan, ahead}
use Rattle.rip_replica.specs.declared.items.session.Item.{Item}
use Rattle.rip_replica.specs.Items.{item_plan, left_of_item}
use Rattle.rip_host.specs.declared.browser.Browser.{Browser}
use Rattle.rip_browser.specs.declared.opening.Start.{Start}
use Rattle.rip_browser.specs.Opening.{left_of_opening, opening_plan}
use Rattle.rip_browser.specs.Visits.{browser_rules}
use Rattle.rip_session.specs.declared.work.items.PageItems.{PageItems}
use Rattle.rip_session.specs.Plans.{left_of_work, work_plan}
use Rattle.rip_session.specs.Tasks.{IsItemOf, Task, opens, reports, item_of}

abbrev Works : Type 0
Works = Task → ℕ → World → Browser → Plan Browser

same-works : (f g : Works) → ((t : Task) (n : ℕ) (w : World) (s : Browser) → f t n w s ≡ g t n w s) → f ≡ g
same-works f g h = λ i t n w s. h t n w s i

-- what is left at the beginning of an item
pub begun-work : (p : PageItems) (batch : ℕ)
    → left_of_opening p.opening.stage p.opening.begun p.opening.flow ≡ opening_plan
    → left_of_item browser_rules p.batches.batch p.batches.flow p.batches.under_way ≡ item_plan browser_rules batch
    → left_of_work p ≡ work_plan batch
begun-work p batch first then = same-works (left_of_work p) (work_plan batch) by
  where
    by : (t : Task) (n : ℕ) (w : World) (s : Browser) → left_of_work p t n w s ≡ work_plan batch t n w s
    by (opens start) n w s = ap (λ f. f start n w s) first
    by (reports r) n w s = ap (λ f. f (item_of r) n w s) then

-- what items do, where those of batches do the same
pub same-plans : (a b : ℕ) → item_plan browser_rules a ≡ item_plan browser_rules b → work_plan a ≡ work_plan b
same-plans a b same = same-works (work_plan a) (work_plan b) by
  where
    by : (t : Task) (n : ℕ) (w : World) (s : Browser) → work_plan a t n w s ≡ work_plan b t n w s
    by (opens start) n w s = refl
    by (reports r) n w s = ap (λ f. f (item_of r) n w s) same

-- what is left, where what is left of both kinds is the same
pub same-left : (p q : PageItems)
    → left_of_opening q.opening.stage q.opening.begun q.opening.flow ≡ left_of_opening p.opening.stage p.opening.begun p.opening.flow
    → left_of_item browser_rules q.batches.batch q.batches.flow q.batches.under_way ≡ left_of_item browser_rules p.batches.batch p.batches.flow p.batches.under_way
    → left_of_work q ≡ left_of_work p
same-left p q first then = same-works (left_of_work q) (left_of_work p) by
  where
    by : (t : Task) (n : ℕ) (w : World) (s : Browser) → left_of_work q t n w s ≡ left_of_work p t n w s
    by (opens start) n w s = ap (λ f. f start n w s) first
    by (reports r) n w s = ap (λ f. f (item_of r) n w s) then

-- a step of one kind leaves fewer of both
pub fewer-first : (x : Step) (new old other : ℕ) → IsFewer x new old → IsFewer x (new + other) (old + other)
fewer-first (step.Over close) new old other h = omega arith
fewer-first step.Take new old other h = omega arith
fewer-first step.Await new old other h = omega arith
fewer-first (step.Run item opening) new old other h = omega arith

pub fewer-then : (x : Step) (new old other : ℕ) → IsFewer x new old → IsFewer x (other + new) (other + old)
fewer-then (step.Over close) new old other h = omega arith
fewer-then step.Take new old other h = omega arith
fewer-then step.Await new old other h = omega arith
fewer-then (step.Run item opening) new old other h = omega arith

-- a step of the opening is one of the item, and so is a step of an item of a batch
pub told-first : (p q : PageItems) (t : Task) (start : Start) (n : ℕ) (w x : World) (s y : Browser) (step : Step) → t ≡ opens start
    → left_of_opening p.opening.stage p.opening.begun p.opening.flow start n w s ≡ ahead (left_of_opening q.opening.stage q.opening.begun q.opening.flow start n) step x y
    → left_of_work p t n w s ≡ ahead (left_of_work q t n) step x y
told-first p q t start n w x s y step is h = subst (λ u. left_of_work p u n w s ≡ ahead (left_of_work q u n) step x y) (sym is) h

pub told-then : (p q : PageItems) (t : Task) (i : Item) (n : ℕ) (w x : World) (s y : Browser) (step : Step) → IsItemOf i t
    → left_of_item browser_rules p.batches.batch p.batches.flow p.batches.under_way i n w s ≡ ahead (left_of_item browser_rules q.batches.batch q.batches.flow q.batches.under_way i n) step x y
    → left_of_work p t n w s ≡ ahead (left_of_work q t n) step x y
told-then p q t i n w x s y step is h =
    subst (λ u. left_of_work p u n w s ≡ ahead (left_of_work q u n) step x y) (sym is.1.0)
    (subst (λ j. left_of_item browser_rules p.batches.batch p.batches.flow p.batches.under_way j n w s
    ≡ ahead (left_of_item browser_rules q.batches.batch q.batches.flow q.batches.under_way j n) step x y) is.1.1 h)

-- what holds of a value holds of it where another fact makes it so
pub on-ok : {A E : Type 0} {P Q : A → Type 0} (r : Result A E) → ((x : A) → P x → Q x) → IfOk r P → IfOk r Q
on-ok (Ok x) f h = f x h
on-ok (Err e) f h = h

pub on-err : {A E P Q : Type 0} (r : Result A E) → (P → Q) → OnErr r P → OnErr r Q
on-err (Ok x) f h = h
on-err (Err e) f h = f h
