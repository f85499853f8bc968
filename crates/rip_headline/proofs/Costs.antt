-- What the batches of sessions cost, and that they come to their end.
use Rattle.std.proofs.Common.{◌≡◌, inl, inr, ℕ, suc, ◌+◌, ◌-◌, ◌*◌, ◌≤◌, Bool, true, false, cond, ◌&&◌, eqb, List, [], ◌∷◌, length, map, Some, None, refl, sym, ap, subst, arith, mul-le-mul_right}
use Rattle.std.specs.List.{AllByRecursion}
use Rattle.std.proofs.lemmas.Bool.{eq-eqb, or_left, or_right}
use Rattle.rip_heap.specs.World.{World}
use Rattle.rip_wire.specs.Batches.{Contents, IsBatch}
use Rattle.rip_wire.specs.Items.{Reported}
use Rattle.rip_eval_rows.specs.declared.close.Close.TheVariants.{Fine}
use Rattle.rip_eval_rows.specs.Plan.{Plan, Over, Takes, Awaits, Runs}
use Rattle.rip_replica.specs.Laws.{IsClosed}
use Rattle.rip_replica.specs.Play.{Played, Closes, Holds, play}
use Rattle.rip_history.specs.Parts.{Fact, passes, serves, finishes, Part, Given, ends_batch, ends_session, has_ended}
use Rattle.rip_history.specs.Stages.{finishes_batch}
use Rattle.rip_replica.specs.Parts.{Doing, part_of, is_fine, first_given, given_behind, whole_item, after_item, items_parts, later_parts, session_parts}
use Rattle.rip_replica.specs.Plays.{CountsUnits, IsCallPlan, IsItemPlan}
use Rattle.rip_replica.proofs.PlayLemmas.{closes}
use Rattle.rip_session.specs.Serving.{may_serve, moment_of}
use Rattle.rip_session.specs.Shapes.{shapes}
use Rattle.rip_session.specs.Tasks.{Task, reports, tasks_of}
use Rattle.rip_host.specs.Answers.{answers}
use Rattle.rip_law_browser.proofs.CountingLemmas.{counts}
use Rattle.rip_session.specs.Application.{doing_of}
use Rattle.rip_session.specs.Opening.{opened_of}
use Rattle.rip_law_server.specs.Ending.{ComesToEnd, IsPartWithin}
use Rattle.rip_headline.specs.Enough.{ApplicationsCost, batch_cost}

-- ---- an item with all its fuel is over

over_by : {S : Type 0} (run : _) (full : ℕ) (plan : Plan S) (r : S) (w : World) (u : ℕ) → plan ≡ Over Fine w r → IsClosed (play run full plan [] full u)
over_by run full plan r w u is = subst (λ p. IsClosed (play run full p [] full u)) (sym is) tt

call_closes : {S : Type 0} (run : _) (full : ℕ) (may : S → Bool) (plan : Plan S) (f : S → S) (u : ℕ) → IsCallPlan may plan → IsClosed (play run full plan (f ∷ []) full u)
call_closes run full may (Over close w s) f u shape = tt
call_closes run full may (Takes w s plan) f u shape = absurd shape
call_closes run full may (Awaits w s go) f u shape = over_by run full (go (f s)) (f s) w u (shape.1 (f s))
call_closes run full may (Runs item start w s go) f u shape = absurd shape

item_closes : {S : Type 0} (run : _) (full : ℕ) → CountsUnits run → (may : S → Bool) (fact : Fact) (plan : Plan S) (f : S → S) → IsItemPlan may fact plan
    → IsClosed (play run full plan (f ∷ []) full full)
item_closes run full counted may passes plan f shape = closes run full counted plan (f ∷ []) full full shape (omega arith)
item_closes run full counted may (serves number name args) plan f shape = call_closes run full may plan f full shape
item_closes run full counted may (finishes how) plan f shape = absurd shape

-- ---- the end of a batch

ended-behind : (last : ℕ) (p : Part) (ps : List Part) → ComesToEnd last ps → ComesToEnd last (p ∷ ps)
ended-behind last p ps (inl e) = inl (or_right (eqb p.batch last && ends_batch p.fact) (finishes_batch last ps) e)
ended-behind last p ps (inr e) = inr (or_right (ends_session p.fact) (has_ended ps) e)

module _ (A S : Type 0) (d : Doing A S) (may : S → Bool) (counted : CountsUnits d.run)
    (shaped : (batch : ℕ) (a : A) (n : ℕ) (w : World) (s : S) → IsItemPlan may (d.fact a) (d.plan batch a n w s)) where
  Within : ℕ → ℕ → List Part → Type 0
  Within last most ps = AllByRecursion (IsPartWithin last most) ps

  item_within : (last most batch n cost : ℕ) (all : List A) (a : A) (p : Played S) (go : ℕ → World → S → List Part) → batch ≤ last → cost + 1 + d.full ≤ most
      → ((c : ℕ) (x : World) (r : S) → c ≤ cost + 1 + d.full → Within last most (go c x r)) → Within last most (after_item d batch all n cost a p go)
  unfolding Within
  item_within last most batch n cost all a (Closes close gs fuel u w s) go le few rest =
      by (is_fine close) (rest (cost + 1 + (d.full - u)) w s (omega arith))
    where
      by : (b : Bool) → Within last most (go (cost + 1 + (d.full - u)) w s)
          → Within last most (cond b (part_of batch n (cost + 1 + (d.full - u)) (d.fact a) ∷ go (cost + 1 + (d.full - u)) w s)
          (part_of batch n (cost + 1 + (d.full - u)) (finishes (Some (d.ending all close s))) ∷ []))
      by true behind = (record { batch = le; cost = omega (arith, few) }, behind)
      by false behind = (record { batch = le; cost = omega (arith, few) }, tt)
  item_within last most batch n cost all a (Holds depth w s) go le few rest = tt

  items_within : (last most batch n cost : ℕ) (all items : List A) (gs : List Given) (w : World) (s : S) (next : List Given → World → S → List Part)
      → batch ≤ last → cost + length items * (1 + d.full) ≤ most → ((hs : List Given) (x : World) (r : S) → Within last most (next hs x r))
      → Within last most (items_parts d batch all n cost items gs w s next)
  unfolding Within
  items_within last most batch n cost all [] gs w s next le few rest = (record { batch = le; cost = omega (arith, few) }, rest gs w s)
  items_within last most batch n cost all (a ∷ items) gs w s next le few rest =
      let split : suc (length items) * (1 + d.full) ≡ 1 + d.full + length items * (1 + d.full) = grind arith in
      item_within last most batch n cost all a (whole_item d batch a n w s (first_given gs))
      (λ c x r. items_parts d batch all (n + 1) c items (given_behind (d.fact a) gs) x r next) le (omega (arith, few, split))
      (λ c x r more. items_within last most batch (n + 1) c all items (given_behind (d.fact a) gs) x r next le (omega (arith, few, split, more)) rest)

  later_within : (last most batch : ℕ) (bs : List Contents) (gs : List Given) (w : World) (s : S) → batch + length bs ≤ last + 1
      → AllByRecursion (λ (b : Contents). 1 + length (d.items b) * (1 + d.full) ≤ most) bs → Within last most (later_parts d batch bs gs w s)
  unfolding Within
  later_within last most batch [] gs w s le few = tt
  later_within last most batch (b ∷ bs) gs w s le few =
      items_within last most batch 1 1 (d.items b) (d.items b) gs w s (λ hs x r. later_parts d (batch + 1) bs hs x r) (omega (arith, le)) few.0
      (λ hs x r. later_within last most (batch + 1) bs hs x r (omega (arith, le)) few.1)

  session_within : (most : ℕ) (bs : List Contents) (gs : List Given) → 1 + 1 * (1 + d.full) ≤ most
      → AllByRecursion (λ (b : Contents). 1 + length (d.items b) * (1 + d.full) ≤ most) bs
      → AllByRecursion (IsPartWithin (length bs) most) (session_parts d bs gs)
  unfolding Within
  session_within most bs gs one few =
      items_within (length bs) most 0 1 1 (d.opening ∷ []) (d.opening ∷ []) gs d.world d.page (λ hs x r. later_parts d 1 bs hs x r) (omega arith) one
      (λ hs x r. later_within (length bs) most 1 bs hs x r (omega arith) few)

  item_ends : (last batch n cost : ℕ) (all : List A) (a : A) (p : Played S) (go : ℕ → World → S → List Part) → IsClosed p
      → ((c : ℕ) (x : World) (r : S) → ComesToEnd last (go c x r)) → ComesToEnd last (after_item d batch all n cost a p go)
  item_ends last batch n cost all a (Closes close gs fuel u w s) go closed rest = by (is_fine close)
    where
      by : (b : Bool) → ComesToEnd last (cond b (part_of batch n (cost + 1 + (d.full - u)) (d.fact a) ∷ go (cost + 1 + (d.full - u)) w s)
          (part_of batch n (cost + 1 + (d.full - u)) (finishes (Some (d.ending all close s))) ∷ []))
      by true = ended-behind last (part_of batch n (cost + 1 + (d.full - u)) (d.fact a)) (go (cost + 1 + (d.full - u)) w s) (rest (cost + 1 + (d.full - u)) w s)
      by false = inr refl
  item_ends last batch n cost all a (Holds depth w s) go closed rest = absurd closed

  items_end : (last batch n cost : ℕ) (all items : List A) (gs : List Given) (w : World) (s : S) (next : List Given → World → S → List Part)
      → ((k c : ℕ) (hs : List Given) (x : World) (r : S) → ComesToEnd last (part_of batch k c (finishes None) ∷ next hs x r))
      → ComesToEnd last (items_parts d batch all n cost items gs w s next)
  items_end last batch n cost all [] gs w s next rest = rest n cost gs w s
  items_end last batch n cost all (a ∷ items) gs w s next rest =
      item_ends last batch n cost all a (whole_item d batch a n w s (first_given gs))
      (λ c x r. items_parts d batch all (n + 1) c items (given_behind (d.fact a) gs) x r next)
      (item_closes d.run d.full counted may (d.fact a) (d.plan batch a n w s) (d.serve batch (first_given gs)) (shaped batch a n w s))
      (λ c x r. items_end last batch (n + 1) c all items (given_behind (d.fact a) gs) x r next rest)

  later_end : (last batch : ℕ) (bs : List Contents) → batch + length bs ≡ last → (k c : ℕ) (gs : List Given) (w : World) (s : S)
      → ComesToEnd last (part_of batch k c (finishes None) ∷ later_parts d (batch + 1) bs gs w s)
  later_end last batch [] is k c gs w s =
      let same : batch ≡ last = omega (arith, is) in
      inl (or_left (eqb batch last && true) false (ap (λ (b : Bool). b && true) (eq-eqb batch last same)))
  later_end last batch (b ∷ bs) is k c gs w s =
      ended-behind last (part_of batch k c (finishes None)) (later_parts d (batch + 1) (b ∷ bs) gs w s)
      (items_end last (batch + 1) 1 1 (d.items b) (d.items b) gs w s (λ hs x r. later_parts d (batch + 1 + 1) bs hs x r)
      (λ j e hs x r. later_end last (batch + 1) bs (omega (arith, is)) j e hs x r))

  session_ends : (bs : List Contents) (gs : List Given) → ComesToEnd (length bs) (session_parts d bs gs)
  session_ends bs gs =
      items_end (length bs) 0 1 1 (d.opening ∷ []) (d.opening ∷ []) gs d.world d.page (λ hs x r. later_parts d 1 bs hs x r)
      (λ k c hs x r. later_end (length bs) 0 bs (omega arith) k c hs x r)

-- ---- applications

length-tasks : (rs : List Reported) → length (map reports rs) ≡ length rs
length-tasks [] = refl
length-tasks (r ∷ rs) = ap suc (length-tasks rs)

few-tasks : (fuel : ℕ) (bs : List Contents) → AllByRecursion IsBatch bs → AllByRecursion (λ (b : Contents). 1 + length (tasks_of b) * (1 + fuel) ≤ batch_cost fuel) bs
few-tasks fuel [] are = tt
few-tasks fuel (b ∷ bs) are =
    let few : length (tasks_of b) ≤ 64 = (let is = are.0 in omega (arith, length-tasks b.items, is.few)) in
    let le : length (tasks_of b) * (1 + fuel) ≤ 64 * (1 + fuel) = mul-le-mul_right (1 + fuel) few in
    (omega (arith, le), few-tasks fuel bs are.1)

pub applications_cost : ApplicationsCost
applications_cost app = record {
  within = λ seed time bs gs are.
      session_within Task _ (doing_of app seed time) may_serve (counted seed time) shapes (batch_cost app.manifest.limits.fuel) bs gs (omega arith)
      (few-tasks app.manifest.limits.fuel bs are);
  ends = λ seed time bs gs are. session_ends Task _ (doing_of app seed time) may_serve (counted seed time) shapes bs gs;
}
  where
    counted : (seed time : ℕ) → CountsUnits (let d = doing_of app seed time in d.run)
    counted seed time = counts answers app.program (let o = opened_of app seed (moment_of time) in o.machine)
