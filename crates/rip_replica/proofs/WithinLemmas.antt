-- The turns of a session within an item.
use Rattle.std.proofs.Common.{◌≡◌, ℕ, suc, ◌+◌, ◌-◌, ◌<◌, ◌≤◌, ◌==◌, Bool, true, false, List, [], ◌∷◌, drop, length, slice_get, Option, Some, if◌then◌else◌, refl, ap, sym, subst, ◌∙◌, arith, eq-eqb}
use Rattle.rip_heap.specs.World.{World}
use Rattle.rip_wire.specs.Batches.{Contents}
use Rattle.rip_eval_rows.specs.declared.close.Close.{Close}
use Rattle.rip_eval_rows.specs.declared.close.Close.TheVariants.{Fine, Refused, Mismatch, Stopped}
use Rattle.rip_eval_rows.specs.declared.step.Phase.TheVariants.{Asking}
use Rattle.rip_eval_rows.specs.Evaluation.{Evaluation}
use Rattle.rip_eval_rows.specs.Plan.{Plan}
use Rattle.rip_replica.specs.Going.{Going, LeadsWith, Rests, rest, rest_in}
use Rattle.rip_replica.specs.Going as runner
use Rattle.rip_replica.specs.declared.scheduler.runner.Rested.TheVariants as rested
use Rattle.rip_replica.specs.Laws.{StandsAt}
use Rattle.rip_replica.specs.Play.{Played, Closes, Holds, play}
use Rattle.rip_history.specs.Parts.{Fact, passes, serves, finishes, Part, Given, tells_call}
use Rattle.rip_replica.specs.declared.replica.Place.{Place}
use Rattle.rip_replica.specs.declared.replica.Place.TheVariants.{Between, Within, Idle}
use Rattle.rip_replica.specs.declared.replica.Turn.TheVariants.{On, Busy, Calls, Ends, Lacks}
use Rattle.rip_replica.specs.Parts.{Doing, Stand, behind_item, behind_played, first_given, given_behind, is_fine, items_parts, part_of, stand_at, whole_item}
use Rattle.rip_replica.specs.Plays.{CountsUnits, IsItemPlan, IsStill}
use Rattle.rip_replica.specs.Rooms.{HeadsCall}
use Rattle.rip_replica.specs.Standing.{Ahead, Behind, ClosedIn, CostsMore, IsCut, IsWithin, ItemsFollow, Keeps, Left, Spot, Stands, StartsItem, Turns, Waits, item_play, place_behind, plan_of, turn_behind}
use Rattle.rip_replica.proofs.PlayLemmas.{AtMost, play_at_most}
use Rattle.rip_replica.proofs.ItemLemmas.{IsWaiting, cut, ended_closes, fine_passes, finished, finished_whole, held_still, item_closes, mismatch_serves, over_still, waiting}
use Rattle.rip_replica.proofs.TurnLemmas.{after_ended, after_fine, after_starts, cut_costs, drop_more, items_cost, stands_from}

-- the same batch with another runner, place, world and page
abbrev pub moved : {M A S : Type 0} → Spot M A S → Going M S → Place → World → S → Spot M A S
moved at r place w s = record { going = r; item_plan = at.item_plan; all = at.all; begun = at.begun; place = place; world = w; page = s }

pub kept_spot : {M A S : Type 0} (T : Spot M A S → Type 0) (at : Spot M A S) (r : Going M S) (place : Place) (w : World) (s : S) (ip : A → ℕ → World → S → Plan S) (all : List A) (begun : ℕ)
    → ip ≡ at.item_plan → all ≡ at.all → begun ≡ at.begun → T (moved at r place w s)
    → T (record { going = r; item_plan = ip; all = all; begun = begun; place = place; world = w; page = s })
kept_spot T at r place w s ip all begun same-plan same-all same-begun h =
    let I : _ → Type 0 = λ i. T (record { going = r; item_plan = i; all = all; begun = begun; place = place; world = w; page = s }) in
    let L : List _ → Type 0 = λ l. T (record { going = r; item_plan = at.item_plan; all = l; begun = begun; place = place; world = w; page = s }) in
    let B : ℕ → Type 0 = λ b. T (record { going = r; item_plan = at.item_plan; all = at.all; begun = b; place = place; world = w; page = s }) in
    subst I (sym same-plan) (subst L (sym same-all) (subst B (sym same-begun) h))

keeps_moved : {M A S : Type 0} (e : Evaluation M S) (d : Doing A S) (may : S → Bool) (batch : ℕ) (at : Spot M A S) (r : Going M S) (place : Place) (w : World) (s : S)
    → runner.Keeps e at.going r → Keeps e d may batch at → Keeps e d may batch (moved at r place w s)
keeps_moved e d may batch at r place w s kept keeps = record {
  run = kept.0 ∙ keeps.run;
  full = kept.1 ∙ keeps.full;
  plan = keeps.plan;
  counts = keeps.counts;
  shapes = keeps.shapes;
  still = keeps.still;
}

-- the next item begins
pub item_begun : {M A S : Type 0} (e : Evaluation M S) (d : Doing A S) (may : S → Bool) (batch : ℕ) (next : Behind S) (at : Spot M A S) (n from base spent : ℕ) (ahead : Ahead S)
    (ip under : A → ℕ → World → S → Plan S)
    → at.place ≡ Between → at.begun < length at.all → 1 ≤ n → ip ≡ at.item_plan → under ≡ at.item_plan → Stands e d may batch next at from base spent ahead
    → Turns e d may batch next (record {
      going = record { evaluator = at.going.evaluator; plan = λ w s. plan_of under (slice_get at.all (at.begun + 1 - 1)) (at.begun + 1) w s; phase = Asking; fuel = at.going.full; full = at.going.full };
      item_plan = ip;
      all = at.all;
      begun = at.begun + 1;
      place = Within;
      world = at.world;
      page = at.page;
    }) from base spent n ahead (On (n - 1))
item_begun e d may batch next at n from base spent ahead ip under is less some same-ip same-under stands =
    let L : Place → Type 0 = λ p. Left e d batch next at p base spent ahead in
    let left : Left e d batch next at Between base spent ahead = subst L is stands.left in
    let item : (a : _) × (slice_get at.all at.begun ≡ Some a) × (drop at.begun at.all ≡ a ∷ drop (at.begun + 1) at.all) = drop_more at.all at.begun less in
    let w : World = at.world in
    let s : _ = at.page in
    let full : ℕ = at.going.full in
    let place : at.begun + 1 - 1 ≡ at.begun = omega arith in
    let at_item : slice_get at.all (at.begun + 1 - 1) ≡ Some item.0 = ap (λ k. slice_get at.all k) place ∙ item.1 in
    let plan : Plan _ = plan_of under (slice_get at.all (at.begun + 1 - 1)) (at.begun + 1) w s in
    record {
      passed = [];
      later = ahead;
      new_base = base;
      units = spent + 1;
      comes = λ bs gs. refl;
      same = λ gs k. refl;
      each = tt;
      quiet = tt;
      based = refl;
      count = omega (arith, some);
      stands = record {
        keeps = record { run = stands.keeps.run; full = stands.keeps.full; plan = same-ip ∙ stands.keeps.plan; counts = stands.keeps.counts; shapes = stands.keeps.shapes; still = stands.keeps.still };
        left = record {
          item = item.0;
          world = w;
          page = s;
          units = 0;
          is = at_item;
          one = omega arith;
          few = omega (arith, less);
          count = omega (arith, left.0);
          stands = λ gs k.
              (let none : k ≡ 0 + k = omega arith in
              ap (λ run. play run full plan gs full k) stands.keeps.run
              ∙ ap (λ f. play d.run f plan gs f k) stands.keeps.full
              ∙ ap (λ o. play d.run d.full (plan_of under o (at.begun + 1) w s) gs d.full k) at_item
              ∙ ap (λ i. play d.run d.full (i item.0 (at.begun + 1) w s) gs d.full k) (same-under ∙ stands.keeps.plan)
              ∙ ap (λ u. play d.run d.full (d.plan batch item.0 (at.begun + 1) w s) gs d.full u) none);
          parts = λ bs gs. left.3 bs gs ∙ ap (λ xs. items_parts d batch at.all (at.begun + 1) base xs gs w s (next bs)) item.2;
          began = λ gs. (let B : ℕ → Type 0 = λ k. ahead.behind gs k ≡ Some (stand_at base gs w s) in subst B (sym place) (left.4 gs));
        };
        more = stands.more;
        follows = stands.follows;
      };
    }

-- what is left of the runner's plan is what is left of the item
leads_play : {M A S : Type 0} (e : Evaluation M S) (d : Doing A S) (batch : ℕ) (item : A) (begun : ℕ) (world w x : World) (page s t : S) (q n u : ℕ) (r r' : Going M S)
    → StandsAt e (item_play d batch item begun world page) [] q r w s → LeadsWith e [] r w s n r' x t u
    → (gs : List (S → S)) (k : ℕ) → rest e r' x t gs (u + k) ≡ item_play d batch item begun world page gs (q + (n + k))
leads_play e d batch item begun world w x page s t q n u r r' stands leads gs k = leads gs k ∙ stands gs (n + k)

pub within_busy : {M A S : Type 0} (e : Evaluation M S) (d : Doing A S) (may : S → Bool) (batch : ℕ) (next : Behind S) (at : Spot M A S) (n from base spent : ℕ) (ahead : Ahead S)
    (r : Going M S) (x : World) (t : S) → at.place ≡ Within → runner.Keeps e at.going r → Rests e [] at.going at.world at.page n r x t rested.Busy
    → Stands e d may batch next at from base spent ahead → Turns e d may batch next (moved at r at.place x t) from base spent n ahead Busy
within_busy e d may batch next at n from base spent ahead r x t is kept rests stands =
    let L : Place → Type 0 = λ p. Left e d batch next at p base spent ahead in
    let left : IsWithin e d batch next at base spent ahead = subst L is stands.left in
    let to : Spot _ _ _ = moved at r at.place x t in
    let N : Place → Type 0 = λ p. Left e d batch next to p base (spent + n) ahead in
    let count : spent + n ≡ base + 1 + (left.units + n) = omega (arith, left.count) in
    let P : List _ → ℕ → Played _ = item_play d batch left.item at.begun left.world left.page in
    let U : Place → Type 0 = λ p. IsCut e d batch next to p base (spent + n) ahead in (
      record {
        keeps = keeps_moved e d may batch at r at.place x t kept stands.keeps;
        left = subst N (sym is) (record {
          item = left.item;
          world = left.world;
          page = left.page;
          units = left.units + n;
          is = left.is;
          one = left.one;
          few = left.few;
          count = count;
          stands = λ gs k.
              (let none : k ≡ 0 + k = omega arith in
              let all : left.units + (n + k) ≡ left.units + n + k = omega arith in
              ap (λ u. rest e r x t gs u) none
              ∙ leads_play e d batch left.item at.begun left.world at.world x left.page at.page t left.units n 0 at.going r left.stands rests.1 gs k
              ∙ ap (λ u. P gs u) all);
          parts = left.parts;
          began = left.began;
        });
        more = λ bs gs.
            (let C : List Part → Type 0 = λ ps. CostsMore (base + 1 + (left.units + n)) ps in
            let change : _ → _ = d.serve batch (first_given gs) in
            stands_from (base + 1 + (left.units + n)) (spent + n) (ahead.parts bs gs) count
            (subst C (sym (left.parts bs gs))
            (cut_costs d batch at.all at.begun base left.item (whole_item d batch left.item at.begun left.world left.page (first_given gs)) _ (left.units + n)
            (λ close hs fuel v y z whole.
            cut d.run d.full stands.keeps.counts (d.plan batch left.item at.begun left.world left.page) (change ∷ []) hs close fuel (left.units + n) v (runner.depth_in e r.evaluator r.phase) x y t z
            (sym (left.stands (change ∷ []) n) ∙ rests.0 (change ∷ [])) whole))));
        follows = stands.follows;
      },
      subst U (sym is) (record {
        item = left.item;
        world = left.world;
        page = left.page;
        units = left.units + n;
        is = left.is;
        one = left.one;
        count = count;
        parts = left.parts;
        began = left.began;
        held = λ gs. sym (left.stands gs n) ∙ rests.0 gs;
      }),
    )

-- where a session stands behind the item under way, if that is over and fine
behind_one : {A S : Type 0} (d : Doing A S) (batch base begun : ℕ) (all : List A) (ahead : Ahead S) (item : A) (gs rest : List Given) (world x : World) (page t : S) (hs : List (S → S)) (fuel v c : ℕ)
    → ItemsFollow d batch all ahead → slice_get all (begun - 1) ≡ Some item → 1 ≤ begun → ahead.behind gs (begun - 1) ≡ Some (stand_at base gs world page)
    → whole_item d batch item begun world page (first_given gs) ≡ Closes Fine hs fuel v x t → base + 1 + (d.full - v) ≡ c → given_behind (d.fact item) gs ≡ rest
    → ahead.behind gs begun ≡ Some (stand_at c rest x t)
behind_one d batch base begun all ahead item gs rest world x page t hs fuel v c follows is one began closes counted left =
    let up : suc (begun - 1) ≡ begun = omega (arith, one) in
    ap (λ k. ahead.behind gs k) (sym up)
    ∙ follows (begun - 1) item gs (stand_at base gs world page) is began
    ∙ ap (λ k. behind_item d batch k item (stand_at base gs world page)) up
    ∙ ap (λ p. behind_played d base item gs p) closes
    ∙ ap (λ k. Some (stand_at k (given_behind (d.fact item) gs) x t)) counted
    ∙ ap (λ r. Some (stand_at c r x t)) left

-- a call that waits
waits_by : {M A S : Type 0} (e : Evaluation M S) (d : Doing A S) (may : S → Bool) (batch : ℕ) (next : Behind S) (at : Spot M A S) (n u from base spent : ℕ) (ahead : Ahead S)
    (r : Going M S) (x : World) (t : S) (left : IsWithin e d batch next at base spent ahead) (fact : Fact)
    → runner.Keeps e at.going r → Stands e d may batch next at from base spent ahead → d.fact left.item ≡ fact
    → IsWaiting d.run d.full may fact (d.plan batch left.item at.begun left.world left.page) left.units n u x t
    → item_play d batch left.item at.begun left.world left.page [] (left.units + (n + 0)) ≡ Holds 0 x t
    → Waits e d may batch next (moved at r at.place x t) from base spent n u ahead
unfolding IsWaiting
waits_by e d may batch next at n u from base spent ahead r x t left passes kept stands fact h held = absurd h
waits_by e d may batch next at n u from base spent ahead r x t left (serves number name args) kept stands fact h held =
    let run : _ = d.run in
    let plan : Plan _ = d.plan batch left.item at.begun left.world left.page in
    let goes : (bs : List Contents) (g : Given) (gs : List Given) → ahead.parts bs (g ∷ gs) ≡ part_of batch at.begun (base + 1) (serves number name args)
    ∷ items_parts d batch at.all (at.begun + 1) (base + 1) (drop at.begun at.all) gs x (d.serve batch g t) (next bs) =
    λ bs g gs.
    (let counted : base + 1 + (d.full - d.full) ≡ base + 1 = omega arith in
    left.parts bs (g ∷ gs)
    ∙ after_fine d batch at.all at.begun base left.item (whole_item d batch left.item at.begun left.world left.page g)
    (λ c y z. items_parts d batch at.all (at.begun + 1) c (drop at.begun at.all) (given_behind (d.fact left.item) (g ∷ gs)) y z (next bs))
    [] d.full d.full (base + 1) x (d.serve batch g t) (h.3 (d.serve batch g)) counted
    ∙ ap (λ f. part_of batch at.begun (base + 1) f ∷ items_parts d batch at.all (at.begun + 1) (base + 1) (drop at.begun at.all) (given_behind f (g ∷ gs)) x (d.serve batch g t) (next bs)) fact) in
    let told : (bs : List Contents) (gs : List Given) → ahead.parts bs gs ≡ part_of batch at.begun (base + 1) (d.fact left.item)
    ∷ items_parts d batch at.all (at.begun + 1) (base + 1) (drop at.begun at.all) (given_behind (d.fact left.item) gs) x (d.serve batch (first_given gs) t) (next bs) =
    λ bs gs.
    (let counted : base + 1 + (d.full - d.full) ≡ base + 1 = omega arith in
    left.parts bs gs
    ∙ after_fine d batch at.all at.begun base left.item (whole_item d batch left.item at.begun left.world left.page (first_given gs))
    (λ c y z. items_parts d batch at.all (at.begun + 1) c (drop at.begun at.all) (given_behind (d.fact left.item) gs) y z (next bs))
    [] d.full d.full (base + 1) x (d.serve batch (first_given gs) t) (h.3 (d.serve batch (first_given gs))) counted) in
    let I : Fact → Type 0 = λ f. IsItemPlan may f plan in
    let K : Fact → Type 0 = λ f. IsStill f left.world left.page plan in
    let still : (x ≡ left.world) × (t ≡ left.page) =
    held_still run d.full may plan d.full (left.units + (n + 0)) left.world x left.page t
    (subst I fact (stands.keeps.shapes left.item at.begun left.world left.page)) (subst K fact (stands.keeps.still left.item at.begun left.world left.page)) held in
    let C : List Part → Type 0 = λ ps. CostsMore from ps in
    let above : from < base + 1 = subst C (goes [] (first_given []) []) (stands.more [] (first_given [] ∷ [])) in
    record {
      item = left.item;
      number = number;
      name = name;
      args = args;
      keeps = keeps_moved e d may batch at r at.place x t kept stands.keeps;
      is = left.is;
      one = left.one;
      few = left.few;
      fact = fact;
      may_serve = h.0;
      count = omega (arith, left.count, h.1, h.2);
      from_base = omega (arith, above);
      stays = λ gs. left.began gs ∙ ap (λ y. Some (stand_at base gs y left.page)) (sym still.0) ∙ ap (λ q. Some (stand_at base gs x q)) (sym still.1);
      goes = goes;
      behind = λ g gs.
          (let counted : base + 1 + (d.full - d.full) ≡ base + 1 = omega arith in
          behind_one d batch base at.begun at.all ahead left.item (g ∷ gs) gs left.world x left.page (d.serve batch g t) [] d.full d.full (base + 1)
          stands.follows left.is left.one (left.began (g ∷ gs)) (h.3 (d.serve batch g)) counted (ap (λ f. given_behind f (g ∷ gs)) fact));
      follows = stands.follows;
      starts = λ bs gs.
          (let T : List Part → Type 0 = λ ps. StartsItem batch at.begun base ps in
          subst T (sym (left.parts bs gs))
          (after_starts d batch at.all at.begun base left.item (whole_item d batch left.item at.begun left.world left.page (first_given gs)) _
          (item_closes d.run d.full may stands.keeps.counts (d.fact left.item) plan (d.serve batch (first_given gs)) (stands.keeps.shapes left.item at.begun left.world left.page))));
      tells = λ bs gs. subst HeadsCall (sym (told bs gs)) (ap tells_call fact);
    }
waits_by e d may batch next at n u from base spent ahead r x t left (finishes how) kept stands fact h held = absurd h

pub within_awaits : {M A S : Type 0} (e : Evaluation M S) (d : Doing A S) (may : S → Bool) (batch : ℕ) (next : Behind S) (at : Spot M A S) (n u from base spent : ℕ) (ahead : Ahead S)
    (r : Going M S) (x : World) (t : S) → at.place ≡ Within → runner.Keeps e at.going r → Rests e [] at.going at.world at.page n r x t (rested.Awaits u) → u ≤ n
    → Stands e d may batch next at from base spent ahead → Turns e d may batch next (moved at r at.place x t) from base spent n ahead (Calls u)
within_awaits e d may batch next at n u from base spent ahead r x t is kept rests within stands =
    let L : Place → Type 0 = λ p. Left e d batch next at p base spent ahead in
    let left : IsWithin e d batch next at base spent ahead = subst L is stands.left in
    let plan : Plan _ = d.plan batch left.item at.begun left.world left.page in
    let leads : (gs : List _) (k : ℕ) → rest e r x t gs (u + k) ≡ item_play d batch left.item at.begun left.world left.page gs (left.units + (n + k)) =
    leads_play e d batch left.item at.begun left.world at.world x left.page at.page t left.units n u at.going r left.stands rests.1 in
    let R : _ → Type 0 = λ run. CountsUnits run in
    let counts : CountsUnits (e.run r.evaluator) = subst R (sym (kept.0 ∙ stands.keeps.run)) stands.keeps.counts in
    let held : (k : ℕ) → item_play d batch left.item at.begun left.world left.page [] (left.units + (n + k)) ≡ Holds 0 x t =
    λ k. sym (leads [] k) ∙ ap (λ phase. rest_in e r phase x t [] (u + k)) rests.0 in
    waits_by e d may batch next at n u from base spent ahead r x t left (d.fact left.item) kept stands refl
    (waiting d.run d.full may stands.keeps.counts (d.fact left.item) plan (λ y. y) left.units n u x t (stands.keeps.shapes left.item at.begun left.world left.page) within
    held
    (λ k. (let A : Played _ → Type 0 = λ p. AtMost (u + k) p in
    subst A (leads ((λ y. y) ∷ []) k)
    (subst A (sym (ap (λ phase. rest_in e r phase x t ((λ y. y) ∷ []) (u + k)) rests.0)) (play_at_most (e.run r.evaluator) r.full counts (r.plan x t) [] r.fuel (u + k)))))) (held 0)

-- an item that is over
over_play : {M A S : Type 0} (e : Evaluation M S) (d : Doing A S) (batch : ℕ) (item : A) (begun : ℕ) (world w x : World) (page s t : S) (q n u : ℕ) (r r' : Going M S) (close : Close)
    → StandsAt e (item_play d batch item begun world page) [] q r w s → Rests e [] r w s n r' x t (rested.Finished close u)
    → (gs : List (S → S)) (k : ℕ) → item_play d batch item begun world page gs (q + (n + k)) ≡ Closes close gs r'.fuel (u + k) x t
over_play e d batch item begun world w x page s t q n u r r' close stands rests gs k =
    sym (leads_play e d batch item begun world w x page s t q n u r r' stands rests.1 gs k) ∙ ap (λ phase. rest_in e r' phase x t gs (u + k)) rests.0

pub if_same : (n : ℕ) (a b : ℕ) → (if n == n then a else b) ≡ a
if_same n a b = (let h : (n == n) ≡ true = eq-eqb n n refl in ap (λ c. if c then a else b) h)

pub within_fine : {M A S : Type 0} (e : Evaluation M S) (d : Doing A S) (may : S → Bool) (batch : ℕ) (next : Behind S) (at : Spot M A S) (n u from base spent : ℕ) (ahead : Ahead S)
    (r : Going M S) (x : World) (t : S) → at.place ≡ Within → runner.Keeps e at.going r → Rests e [] at.going at.world at.page n r x t (rested.Finished Fine u) → u ≤ n
    → Stands e d may batch next at from base spent ahead → Turns e d may batch next (moved at r Between x t) from base spent n ahead (On u)
within_fine e d may batch next at n u from base spent ahead r x t is kept rests within stands =
    let L : Place → Type 0 = λ p. Left e d batch next at p base spent ahead in
    let left : IsWithin e d batch next at base spent ahead = subst L is stands.left in
    let plan : Plan _ = d.plan batch left.item at.begun left.world left.page in
    let shape : IsItemPlan may (d.fact left.item) plan = stands.keeps.shapes left.item at.begun left.world left.page in
    let over : (gs : List _) (k : ℕ) → item_play d batch left.item at.begun left.world left.page gs (left.units + (n + k)) ≡ Closes Fine gs r.fuel (u + k) x t =
    over_play e d batch left.item at.begun left.world at.world x left.page at.page t left.units n u at.going r Fine left.stands rests in
    let passing : d.fact left.item ≡ passes = fine_passes d.run d.full may (d.fact left.item) plan d.full (left.units + (n + 0)) (u + 0) r.fuel [] x t shape (over [] 0) in
    let c : ℕ = base + 1 + (left.units + n - u) in
    let later : Ahead _ = record { parts = λ bs gs. items_parts d batch at.all (at.begun + 1) c (drop at.begun at.all) gs x t (next bs); behind = ahead.behind } in
    let wholes : (gs : List Given) → (v : ℕ) × (whole_item d batch left.item at.begun left.world left.page (first_given gs) ≡ Closes Fine (d.serve batch (first_given gs) ∷ []) r.fuel v x t) × (d.full - v ≡ left.units + n - u) = λ gs.
    (let change : _ → _ = d.serve batch (first_given gs) in
    finished d.run d.full stands.keeps.counts plan (change ∷ []) (change ∷ []) Fine r.fuel left.units n u x t
    (item_closes d.run d.full may stands.keeps.counts (d.fact left.item) plan change shape) within (over (change ∷ []) d.full)) in
    let comes : (bs : List Contents) (gs : List Given) → ahead.parts bs gs ≡ part_of batch at.begun c passes ∷ later.parts bs gs = λ bs gs.
    (let change : _ → _ = d.serve batch (first_given gs) in
    let whole : (v : ℕ) × (whole_item d batch left.item at.begun left.world left.page (first_given gs) ≡ Closes Fine (change ∷ []) r.fuel v x t) × (d.full - v ≡ left.units + n - u) = wholes gs in
    left.parts bs gs
    ∙ after_fine d batch at.all at.begun base left.item (whole_item d batch left.item at.begun left.world left.page (first_given gs))
    (λ k y z. items_parts d batch at.all (at.begun + 1) k (drop at.begun at.all) (given_behind (d.fact left.item) gs) y z (next bs))
    (change ∷ []) r.fuel whole.0 c x t whole.1 (ap (λ m. base + 1 + m) whole.2)
    ∙ ap (λ f. part_of batch at.begun c f ∷ items_parts d batch at.all (at.begun + 1) c (drop at.begun at.all) (given_behind f gs) x t (next bs)) passing) in
    let C : List Part → Type 0 = λ ps. CostsMore from ps in
    let above : from < c = subst C (comes [] []) (stands.more [] []) in
    record {
      passed = part_of batch at.begun c passes ∷ [];
      later = later;
      new_base = c;
      units = c;
      comes = comes;
      same = λ gs k. refl;
      each = (refl, omega arith, refl, above, omega arith, tt);
      quiet = (refl, tt);
      based = if_same batch c base;
      count = omega (arith, left.count, within);
      stands = record {
        keeps = keeps_moved e d may batch at r Between x t kept stands.keeps;
        left = (
          refl,
          omega arith,
          left.few,
          λ bs gs. refl,
          λ gs.
              (let whole : (v : ℕ) × (whole_item d batch left.item at.begun left.world left.page (first_given gs) ≡ Closes Fine (d.serve batch (first_given gs) ∷ []) r.fuel v x t) × (d.full - v ≡ left.units + n - u) = wholes gs in
              behind_one d batch base at.begun at.all ahead left.item gs gs left.world x left.page t (d.serve batch (first_given gs) ∷ []) r.fuel whole.0 c
              stands.follows left.is left.one (left.began gs) whole.1 (ap (λ m. base + 1 + m) whole.2) (ap (λ f. given_behind f gs) passing)),
        );
        more = λ bs gs. items_cost d batch at.all (at.begun + 1) c (drop at.begun at.all) gs x t (next bs) from above;
        follows = stands.follows;
      };
    }

-- an item of these that ends the session, told of the same items, and by another tale of where the session stands
pub closed_as : {A S : Type 0} (d : Doing A S) (batch : ℕ) (all items : List A) (number base cost : ℕ) (close : Close) (from to : List Given → ℕ → Option (Stand S)) (w : World) (s : S)
    → all ≡ items → ((gs : List Given) (k : ℕ) → to gs k ≡ from gs k) → ClosedIn d batch all number base cost close from w s → ClosedIn d batch items number base cost close to w s
closed_as d batch all items number base cost close from to w s same told h = record {
  item = h.item;
  world = h.world;
  page = h.page;
  fuel = h.fuel;
  units = h.units;
  ends = h.ends;
  is = ap (λ xs. slice_get xs (number - 1)) (sym same) ∙ h.is;
  one = h.one;
  began = λ gs. told gs (number - 1) ∙ h.began gs;
  count = h.count;
  closes = h.closes;
}

pub within_ended : {M A S : Type 0} (e : Evaluation M S) (d : Doing A S) (may : S → Bool) (batch : ℕ) (next : Behind S) (at : Spot M A S) (n u from base spent : ℕ) (ahead : Ahead S)
    (r : Going M S) (x : World) (t : S) (close : Close) (place : Place) → at.place ≡ Within → runner.Keeps e at.going r → Rests e [] at.going at.world at.page n r x t (rested.Finished close u) → u ≤ n → is_fine close ≡ false
    → Stands e d may batch next at from base spent ahead → Turns e d may batch next (moved at r place x t) from base spent n ahead (Ends close)
within_ended e d may batch next at n u from base spent ahead r x t close place is kept rests within ends stands =
    let L : Place → Type 0 = λ p. Left e d batch next at p base spent ahead in
    let left : IsWithin e d batch next at base spent ahead = subst L is stands.left in
    let plan : Plan _ = d.plan batch left.item at.begun left.world left.page in
    let shape : IsItemPlan may (d.fact left.item) plan = stands.keeps.shapes left.item at.begun left.world left.page in
    let over : (gs : List _) (k : ℕ) → item_play d batch left.item at.begun left.world left.page gs (left.units + (n + k)) ≡ Closes close gs r.fuel (u + k) x t =
    over_play e d batch left.item at.begun left.world at.world x left.page at.page t left.units n u at.going r close left.stands rests in
    let c : ℕ = base + 1 + (left.units + n - u) in
    let over_whole : (gs : List _) → (play d.run d.full plan gs d.full d.full ≡ Closes close gs r.fuel (d.full - (left.units + n - u)) x t) × (left.units + n - u ≤ d.full) = λ gs.
    finished_whole d.run d.full stands.keeps.counts plan gs gs close r.fuel left.units n u x t
    (ended_closes d.run d.full may stands.keeps.counts (d.fact left.item) plan gs [] close r.fuel (left.units + (n + 0)) (u + 0) x t shape (over [] 0)) within (over gs d.full) in
    let most : left.units + n - u ≤ d.full = (over_whole []).1 in (
      c,
      omega (arith, left.count),
      omega arith,
      λ bs gs.
          (let change : _ → _ = d.serve batch (first_given gs) in
          let whole : (v : ℕ) × (play d.run d.full plan (change ∷ []) d.full d.full ≡ Closes close (change ∷ []) r.fuel v x t) × (d.full - v ≡ left.units + n - u) =
          finished d.run d.full stands.keeps.counts plan (change ∷ []) (change ∷ []) close r.fuel left.units n u x t
          (item_closes d.run d.full may stands.keeps.counts (d.fact left.item) plan change shape) within (over (change ∷ []) d.full) in
          left.parts bs gs
          ∙ after_ended d batch at.all at.begun base left.item (whole_item d batch left.item at.begun left.world left.page (first_given gs))
          (λ k y z. items_parts d batch at.all (at.begun + 1) k (drop at.begun at.all) (given_behind (d.fact left.item) gs) y z (next bs))
          close (change ∷ []) r.fuel whole.0 c x t whole.1 ends (ap (λ m. base + 1 + m) whole.2)),
      λ mismatch. (left.one, left.item, left.is, mismatch_serves d.run d.full may (d.fact left.item) plan [] [] d.full r.fuel (left.units + (n + 0)) (u + 0) x t close shape (over [] 0) mismatch),
      record {
        item = left.item;
        world = left.world;
        page = left.page;
        fuel = r.fuel;
        units = d.full - (left.units + n - u);
        ends = ends;
        is = left.is;
        one = left.one;
        began = left.began;
        count = omega (arith, most);
        closes = λ changes. (over_whole changes).0;
      },
      λ mismatch gs.
          (let still : (x ≡ left.world) × (t ≡ left.page) =
          over_still d.run d.full may (d.fact left.item) plan [] close d.full r.fuel (left.units + (n + 0)) (u + 0) left.world x left.page t
          (mismatch_serves d.run d.full may (d.fact left.item) plan [] [] d.full r.fuel (left.units + (n + 0)) (u + 0) x t close shape (over [] 0) mismatch)
          shape (stands.keeps.still left.item at.begun left.world left.page) (over [] 0) in
          left.began gs ∙ ap (λ y. Some (stand_at base gs y left.page)) (sym still.0) ∙ ap (λ q. Some (stand_at base gs x q)) (sym still.1)),
    )

pub within_lacks : {M A S : Type 0} (e : Evaluation M S) (d : Doing A S) (may : S → Bool) (batch : ℕ) (next : Behind S) (at : Spot M A S) (n from base spent : ℕ) (ahead : Ahead S)
    (r : Going M S) (x : World) (t : S) (place : Place) → at.place ≡ Within
    → Stands e d may batch next at from base spent ahead → Turns e d may batch next (moved at r place x t) from base spent n ahead Lacks
within_lacks e d may batch next at n from base spent ahead r x t place is stands =
    let L : Place → Type 0 = λ p. Left e d batch next at p base spent ahead in
    let left : IsWithin e d batch next at base spent ahead = subst L is stands.left in
    let plan : Plan _ = d.plan batch left.item at.begun left.world left.page in (
      omega (arith, left.count),
      λ bs gs.
          (let T : List Part → Type 0 = λ ps. StartsItem batch at.begun base ps in
          subst T (sym (left.parts bs gs))
          (after_starts d batch at.all at.begun base left.item (whole_item d batch left.item at.begun left.world left.page (first_given gs)) _
          (item_closes d.run d.full may stands.keeps.counts (d.fact left.item) plan (d.serve batch (first_given gs)) (stands.keeps.shapes left.item at.begun left.world left.page)))),
    )

pub within_closed : {M A S : Type 0} (e : Evaluation M S) (d : Doing A S) (may : S → Bool) (batch : ℕ) (next : Behind S) (at : Spot M A S) (n u from base spent : ℕ) (ahead : Ahead S)
    (r : Going M S) (x : World) (t : S) (close : Close) → at.place ≡ Within → runner.Keeps e at.going r → Rests e [] at.going at.world at.page n r x t (rested.Finished close u) → u ≤ n
    → Stands e d may batch next at from base spent ahead → Turns e d may batch next (moved at r (place_behind close) x t) from base spent n ahead (turn_behind close u)
within_closed e d may batch next at n u from base spent ahead r x t Fine is kept rests within stands = within_fine e d may batch next at n u from base spent ahead r x t is kept rests within stands
within_closed e d may batch next at n u from base spent ahead r x t (Refused item kind) is kept rests within stands =
    within_ended e d may batch next at n u from base spent ahead r x t (Refused item kind) Idle is kept rests within refl stands
within_closed e d may batch next at n u from base spent ahead r x t (Mismatch item) is kept rests within stands =
    within_ended e d may batch next at n u from base spent ahead r x t (Mismatch item) Idle is kept rests within refl stands
within_closed e d may batch next at n u from base spent ahead r x t (Stopped item stop) is kept rests within stands =
    within_ended e d may batch next at n u from base spent ahead r x t (Stopped item stop) Idle is kept rests within refl stands
