-- Items that are played whole.
use Rattle.std.proofs.Common.{◌≡◌, ℕ, ◌+◌, ◌-◌, ◌<◌, Bool, true, List, [], ◌∷◌, ◌++◌, Option, Some, None, slice_get, Result, Ok, Err, IfOk, refl, sym, ap, subst, ◌∙◌, arith, add-zero}
use Rattle.rip_heap.specs.World.{World}
use Rattle.rip_eval_rows.specs.declared.close.Close.{Close}
use Rattle.rip_eval_rows.specs.declared.close.Close.TheVariants.{Fine, Refused, Mismatch, Stopped}
use Rattle.rip_eval_rows.specs.declared.step.Phase.TheVariants.{Asking, Awaiting, Over as IsOver}
use Rattle.rip_eval_rows.specs.Evaluation.{Evaluation, Reached}
use Rattle.rip_eval_rows.specs.Plan.{Plan, Over, Takes, Awaits, Runs, IsPlain}
use Rattle.rip_eval_rows.specs.Started.{Started}
use Rattle.rip_replica.specs.Going.{Going, LeadsWith, rest, rest_in}
use Rattle.rip_replica.specs.Play.{Played, Closes, Holds, play}
use Rattle.rip_history.specs.Parts.{Fact, passes, serves, finishes, Given}
use Rattle.rip_history.specs.Services.{Called, Service}
use Rattle.rip_replica.specs.Parts.{Doing, whole_item}
use Rattle.rip_replica.specs.Plays.{IsCallPlan, IsItemPlan}
use Rattle.rip_replica.specs.Standing.{plan_of, planned}
use Rattle.rip_replica.specs.declared.item.AtItem.{AtItem}
use Rattle.rip_client.specs.Wholes.{IsDoing, IsWhole, LeftBy, calls_behind, given_for}
use Rattle.rip_client.specs.declared.whole.play.Over.{Over as IsAtEnd}

-- ---- the plan of the item that was begun last

pub planned_is : {I A S : Type 0} (under_way : I → A → ℕ → World → S → Plan S) (p : AtItem I A) (plans : A → ℕ → World → S → Plan S) (item : A) (n : ℕ) → under_way p.items ≡ plans → slice_get p.batch.items (p.begun - 1) ≡ Some item → p.begun ≡ n → planned under_way p ≡ plans item n
planned_is under_way p plans item n means at number =
    ap (λ f. plan_of f (slice_get p.batch.items (p.begun - 1)) p.begun) means
    ∙ ap (λ found. plan_of plans found p.begun) at
    ∙ ap (λ k. plans item k) number

-- ---- what is played

-- what is left of a plan that is over
pub finished_rest : {M S : Type 0} (e : Evaluation M S) (r q : Going M S) (w x : World) (s t : S) (units left : ℕ) (close : Close)
    → q.phase ≡ IsOver close → LeadsWith e [] r w s units q x t left
    → (gs : List (S → S)) → rest e r w s gs units ≡ Closes close gs q.fuel left x t
finished_rest e r q w x s t units left close over leads gs =
    ap (λ k. rest e r w s gs k) (sym (add-zero units))
    ∙ sym (leads gs 0)
    ∙ ap (λ phase. rest_in e q phase x t gs (left + 0)) over
    ∙ ap (λ k. Closes close gs q.fuel k x t) (add-zero left)

pub left_by : {M S : Type 0} (e : Evaluation M S) (r q : Going M S) (w x : World) (s t : S) (units left full : ℕ) (close : Close)
    → q.phase ≡ IsOver close → LeadsWith e [] r w s units q x t left
    → LeftBy e r w s units full (record { close = close; fuel = full - left }) x t
left_by e r q w x s t units left full close over leads =
    record { fuel = q.fuel; left = left; is = finished_rest e r q w x s t units left close over leads; took = refl }

-- a runner at the first step of an item, with all its fuel, has all of it left
pub fresh_play : {M S : Type 0} (e : Evaluation M S) (r : Going M S) (plan : World → S → Plan S) (w : World) (s : S) (gs : List (S → S))
    → r.phase ≡ Asking → r.fuel ≡ r.full → r.plan ≡ plan
    → play (e.run r.evaluator) r.full (plan w s) gs r.full r.full ≡ rest e r w s gs r.full
fresh_play e r plan w s gs phase fuel means =
    ap (λ p. play (e.run r.evaluator) r.full (p w s) gs r.full r.full) (sym means)
    ∙ ap (λ k. play (e.run r.evaluator) r.full (r.plan w s) gs k r.full) (sym fuel)
    ∙ sym (ap (λ ph. rest_in e r ph w s gs r.full) phase)

-- an item that waits, once the page was changed
pub again : {M S : Type 0} (e : Evaluation M S) (q r : Going M S) (w : World) (s : S) (f : S → S) (left : ℕ)
    → r.evaluator ≡ q.evaluator → r.plan ≡ q.plan → r.fuel ≡ q.fuel → r.full ≡ q.full → r.phase ≡ Asking → q.phase ≡ Awaiting
    → rest e q w s (f ∷ []) left ≡ rest e r w (f s) [] left
again e q r w s f left evaluator plan fuel full asks waits =
    ap (λ ph. rest_in e q ph w s (f ∷ []) left) waits
    ∙ ap (λ m. play (e.run m) q.full (q.plan w (f s)) [] q.fuel left) (sym evaluator)
    ∙ ap (λ k. play (e.run r.evaluator) k (q.plan w (f s)) [] q.fuel left) (sym full)
    ∙ ap (λ p. play (e.run r.evaluator) r.full (p w (f s)) [] q.fuel left) (sym plan)
    ∙ ap (λ k. play (e.run r.evaluator) r.full (r.plan w (f s)) [] k left) (sym fuel)
    ∙ sym (ap (λ ph. rest_in e r ph w (f s) [] left) asks)

-- and what is left of one with nothing that changes the page
pub held : {M S : Type 0} (e : Evaluation M S) (q : Going M S) (w : World) (s : S) (left : ℕ) → q.phase ≡ Awaiting → rest e q w s [] left ≡ Holds 0 w s
held e q w s left waits = ap (λ ph. rest_in e q ph w s [] left) waits

pub leads_rest : {M S : Type 0} (e : Evaluation M S) (r q : Going M S) (w x : World) (s t : S) (units left : ℕ)
    → LeadsWith e [] r w s units q x t left → (gs : List (S → S)) → rest e r w s gs units ≡ rest e q x t gs left
leads_rest e r q w x s t units left leads gs =
    ap (λ k. rest e r w s gs k) (sym (add-zero units)) ∙ sym (leads gs 0) ∙ ap (λ k. rest e q x t gs k) (add-zero left)

-- an item of a doing that was played whole
pub whole_from : {A S : Type 0} (d : Doing A S) (run : Started → World → S → ℕ → ℕ → Reached S) (full : ℕ) (plans : ℕ → A → ℕ → World → S → Plan S) (fact : A → Fact) (serve : ℕ → Given → S → S) (batch : ℕ) (item : A) (n : ℕ) (w x : World) (s t : S) (g : Given) (close : Close) (took : ℕ) (gs : List (S → S)) (fuel left : ℕ)
    → IsDoing d run full plans fact serve → play run full (plans batch item n w s) (serve batch g ∷ []) full full ≡ Closes close gs fuel left x t → took ≡ full - left
    → IsWhole d batch item n w s g (record { close = close; fuel = took }) x t
whole_from d run full plans fact serve batch item n w x s t g close took gs fuel left doing is spent = record {
  gs = gs;
  fuel = fuel;
  left = left;
  is = ap (λ r. play r d.full (d.plan batch item n w s) (d.serve batch g ∷ []) d.full d.full) doing.runs
      ∙ ap (λ k. play run k (d.plan batch item n w s) (d.serve batch g ∷ []) k k) doing.fuel
      ∙ ap (λ p. play run full (p batch item n w s) (d.serve batch g ∷ []) full full) doing.plans_are
      ∙ ap (λ f. play run full (plans batch item n w s) (f batch g ∷ []) full full) doing.serving
      ∙ is;
  took = spent ∙ ap (λ k. k - left) (sym doing.fuel);
}

-- ---- calls

-- a call that was over at once did not come out fine
pub not_fine : {S : Type 0} (run : Started → World → S → ℕ → ℕ → Reached S) (full : ℕ) (may : S → Bool) (plan : Plan S) (close : Close) (fuel left : ℕ) (x : World) (r : S)
    → IsCallPlan may plan → ((gs : List (S → S)) → play run full plan gs full full ≡ Closes close gs fuel left x r) → close ≡ Fine → ⊥
not_fine run full may (Over c w s) close fuel left x r call is fine =
    let same : Closes c [] full full w s ≡ Closes close [] fuel left x r = is [] in
    let closes : c ≡ close = cc in
    call (closes ∙ fine)
not_fine run full may (Takes w s plan) close fuel left x r call is fine = call
not_fine run full may (Awaits w s go) close fuel left x r call is fine =
    let same : Holds 0 w s ≡ Closes close [] fuel left x r = is [] in
    cc
not_fine run full may (Runs item start w s go) close fuel left x r call is fine = call

-- one that waited did
pub fine_then : {S : Type 0} (run : Started → World → S → ℕ → ℕ → Reached S) (full : ℕ) (may : S → Bool) (plan : Plan S) (f : S → S) (close : Close) (gs : List (S → S)) (fuel left : ℕ) (x y : World) (r q : S)
    → IsCallPlan may plan → play run full plan [] full full ≡ Holds 0 x r → play run full plan (f ∷ []) full full ≡ Closes close gs fuel left y q → close ≡ Fine
fine_then run full may (Over c w s) f close gs fuel left x y r q call holds is = absurd no
  where
    no : ⊥
    no = let same : Closes c [] full full w s ≡ Holds 0 x r = holds in cc
fine_then run full may (Takes w s plan) f close gs fuel left x y r q call holds is = absurd call
fine_then run full may (Awaits w s go) f close gs fuel left x y r q call holds is =
    let over : play run full (go (f s)) [] full full ≡ Closes close gs fuel left y q = is in
    let fine : Closes Fine [] full full w (f s) ≡ Closes close gs fuel left y q = subst (λ plan. play run full plan [] full full ≡ Closes close gs fuel left y q) (call.1 (f s)) over in
    cc
fine_then run full may (Runs item start w s go) f close gs fuel left x y r q call holds is = absurd call

-- the service was called for no more, where a call was over at once
same_calls : (fact : Fact) (close : Close) (calls : List Called) → ((number : ℕ) (name : List ℕ) (args : List _) → fact ≡ serves number name args → close ≡ Fine → ⊥) → calls_behind fact close calls ≡ calls
same_calls passes close calls wrong = refl
same_calls (serves number name args) Fine calls wrong = absurd (wrong number name args refl refl)
same_calls (serves number name args) (Refused item kind) calls wrong = refl
same_calls (serves number name args) (Mismatch item) calls wrong = refl
same_calls (serves number name args) (Stopped item stop) calls wrong = refl
same_calls (finishes how) close calls wrong = refl

pub unserved_calls : {S : Type 0} (run : Started → World → S → ℕ → ℕ → Reached S) (full : ℕ) (may : S → Bool) (plan : Plan S) (fact : Fact) (close : Close) (calls : List Called) (fuel left : ℕ) (x : World) (r : S)
    → IsItemPlan may fact plan → ((gs : List (S → S)) → play run full plan gs full full ≡ Closes close gs fuel left x r) → calls_behind fact close calls ≡ calls
unserved_calls run full may plan fact close calls fuel left x r shape is =
    same_calls fact close calls (λ number name args fact_is fine. not_fine run full may plan close fuel left x r (subst (λ f. IsItemPlan may f plan) fact_is shape) is fine)

-- and for that call, where it waited
fine_calls : (fact : Fact) (close : Close) (calls : List Called) → ((number : ℕ) (name : List ℕ) (args : List _) → fact ≡ serves number name args → close ≡ Fine) → calls_behind fact Fine calls ≡ calls_behind fact close calls
fine_calls passes close calls closes = refl
fine_calls (serves number name args) close calls closes = ap (λ c. calls_behind (serves number name args) c calls) (sym (closes number name args refl))
fine_calls (finishes how) close calls closes = refl

pub served_calls : {S : Type 0} (run : Started → World → S → ℕ → ℕ → Reached S) (full : ℕ) (may : S → Bool) (plan : Plan S) (fact : Fact) (close : Close) (calls : List Called) (f : S → S) (gs : List (S → S)) (fuel left : ℕ) (x y : World) (r q : S)
    → IsItemPlan may fact plan → play run full plan [] full full ≡ Holds 0 x r → play run full plan (f ∷ []) full full ≡ Closes close gs fuel left y q → calls_behind fact Fine calls ≡ calls_behind fact close calls
served_calls run full may plan fact close calls f gs fuel left x y r q shape holds is =
    fine_calls fact close calls (λ number name args fact_is. fine_then run full may plan f close gs fuel left x y r q (subst (λ g. IsItemPlan may g plan) fact_is shape) holds is)

pub ok_onto : {V E : Type 0} (r : Result V E) (P Q : V → Type 0) → IfOk r P → ((v : V) → P v → Q v) → IfOk r Q
ok_onto (Ok v) P Q h onto = onto v h
ok_onto (Err e) P Q h onto = h

-- the same with what is equal
pub play_moved : {S : Type 0} (run ran : Started → World → S → ℕ → ℕ → Reached S) (full fuel : ℕ) (plan : World → S → Plan S) (w x : World) (s r : S) (gs : List (S → S)) (p : Played S)
    → ran ≡ run → fuel ≡ full → x ≡ w → r ≡ s → play ran fuel (plan x r) gs fuel fuel ≡ p → play run full (plan w s) gs full full ≡ p
play_moved run ran full fuel plan w x s r gs p runs fuels worlds pages is =
    ap (λ v. play v full (plan w s) gs full full) (sym runs)
    ∙ ap (λ k. play ran k (plan w s) gs k k) (sym fuels)
    ∙ ap (λ v. play ran fuel (plan v s) gs fuel fuel) (sym worlds)
    ∙ ap (λ v. play ran fuel (plan x v) gs fuel fuel) (sym pages)
    ∙ is

-- where the item that was begun last stands
pub begun_last : {X : Type 0} (items others : List X) (begun old : ℕ) (item : X) → begun ≡ old + 1 → items ≡ others → slice_get others old ≡ Some item → slice_get items (begun - 1) ≡ Some item
begun_last items others begun old item more same at =
    ap (λ k. slice_get items (k - 1)) more ∙ ap (λ xs. slice_get xs (old + 1 - 1)) same ∙ ap (λ k. slice_get others k) back ∙ at
  where
    back : old + 1 - 1 ≡ old
    back = omega arith
