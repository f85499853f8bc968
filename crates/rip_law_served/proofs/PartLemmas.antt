-- The parts of a session are in range.
use Rattle.std.proofs.Common.{◌≡◌, ℕ, suc, ◌+◌, ◌-◌, ◌≤◌, ◌^◌, true, List, [], ◌∷◌, length, map, Option, Some, refl, sym, ap, ◌∙◌, subst, arith}
use Rattle.std.specs.Prelude.{⊤, slice_get}
use Rattle.std.specs.List.{AllByRecursion}
use Rattle.std.proofs.Math.Nat.{min-le_left}
use Rattle.rip_heap.specs.World.{World}
use Rattle.rip_calls.specs.Calls.{number_at, front_text}
use Rattle.rip_eval_rows.specs.declared.close.Close.TheVariants.{Fine, Refused, Mismatch, Stopped}
use Rattle.rip_eval_rows.specs.declared.completion.Stop.TheVariants.{Fault as AtFault, Limit as AtLimit}
use Rattle.rip_eval_rows.specs.Evaluation.{Reached}
use Rattle.rip_eval_rows.specs.Started.{Started}
use Rattle.rip_replica.specs.Play.{Played, Closes, Holds}
use Rattle.rip_host.specs.declared.browser.Browser.{Browser}
use Rattle.rip_browser.specs.declared.opening.Start.{Start}
use Rattle.rip_wire.specs.Batches.{Contents, IsBatch}
use Rattle.rip_wire.specs.Calls.{IsCallText}
use Rattle.rip_wire.specs.Items.{Reported, event, call, reply, IsItem}
use Rattle.rip_log.specs.Parts.{IsNoneOrCallText}
use Rattle.rip_log.specs.Ranges.{IsShort, IsEnding}
use Rattle.rip_history.specs.Parts.{Part, Given}
use Rattle.rip_replica.specs.Parts.{Doing, first_given, given_behind, whole_item, after_item, items_parts, later_parts, session_parts}
use Rattle.rip_session.specs.Endings.{ending_of, mismatch, reported_at}
use Rattle.rip_session.specs.Plans.{work_plan}
use Rattle.rip_session.specs.Serving.{moment_of, served}
use Rattle.rip_session.specs.Tasks.{Task, opens, reports, fact_of, tasks_of}
use Rattle.rip_law_history.specs.Ranged.{IsFact, IsPart}
use Rattle.rip_session.specs.Application.{runs_of}
use Rattle.rip_session.specs.Opening.{opened_of}
use Rattle.rip_law_browser.proofs.KeepsRuns.{HasReached}
use Rattle.rip_law_served.proofs.KeepsPlans.{HasPlayed}
use Rattle.rip_law_served.specs.Meant.{ApplicationsMeanInRange}
use Rattle.rip_law_served.proofs.CloseLemmas.{is_call, IsOf, PlayedSo, works_close}
use Rattle.rip_law_served.proofs.MadeLemmas.{HasMade, front_in, runs_keep, session_begins, works_keep}

abbrev AreParts : ℕ → List Part → Type 0
AreParts most ps = AllByRecursion (IsPart most) ps

-- an item of a batch of a number, in range
abbrev IsTask : ℕ → Task → Type 0
IsTask batch (opens start) = ⊤
IsTask batch (reports r) = (1 ≤ batch) × IsItem r

tasks-are : (batch : ℕ) (rs : List Reported) → 1 ≤ batch → AllByRecursion IsItem rs → AllByRecursion (IsTask batch) (map reports rs)
tasks-are batch [] one all = tt
tasks-are batch (r ∷ rs) one all = ((one, all.0), tasks-are batch rs one all.1)

length-tasks : (rs : List Reported) → length (map reports rs) ≡ length rs
length-tasks [] = refl
length-tasks (r ∷ rs) = ap suc (length-tasks rs)

fact-in : (batch : ℕ) (a : Task) → IsTask batch a → IsFact batch (fact_of a)
fact-in batch (opens start) is = tt
fact-in batch (reports (event kind node text place)) is = tt
fact-in batch (reports (call number name args)) is = (is.0, is.1.0, is.1.1, is.1.2)
fact-in batch (reports (reply number)) is = tt

-- ---- the call that a mismatch names as reported

short-number : (number : ℕ) → IsShort number → IsShort (number_at number)
short-number number short = omega (arith, min-le_left number (2 ^ 64 - 1), short)

reported-in : (batch : ℕ) (a : Task) (item : ℕ) (made : Option (List ℕ)) → is_call a ≡ true → IsTask batch a → IsShort item → IsNoneOrCallText made
    → (let r = reported_at (Some a) in IsShort item × IsShort r.0 × IsCallText r.1 × IsNoneOrCallText made)
reported-in batch (opens start) item made calls is short named = absurd cc
reported-in batch (reports (event kind node text place)) item made calls is short named = absurd cc
reported-in batch (reports (call number name args)) item made calls is short named =
    (short, short-number number is.1.0, record { name = name; args = args; is_name = is.1.1; are_args = is.1.2; is = refl }, named)
reported-in batch (reports (reply number)) item made calls is short named = absurd cc

mismatch-in : (batch n : ℕ) (all : List Task) (a : Task) (item : ℕ) (s : Browser) → slice_get all (n - 1) ≡ Some a → item ≡ n → is_call a ≡ true → IsTask batch a → IsShort n
    → IsNoneOrCallText (front_text s.calls) → IsEnding (mismatch all item s)
mismatch-in batch n all a item s at same calls is short named =
    let P : Option Task → Type 0 = λ o. let r = reported_at o in IsShort item × IsShort r.0 × IsCallText r.1 × IsNoneOrCallText (front_text s.calls) in
    subst P (sym (ap (λ (k : ℕ). slice_get all (k - 1)) same ∙ at))
    (reported-in batch a item (front_text s.calls) calls is (subst IsShort (sym same) short) named)

from-first : (k : ℕ) → 1 - 1 + k ≡ k
from-first k = omega arith

module _ (run : Started → World → Browser → ℕ → ℕ → Reached Browser) (keeps : (start : Started) (w : World) (s : Browser) (fuel u : ℕ) → HasMade s → HasReached HasMade (run start w s fuel u))
    (full : ℕ) (world : World) (page : Browser) (start : Start) where
  abbrev d : Doing Task Browser
  d = record {
    run = run;
    full = full;
    world = world;
    page = page;
    opening = opens start;
    items = tasks_of;
    plan = work_plan;
    fact = fact_of;
    serve = served;
    ending = ending_of;
  }

  -- ---- an item

  module _ (most batch : ℕ) (all : List Task) (le : batch ≤ most) where
    item-in : (n cost : ℕ) (a : Task) (p : Played Browser) (go : ℕ → World → Browser → List Part) → IsShort n → slice_get all (n - 1) ≡ Some a → IsTask batch a
        → PlayedSo (IsOf n (is_call a)) p → HasPlayed HasMade p → ((spent : ℕ) (x : World) (r : Browser) → HasMade r → AreParts most (go spent x r))
        → AreParts most (after_item d batch all n cost a p go)
    item-in n cost a (Closes Fine gs fuel u w s) go short at is so made goes =
        (record { batch = le; item = short; fact = fact-in batch a is }, goes (cost + 1 + (full - u)) w s made)
    item-in n cost a (Closes (Refused item kind) gs fuel u w s) go short at is so made goes =
        (record { batch = le; item = short; fact = subst IsShort (sym so) short }, tt)
    item-in n cost a (Closes (Mismatch item) gs fuel u w s) go short at is so made goes =
        (record { batch = le; item = short; fact = mismatch-in batch n all a item s at so.0 so.1 is short (front_in s.calls made) }, tt)
    item-in n cost a (Closes (Stopped item (AtFault fault)) gs fuel u w s) go short at is so made goes =
        (record { batch = le; item = short; fact = subst IsShort (sym so) short }, tt)
    item-in n cost a (Closes (Stopped item (AtLimit limit)) gs fuel u w s) go short at is so made goes =
        (record { batch = le; item = short; fact = subst IsShort (sym so) short }, tt)
    item-in n cost a (Holds depth w s) go short at is so made goes = tt

    -- ---- a batch, from an item on

    items-in : (n cost : ℕ) (items : List Task) (gs : List Given) (w : World) (s : Browser) (next : List Given → World → Browser → List Part)
        → 1 ≤ n → n + length items ≤ 65 → ((k : ℕ) → slice_get all (n - 1 + k) ≡ slice_get items k) → AllByRecursion (IsTask batch) items
        → ((hs : List Given) (x : World) (r : Browser) → HasMade r → AreParts most (next hs x r)) → HasMade s → AreParts most (items_parts d batch all n cost items gs w s next)
    items-in n cost [] gs w s next one few at are goes made = (record { batch = le; item = omega (arith, few); fact = tt }, goes gs w s made)
    items-in n cost (a ∷ items) gs w s next one few at are goes made =
        let first : n - 1 ≡ n - 1 + 0 = omega arith in
        let here : slice_get all (n - 1) ≡ Some a = ap (slice_get all) first ∙ at 0 in
        let next_at : (k : ℕ) → n + 1 - 1 + k ≡ n - 1 + suc k = λ k. omega (arith, one) in
        item-in n cost a (whole_item d batch a n w s (first_given gs))
        (λ spent x r. items_parts d batch all (n + 1) spent items (given_behind (fact_of a) gs) x r next)
        (omega (arith, few)) here are.0 (works_close run full batch n a w s (served batch (first_given gs) ∷ []))
        (works_keep run keeps full batch n a (first_given gs) w s made)
        (λ spent x r h. items-in (n + 1) spent items (given_behind (fact_of a) gs) x r next (omega arith) (omega (arith, few))
        (λ k. ap (slice_get all) (next_at k) ∙ at (suc k)) are.1 goes h)

  -- ---- batches

  later-in : (most batch : ℕ) (bs : List Contents) (gs : List Given) (w : World) (s : Browser) → 1 ≤ batch → batch + length bs ≤ most + 1 → AllByRecursion IsBatch bs
      → HasMade s → AreParts most (later_parts d batch bs gs w s)
  later-in most batch [] gs w s one few are made = tt
  later-in most batch (b ∷ bs) gs w s one few are made =
      let is : IsBatch b = are.0 in
      let long : 1 + length (map reports b.items) ≤ 65 = omega (arith, length-tasks b.items, is.few) in
      items-in most batch (tasks_of b) (omega (arith, few)) 1 1 (tasks_of b) gs w s (λ hs x r. later_parts d (batch + 1) bs hs x r) (omega arith) long
      (λ k. ap (slice_get (tasks_of b)) (from-first k)) (tasks-are batch b.items one is.items)
      (λ hs x r h. later-in most (batch + 1) bs hs x r (omega arith) (omega (arith, few)) are.1 h) made

  pub session_in : (bs : List Contents) (gs : List Given) → AllByRecursion IsBatch bs → HasMade page → AreParts (length bs) (session_parts d bs gs)
  session_in bs gs are made =
      items-in (length bs) 0 (opens start ∷ []) (omega arith) 1 1 (opens start ∷ []) gs world page (λ hs x r. later_parts d 1 bs hs x r) (omega arith) (omega arith)
      (λ k. ap (slice_get (opens start ∷ [])) (from-first k)) (tt, tt) (λ hs x r h. later-in (length bs) 1 bs hs x r (omega arith) (omega arith) are h) made

pub applications_in_range : ApplicationsMeanInRange
applications_in_range app seed time batches given are =
    let o = opened_of app seed (moment_of time) in
    session_in ((runs_of app).run o.machine) (runs_keep app.program o.machine) app.manifest.limits.fuel o.heap o.browser o.start batches given are
    (session_begins app seed (moment_of time))
