-- No item of a session changes the limits of its page.
use Rattle.std.proofs.Common.{◌≡◌, ℕ, zero, suc, ◌+◌, Bool, true, false, List, [], ◌∷◌, length, Option, Some, None, subst, ◌∙◌}
use Rattle.std.specs.Prelude.{slice_get, if◌then◌else◌}
use Rattle.std.specs.List.{AllByRecursion}
use Rattle.rip_app.specs.App.{Loaded}
use Rattle.rip_calls.specs.Calls.{number_at}
use Rattle.rip_heap.specs.World.{World}
use Rattle.rip_wire.specs.Batches.{Contents}
use Rattle.rip_wire.specs.Calls.{call_text}
use Rattle.rip_wire.specs.Items.{call, event, reply}
use Rattle.rip_eval_rows.specs.Evaluation.{Reached}
use Rattle.rip_eval_rows.specs.Started.{Started}
use Rattle.rip_replica.specs.Play.{Played, Closes, Holds, play}
use Rattle.rip_eval_language.specs.Table.{table}
use Rattle.rip_machine.specs.Law.{Standing, loaded}
use Rattle.rip_machine.specs.Starting.{begun_by}
use Rattle.rip_history.specs.Parts.{Given}
use Rattle.rip_host.specs.Answers.{answers}
use Rattle.rip_host.specs.declared.browser.Browser.{Browser}
use Rattle.rip_replica.specs.Items.{call_plan}
use Rattle.rip_replica.specs.declared.items.page_host.Position.{Position}
use Rattle.rip_replica.specs.declared.items.page_host.Position.TheVariants as position
use Rattle.rip_browser.specs.Calls.{position_of}
use Rattle.rip_replica.specs.Parts.{Doing, Stand, behind_items, behind_next, behind_played, first_given, in_batch, in_last, is_fine, session_behind, stand_at, whole_item}
use Rattle.rip_replica.specs.Standing.{item_play}
use Rattle.rip_session.specs.Serving.{moment_of}
use Rattle.rip_session.specs.Tasks.{Task, opens, reports}
use Rattle.rip_session.specs.Application.{doing_of, runs_of}
use Rattle.rip_session.specs.Opening.{opened_of}
use Rattle.rip_session.proofs.LimitLemmas.{opened-page}
use Rattle.rip_law_browser.proofs.KeepsAnswers.{limits_stay}
use Rattle.rip_law_browser.proofs.KeepsRuns.{HasReached, begun_has}
use Rattle.rip_law_served.proofs.KeepsPlans.{HasPlan, HasPlayed, play_has}
use Rattle.rip_headline.proofs.Plans.{Bounded, event_has, opening_has, reply_has}

-- the page has the limits of the manifest
abbrev pub IsBounded : Loaded → Browser → Type 0
IsBounded app s = Bounded app.manifest.limits s

-- none of these changes of a page changes them
abbrev KeepLimits : Loaded → List (Browser → Browser) → Type 0
KeepLimits app gs = AllByRecursion (λ (g : Browser → Browser). (s : Browser) → IsBounded app s → IsBounded app (g s)) gs

-- ---- items

runs_keep : (app : Loaded) (m : Standing) (start : Started) (w : World) (s : Browser) (fuel u : ℕ) → IsBounded app s → HasReached (IsBounded app) (let e = runs_of app in e.run m start w s fuel u)
runs_keep app m start w s fuel u h =
    begun_has (IsBounded app) answers (λ t x r p. let stay = limits_stay t x r in (stay.0 ∙ p.0, stay.1 ∙ p.1, stay.2 ∙ p.2)) (table (loaded app.program m)) m.depth (begun_by (loaded app.program m) m.depth start w) w s fuel u h

call_has : (app : Loaded) (run : Started → World → Browser → ℕ → ℕ → Reached Browser) (full n : ℕ) (p : Position) (w : World) (s : Browser) (gs : List (Browser → Browser)) (fuel u : ℕ)
    → KeepLimits app gs → IsBounded app s → HasPlayed (IsBounded app) (play run full (call_plan n p w s) gs fuel u)
call_has app run full n position.NotNext w s gs fuel u keep h = h
call_has app run full n position.Other w s gs fuel u keep h = h
call_has app run full n position.TooMany w s gs fuel u keep h = h
call_has app run full n position.Served w s [] fuel u keep h = h
call_has app run full n position.Served w s (g ∷ gs) fuel u keep h = keep.0 s h

pub item_has : (app : Loaded) (seed time batch n : ℕ) (a : Task) (w : World) (s : Browser) (gs : List (Browser → Browser)) (u : ℕ) → KeepLimits app gs → IsBounded app s
    → HasPlayed (IsBounded app) (item_play (doing_of app seed time) batch a n w s gs u)
item_has app seed time batch n a w s gs u keep h = by a
  where
    d : Doing Task Browser
    d = doing_of app seed time

    m : Standing
    m = (let o = opened_of app seed (moment_of time) in o.machine)

    plain : (a : Task) → HasPlan (IsBounded app) (d.plan batch a n w s) → HasPlayed (IsBounded app) (item_play d batch a n w s gs u)
    plain a has = play_has (IsBounded app) d.run (λ start x r f v p. runs_keep app m start x r f v p) d.full (d.plan batch a n w s) gs d.full u has

    by : (a : Task) → HasPlayed (IsBounded app) (item_play d batch a n w s gs u)
    by (opens start) = plain (opens start) (opening_has app.manifest.limits start n w s h)
    by (reports (event kind node text place)) =
        plain (reports (event kind node text place)) (event_has app.manifest.limits s w (record { kind = kind; node = node; text = text; place = place }) n h)
    by (reports (call number name args)) = call_has app d.run d.full n (position_of s (number_at number) (call_text name args)) w s gs d.full u keep h
    by (reports (reply number)) = plain (reports (reply number)) (reply_has app.manifest.limits s w n batch number h)

-- ---- behind items

abbrev pub Stood : Loaded → Option (Stand Browser) → Type 0
Stood app None = Unit {0}
Stood app (Some l) = IsBounded app l.page

if_stood : (app : Loaded) (b : Bool) (l : Stand Browser) → IsBounded app l.page → Stood app (if b then Some l else None)
if_stood app true l h = h
if_stood app false l h = tt

module _ (app : Loaded) (seed time : ℕ) where
  abbrev D : Doing Task Browser
  D = doing_of app seed time

  played_stood : (cost : ℕ) (a : Task) (gs : List Given) (p : Played Browser) → HasPlayed (IsBounded app) p → Stood app (behind_played D cost a gs p)
  played_stood cost a gs (Closes close hs fuel u w s) h = if_stood app (is_fine close) _ h
  played_stood cost a gs (Holds depth w s) h = tt

  next_stood : (batch n : ℕ) (a : Option Task) (o : Option (Stand Browser)) → Stood app o → Stood app (behind_next D batch n a o)
  next_stood batch n None o h = tt
  next_stood batch n (Some a) None h = tt
  next_stood batch n (Some a) (Some l) h =
      played_stood l.cost a l.given (whole_item D batch a n l.world l.page (first_given l.given))
      (item_has app seed time batch n a l.world l.page (let d = D in d.serve batch (first_given l.given) ∷ []) (let d = D in d.full) ((λ s p. p), tt) h)

  items_stood : (batch : ℕ) (all : List Task) (gs : List Given) (w : World) (s : Browser) (k : ℕ) → IsBounded app s → Stood app (behind_items D batch all gs w s k)
  items_stood batch all gs w s zero h = h
  items_stood batch all gs w s (suc k) h = next_stood batch (suc k) (slice_get all k) (behind_items D batch all gs w s k) (items_stood batch all gs w s k h)

  batch_stood : (batch : ℕ) (all : List Task) (k : ℕ) (o : Option (Stand Browser)) → Stood app o → Stood app (in_batch D batch all k o)
  batch_stood batch all k None h = tt
  batch_stood batch all k (Some l) h = items_stood batch all l.given l.world l.page k h

  last_stood : (batch : ℕ) (all : List Task) (bs : List Contents) (k : ℕ) (o : Option (Stand Browser)) → Stood app o → Stood app (in_last D batch all bs k o)
  last_stood batch all [] k o h = batch_stood batch all k o h
  last_stood batch all (b ∷ bs) k o h = last_stood (batch + 1) (let d = D in d.items b) bs k (in_batch D batch all (length all) o) (batch_stood batch all (length all) o h)

  -- wherever a session stands behind items, its page has the limits
  pub behind_has : (batches : List Contents) (gs : List Given) (k : ℕ) (l : Stand Browser) → session_behind D batches gs k ≡ Some l → IsBounded app l.page
  behind_has batches gs k l is =
      let has = opened-page app seed (moment_of time) in
      subst (Stood app) is (last_stood 0 (let d = D in d.opening ∷ []) batches k (Some (let d = D in stand_at 1 gs d.world d.page)) (has.nodes, has.queue, has.replies))
