-- What the sessions of an application do is done by its items.
use Rattle.std.proofs.Common.{◌≡◌, ℕ, ℤ, ◌≤◌, List, [], ◌∷◌, ◌++◌, length, None, Some, true, false, refl, sym, ap, ◌∙◌, subst, arith, true≢false}
use Rattle.std.proofs.lemmas.Bool.{or_left, or_right}
use Rattle.rip_calls.specs.Calls.{used}
use Rattle.rip_heap.specs.Growth.{Grows}
use Rattle.rip_heap.specs.World.{World}
use Rattle.rip_host.specs.Visit.{Fits}
use Rattle.rip_session.specs.Kept.{GoesWith, goes-fits}
use Rattle.rip_tree.specs.Program.{Code}
use Rattle.rip_history.specs.Parts.{Meaning, Part, ends_session, has_ended}
use Rattle.rip_history.specs.Services.{Called, Service}
use Rattle.rip_history.specs.Stages.{IsProgress, Resumed, Stage, is_done, is_ended, parts_at}
use Rattle.rip_history.specs.declared.sessions.Made.{Made}
use Rattle.rip_history.specs.declared.sessions.Progress.{Progress}
use Rattle.rip_history.specs.declared.sessions.Progress.TheVariants.{Busy, Finished}
use Rattle.rip_eval_rows.specs.Evaluation.{reached}
use Rattle.rip_eval_rows.specs.Run.{Answer, Completes, Stops, Cuts}
use Rattle.rip_history.specs.declared.sessions.Slice.{Slice}
use Rattle.rip_host.specs.declared.browser.Browser.{Browser}
use Rattle.rip_machine.specs.Law.{Standing, loaded}
use Rattle.rip_machine.specs.Run.{run_from}
use Rattle.rip_machine.specs.Plans.{HasRoom, evaluation}
use Rattle.rip_replica.specs.declared.replica.Place.TheVariants.{First}
use Rattle.rip_replica.specs.declared.replica.Replica.{Replica}
use Rattle.rip_replica.specs.Numbers.{HasNumberSo, KeepsServed, KeepsSteps, open_of}
use Rattle.rip_replica.specs.Rooms.{IfLives, IsRoomed}
use Rattle.rip_replica.specs.Standing.{spot}
use Rattle.rip_session.specs.declared.work.items.PageItems.{PageItems}
use Rattle.rip_app.specs.App.{Loaded}
use Rattle.rip_host.specs.Answers.{answers}
use Rattle.rip_law_browser.proofs.CountingLemmas.{counts}
use Rattle.rip_law_replica.specs.AtStage.{AreDoneBy, IsAtStage}
use Rattle.rip_law_replica.specs.Depth.{IsWithinSo, NestsWithin, PausesWithin}
use Rattle.rip_law_replica.proofs.Done.{busy_lives, not_done_busy}
use Rattle.rip_session.specs.Endings.{ending_of}
use Rattle.rip_session.specs.Plans.{left_of_work, room_of, work_plan}
use Rattle.rip_session.specs.Serving.{may_serve, moment_of, served}
use Rattle.rip_session.specs.Tasks.{Task, fact_of}
use Rattle.rip_session.specs.declared.opening.Opened.{Opened}
use Rattle.rip_session.specs.Application.{IsPageWithin, StandsAt, doing_of, meaning_of_app, runs_of}
use Rattle.rip_session.specs.Limits.{HasLimits, HasPageLimits, PassesNoLimit, PassesNoPageLimit}
use Rattle.rip_session.specs.Opening.{opened_of}
use Rattle.rip_session.specs.Rooms.{HasRoomsIn}
use Rattle.rip_session.proofs.LimitLemmas.{first-open, grown-limits, opened-depth, opened-limits, opened-page, opened-room, page-within, passes-none}
use Rattle.rip_session.proofs.Staying.{shown, steps_stay}

pub done_by : (app : Loaded) → AreDoneBy (doing_of app) work_plan fact_of served ending_of
done_by app = record {
  planned = λ seed time. refl;
  agrees = λ seed time. record { facts = refl; serving = refl; endings = refl };
  counts = λ seed time. counts answers app.program (opened_of app seed (moment_of time)).machine;
}

-- a session at a stage whose heap grew, and passes no limit of its own
pub stands-on : (app : Loaded) (st : Stage) (r s : Replica Standing PageItems Task Browser) → StandsAt app r st → Grows r.heap s.heap
    → s.heap.cells ≤ s.heap.limit → s.heap.pool.used ≤ s.heap.pool.limit
    → (next : Stage) → IsAtStage (runs_of app) (doing_of app) (λ (items : PageItems). work_plan items.batches.batch) left_of_work may_serve s next
    → (is_ended (meaning_of_app app) next ≡ false → IsPageWithin app.manifest.limits (runs_of app) s)
    → (is_ended (meaning_of_app app) next ≡ false → HasRoomsIn (runs_of app) s) → StandsAt app s next
stands-on app st r s at grows cells units next stage page rooms =
    let limits : HasLimits app.manifest.limits s.heap = grown-limits app.manifest.limits r.heap s.heap grows at.limits in
    record { stage = stage; limits = limits; within = passes-none app.manifest.limits s.heap limits cells units; page = page; rooms = rooms }

-- ---- the page, while its session lives

-- the session goes on or its batch is done
Lives : Progress → Type 0
Lives Busy = Unit {0}
Lives (Finished None) = Unit {0}
Lives (Finished (Some how)) = ⊥

any-last : (xs : List Part) (p : Part) → ends_session p.fact ≡ true → has_ended (xs ++ p ∷ []) ≡ true
any-last [] p h = or_left (ends_session p.fact) false h
any-last (x ∷ xs) p h = or_right (ends_session x.fact) (has_ended (xs ++ p ∷ [])) (any-last xs p h)

any-behind : (xs ys : List Part) → has_ended ys ≡ true → has_ended (xs ++ ys) ≡ true
any-behind [] ys h = h
any-behind (x ∷ xs) ys h = or_right (ends_session x.fact) (has_ended (xs ++ ys)) (any-behind xs ys h)

-- one that is not ended behind these parts
lives-by : (progress : Progress) (before parts : List Part) → IsProgress progress parts → has_ended (before ++ parts) ≡ false → Lives progress
unfolding Lives
lives-by Busy before parts how lives = tt
lives-by (Finished None) before parts how lives = tt
lives-by (Finished (Some ending)) before parts how lives =
    let last : has_ended (how.others ++ how.last ∷ []) ≡ true = any-last how.others how.last (ap ends_session how.fact) in
    let ended : has_ended (before ++ parts) ≡ true = any-behind before parts (ap has_ended how.are ∙ last) in
    true≢false (sym ended ∙ lives)

number-stays : (progress : Progress) (old new : ℕ) → Lives progress → HasNumberSo progress old new → new ≡ old
unfolding Lives
number-stays Busy old new lives h = h
number-stays (Finished None) old new lives h = h
number-stays (Finished (Some how)) old new lives h = absurd lives

depth-stays : (progress : Progress) (depth most : ℕ) → Lives progress → IsWithinSo progress depth most → depth ≤ most
unfolding Lives
depth-stays Busy depth most lives h = h
depth-stays (Finished None) depth most lives h = h
depth-stays (Finished (Some how)) depth most lives h = absurd lives

rooms-stay : (progress : Progress) (this : Type 0) → Lives progress → IfLives progress this → this
unfolding Lives
rooms-stay Busy this lives h = h
rooms-stay (Finished None) this lives h = h
rooms-stay (Finished (Some how)) this lives h = absurd lives

-- its limits, as numbers of a page
abbrev pub of_nodes : ℕ → ℕ → ℕ → ℕ
of_nodes nodes bytes replies = nodes

abbrev of_bytes : ℕ → ℕ → ℕ → ℕ
of_bytes nodes bytes replies = bytes

abbrev of_replies : ℕ → ℕ → ℕ → ℕ
of_replies nodes bytes replies = replies

-- what the page of a session does not pass by itself
pub record PassesNoneOfItsOwn (s : Browser) : Type 0 where
  pub nodes : s.dom.used ≤ s.dom.limit
  pub waiting : used s.calls ≤ s.calls.limit
  pub replies : length s.undelivered.replies ≤ s.undelivered.most

-- what is known of the page of a session after a slice
pub record KeepsPage (app : Loaded) (code : Code) (st : Stage) (progress : Progress) (r s : Replica Standing PageItems Task Browser) : Type 0 where
  pub number : (f : Browser → ℕ) → KeepsSteps (evaluation answers code) left_of_work f → KeepsServed served f → HasNumberSo progress (f r.host) (f s.host)
  pub depth : IsAtStage (evaluation answers code) (doing_of app) (λ (items : PageItems). work_plan items.batches.batch) left_of_work may_serve r st
      → is_done (meaning_of_app app) st ≡ false → NestsWithin app.manifest.limits.depth (doing_of app st.seed st.time).run
      → open_of (evaluation answers code) r ≤ app.manifest.limits.depth → IsWithinSo progress (open_of (evaluation answers code) s) app.manifest.limits.depth
  pub passes : PassesNoneOfItsOwn s.host
  pub rooms : HasRoomsIn (evaluation answers code) r → IfLives progress (HasRoomsIn (evaluation answers code) s)

within-reached : (depth : ℕ) (a : Answer Browser) → PausesWithin depth (reached depth a)
within-reached depth (Completes c u w s) = tt
within-reached depth (Stops stop room u w s) = tt
within-reached depth (Cuts room w s) = omega arith

-- runs nest no deeper than the manifest says
nests : (app : Loaded) (seed time : ℕ) → NestsWithin app.manifest.limits.depth (doing_of app seed time).run
nests app seed time start w s fuel u =
    let o : Opened = opened_of app seed (moment_of time) in
    let m : Standing = o.machine in
    let answer : Answer Browser = run_from answers (loaded app.program m) m.depth start w s fuel u in
    subst (λ (most : ℕ). PausesWithin most (reached m.depth answer)) (opened-depth app seed (moment_of time)) (within-reached m.depth answer)

pub served-stays : (f : ℕ → ℕ → ℕ → ℕ) → KeepsServed served (shown f)
served-stays f batch g s = refl

-- one whose batch is not done is not ended
pub undone-lives : (app : Loaded) (st : Stage) (r : Replica Standing PageItems Task Browser) → StandsAt app r st → is_done (meaning_of_app app) st ≡ false
    → is_ended (meaning_of_app app) st ≡ false
undone-lives app st r at undone =
    let busy = not_done_busy (runs_of app) (doing_of app) may_serve (spot (λ (items : PageItems). work_plan items.batches.batch) left_of_work r) st at.stage.stands undone in
    busy_lives (runs_of app) (doing_of app) may_serve (spot (λ (items : PageItems). work_plan items.batches.batch) left_of_work r) st busy

-- it has its rooms, over the program of the application
pub roomed_at : {May : Type 0} (app : Loaded) (code : Code) (st : Stage) (r : Replica Standing PageItems Task Browser) → code ≡ app.program → StandsAt app r st
    → is_done (meaning_of_app app) st ≡ false → (May → ⊥)
    → IsRoomed (evaluation answers code) HasRoom room_of (λ (s : Browser). s.dom.limit) left_of_work served May r.runner r.host
roomed_at app code st r e at undone never =
    let R : Code → Type 0 = λ c. HasRoomsIn (evaluation answers c) r in
    record {
      steps = steps_stay of_nodes code;
      served = served-stays of_nodes;
      never = never;
      rooms = subst R (sym e) (at.rooms (undone-lives app st r at undone));
    }

-- the page of one that goes on
page-on : (app : Loaded) (code : Code) (st : Stage) (progress : Progress) (r s : Replica Standing PageItems Task Browser) → code ≡ app.program → StandsAt app r st → is_done (meaning_of_app app) st ≡ false
    → KeepsPage app code st progress r s → Lives progress → IsPageWithin app.manifest.limits (runs_of app) s
page-on app code st progress r s e at undone keeps lives =
    let old : IsPageWithin app.manifest.limits (runs_of app) r = at.page (undone-lives app st r at undone) in
    let A : Code → Type 0 = λ c. IsAtStage (evaluation answers c) (doing_of app) (λ (items : PageItems). work_plan items.batches.batch) left_of_work may_serve r st in
    let stage : A code = subst A (sym e) at.stage in
    let same-nodes : shown of_nodes s.host ≡ shown of_nodes r.host =
    number-stays progress (shown of_nodes r.host) (shown of_nodes s.host) lives (keeps.number (shown of_nodes) (steps_stay of_nodes code) (served-stays of_nodes)) in
    let same-queue : shown of_bytes s.host ≡ shown of_bytes r.host =
    number-stays progress (shown of_bytes r.host) (shown of_bytes s.host) lives (keeps.number (shown of_bytes) (steps_stay of_bytes code) (served-stays of_bytes)) in
    let same-replies : shown of_replies s.host ≡ shown of_replies r.host =
    number-stays progress (shown of_replies r.host) (shown of_replies s.host) lives (keeps.number (shown of_replies) (steps_stay of_replies code) (served-stays of_replies)) in
    let depth : open_of (runs_of app) s ≤ app.manifest.limits.depth =
    depth-stays progress (open_of (runs_of app) s) app.manifest.limits.depth lives (keeps.depth stage undone (nests app st.seed st.time) old.within.depth) in
    page-within app.manifest.limits (runs_of app) s (record { nodes = same-nodes ∙ old.has.nodes; queue = same-queue ∙ old.has.queue; replies = same-replies ∙ old.has.replies })
    keeps.passes.nodes keeps.passes.waiting keeps.passes.replies depth

-- the rooms of one that goes on
rooms-on : (app : Loaded) (code : Code) (st : Stage) (progress : Progress) (r s : Replica Standing PageItems Task Browser) → code ≡ app.program → StandsAt app r st → is_done (meaning_of_app app) st ≡ false
    → KeepsPage app code st progress r s → Lives progress → HasRoomsIn (runs_of app) s
rooms-on app code st progress r s e at undone keeps lives =
    let R : Code → Type 0 = λ c. HasRoomsIn (evaluation answers c) r in
    let S : Code → Type 0 = λ c. HasRoomsIn (evaluation answers c) s in
    let old : HasRoomsIn (runs_of app) r = at.rooms (undone-lives app st r at undone) in
    subst S e (rooms-stay progress (S code) lives (keeps.rooms (subst R (sym e) old)))

-- what comes of a slice where more is known of how the session stands
resumed-with : (m : Meaning) (st : Stage) (meant : Service) (calls : List Called) (slice : Slice) (old new : Made) (progress : Progress)
    (P Q : Stage → Type 0) (Replies : List Called → Type 0) (r : Resumed m st meant calls slice old new progress P Replies) → Q r.next
    → Resumed m st meant calls slice old new progress Q Replies
resumed-with m st meant calls slice old new progress P Q Replies r stands = record {
  parts = r.parts;
  given = r.given;
  next = r.next;
  goes_on = r.goes_on;
  stands = stands;
  replied = r.replied;
  replies = r.replies;
  entries = r.entries;
  served = r.served;
  how_far = r.how_far;
}

-- a session that is gone on with by the program of the application
pub resume_stands : (app : Loaded) (code : Code) (st : Stage) (meant : Service) (calls : List Called) (slice : Slice) (old new : Made) (progress : Progress)
    (r s : Replica Standing PageItems Task Browser) (Replies : List Called → Type 0) → code ≡ app.program
    → (IsAtStage (evaluation answers code) (doing_of app) (λ (items : PageItems). work_plan items.batches.batch) left_of_work may_serve r st
    → is_done (meaning_of_app app) st ≡ false
    → Resumed (meaning_of_app app) st meant calls slice old new progress
    (IsAtStage (evaluation answers code) (doing_of app) (λ (items : PageItems). work_plan items.batches.batch) left_of_work may_serve s) Replies)
    → KeepsPage app code st progress r s
    → Grows r.heap s.heap → s.heap.cells ≤ s.heap.limit → s.heap.pool.used ≤ s.heap.pool.limit
    → StandsAt app r st → is_done (meaning_of_app app) st ≡ false
    → Resumed (meaning_of_app app) st meant calls slice old new progress (StandsAt app s) Replies
resume_stands app code st meant calls slice old new progress r s Replies e f keeps grows cells units at undone =
    let m : Meaning = meaning_of_app app in
    let resumed : Resumed m st meant calls slice old new progress (IsAtStage (runs_of app) (doing_of app) (λ (items : PageItems). work_plan items.batches.batch) left_of_work may_serve s) Replies =
    subst (λ (c : Code). IsAtStage (evaluation answers c) (doing_of app) (λ (items : PageItems). work_plan items.batches.batch) left_of_work may_serve r st
    → is_done m st ≡ false
    → Resumed m st meant calls slice old new progress
    (IsAtStage (evaluation answers c) (doing_of app) (λ (items : PageItems). work_plan items.batches.batch) left_of_work may_serve s) Replies) e f at.stage undone in
    let lives : is_ended m resumed.next ≡ false → Lives progress = λ alive.
    lives-by progress (parts_at m st) resumed.parts resumed.how_far (ap has_ended (sym resumed.goes_on.come) ∙ alive) in
    let page : is_ended m resumed.next ≡ false → IsPageWithin app.manifest.limits (runs_of app) s = λ alive. page-on app code st progress r s e at undone keeps (lives alive) in
    let rooms : is_ended m resumed.next ≡ false → HasRoomsIn (runs_of app) s = λ alive. rooms-on app code st progress r s e at undone keeps (lives alive) in
    resumed-with m st meant calls slice old new progress
    (IsAtStage (runs_of app) (doing_of app) (λ (items : PageItems). work_plan items.batches.batch) left_of_work may_serve s) (StandsAt app s) Replies resumed
    (stands-on app st r s at grows cells units resumed.next resumed.stands page rooms)

-- one that is admitted a batch, with its heap as it was
pub admit_stands : (app : Loaded) (st next : Stage) (r s : Replica Standing PageItems Task Browser) → StandsAt app r st → s.heap ≡ r.heap
    → s.host ≡ r.host → s.place ≡ First → is_ended (meaning_of_app app) st ≡ false
    → IsAtStage (runs_of app) (doing_of app) (λ (items : PageItems). work_plan items.batches.batch) left_of_work may_serve s next
    → (HasRoomsIn (runs_of app) r → HasRoomsIn (runs_of app) s) → StandsAt app s next
admit_stands app st next r s at same page first lives stage rooms =
    let old : IsPageWithin app.manifest.limits (runs_of app) r = at.page lives in
    let depth : open_of (runs_of app) s ≤ app.manifest.limits.depth = first-open (runs_of app) s app.manifest.limits.depth first in
    record {
      stage = stage;
      limits = subst (λ w. HasLimits app.manifest.limits w) (sym same) at.limits;
      within = subst (λ w. PassesNoLimit app.manifest.limits w) (sym same) at.within;
      page = λ alive. record {
        has = subst (λ b. HasPageLimits app.manifest.limits b) (sym page) old.has;
        within = subst (λ b. PassesNoPageLimit app.manifest.limits (open_of (runs_of app) s) b) (sym page)
            (record { nodes = old.within.nodes; waiting = old.within.waiting; replies = old.within.replies; depth = depth });
      };
      rooms = λ alive. rooms (at.rooms lives);
    }

-- one that is opened, in this heap, which passes no limit of its own
pub begin_stands : (app : Loaded) (seed : ℕ) (time : ℤ) (opened : Opened) (st : Stage) (r : Replica Standing PageItems Task Browser)
    → opened ≡ opened_of app seed time → r.heap ≡ opened.heap → r.host ≡ opened.browser → r.place ≡ First → PassesNoneOfItsOwn opened.browser → opened.heap.cells ≤ opened.heap.limit → opened.heap.pool.used ≤ opened.heap.pool.limit
    → IsAtStage (runs_of app) (doing_of app) (λ (items : PageItems). work_plan items.batches.batch) left_of_work may_serve r st
    → HasRoomsIn (runs_of app) r → StandsAt app r st
begin_stands app seed time opened st r is same page first passes cells units stage rooms =
    let limits : HasLimits app.manifest.limits opened.heap = subst (λ (o : Opened). HasLimits app.manifest.limits o.heap) (sym is) (opened-limits app seed time) in
    record {
      stage = stage;
      limits = subst (λ w. HasLimits app.manifest.limits w) (sym same) limits;
      within = subst (λ w. PassesNoLimit app.manifest.limits w) (sym same) (passes-none app.manifest.limits opened.heap limits cells units);
      page = λ lives.
          (let own : PassesNoneOfItsOwn r.host = subst (λ (b : Browser). PassesNoneOfItsOwn b) (sym page) passes in
          page-within app.manifest.limits (runs_of app) r
          (subst (λ (b : Browser). HasPageLimits app.manifest.limits b) (sym (page ∙ ap (λ (o : Opened). o.browser) is)) (opened-page app seed time))
          own.nodes own.waiting own.replies (first-open (runs_of app) r app.manifest.limits.depth first));
      rooms = λ lives. rooms;
    }

-- the browser of a session as it is opened goes with its heap
pub opened_goes : (s t : Browser) (w x : World) → Fits s w → t ≡ s → x ≡ w → GoesWith t x
opened_goes s t w x f e g = goes-fits t x (subst (λ b. Fits b x) (sym e) (subst (λ h. Fits s h) (sym g) f))

-- its machine, its items for so many nodes, and its browser, as it is opened: what its rooms rest on
pub opened_room : (app : Loaded) (seed : ℕ) (time : ℤ) (opened : Opened) (fuel : ℕ) → opened ≡ opened_of app seed time → fuel ≡ app.manifest.limits.fuel → HasRoom opened.machine fuel
opened_room app seed time opened fuel is same =
    subst (λ (k : ℕ). HasRoom opened.machine k) (sym same) (subst (λ (o : Opened). HasRoom o.machine app.manifest.limits.fuel) (sym is) (opened-room app seed time))

pub opened_nodes : (app : Loaded) (seed : ℕ) (time : ℤ) (opened : Opened) (items : PageItems) (nodes : ℕ) → opened ≡ opened_of app seed time → nodes ≡ app.manifest.limits.nodes
    → room_of items ≡ nodes → (let s = opened.browser in let t = s.dom in t.limit) ≤ room_of items
opened_nodes app seed time opened items nodes is same room =
    let has : HasPageLimits app.manifest.limits opened.browser = subst (λ (o : Opened). HasPageLimits app.manifest.limits o.browser) (sym is) (opened-page app seed time) in
    omega (arith, has.nodes, same, room)
