-- The served calls of each session of a legal course.
use Rattle.std.proofs.Common.{◌≡◌, ℕ, zero, suc, ◌+◌, ◌-◌, ◌<◌, ◌≤◌, Bool, true, false, cond, eqb, List, [], ◌∷◌, length, slice_get, Option, None, Some, refl, sym, ap, subst, ◌∙◌, arith}
use Rattle.std.specs.Prelude.{is_some}
use Rattle.std.specs.List.{list_any}
use Rattle.std.proofs.lemmas.Bool.{leb-false, lt-leb}
use Rattle.rip_app.specs.App.{Loaded}
use Rattle.rip_heap.specs.World.{World}
use Rattle.rip_wire.specs.Batches.{Contents}
use Rattle.rip_wire.specs.Items.{event, call, reply}
use Rattle.rip_log.specs.Entries.{Recorded, opened, admitted, served, done, closed, ended}
use Rattle.rip_host.specs.declared.browser.Browser.{Browser}
use Rattle.rip_eval_rows.specs.declared.close.Close.{Close}
use Rattle.rip_eval_rows.specs.declared.close.Close.TheVariants.{Fine, Refused, Mismatch, Stopped}
use Rattle.rip_eval_rows.specs.declared.completion.Stop.TheVariants.{Fault as AtFault, Limit as AtLimit}
use Rattle.rip_replica.specs.Play.{Closes, Holds, Played}
use Rattle.rip_history.specs.Course.{AreWithin}
use Rattle.rip_history.specs.Parts.{finishes, Given, Part, serves_call, tells_call}
use Rattle.rip_history.specs.Sessions.{IsSessionOf, batches_in, comes_by, deeds_in, given_in, is_want, opening_in, turns_in}
use Rattle.rip_history.specs.Turns.{turn_at}
use Rattle.rip_history.proofs.CourseLemmas.{courses_are_in_order}
use Rattle.rip_replica.specs.Parts.{Doing, after_item, first_given, given_behind, is_fine, items_parts, later_parts, part_of, session_parts, whole_item}
use Rattle.rip_law_replica.specs.Prefix.{ServesPrefix}
use Rattle.rip_session.specs.Endings.{ending_of}
use Rattle.rip_session.specs.Tasks.{Task, fact_of, opens, reports}
use Rattle.rip_law_served.specs.Served.{call_of}
use Rattle.rip_session.specs.Application.{doing_of, meaning_of_app}
use Rattle.rip_headline.specs.PrefixHistories.{HistoriesServePrefixes, Serves, ServesIn, calls_among, calls_in, wants_at}
use Rattle.rip_headline.proofs.CallLemmas.{AreCalm, clear_before, lack_serves_none, lacks_first, served_by}
use Rattle.rip_headline.proofs.HistoryLemmas.{session_goes}
use Rattle.rip_headline.proofs.MatchedLemmas.{applications_count, applications_serve}

-- ---- the items of an application

item_tells : (a : Task) → serves_call (fact_of a) ≡ is_some (call_of a)
item_tells (opens start) = refl
item_tells (reports (event kind node text place)) = refl
item_tells (reports (call number name args)) = refl
item_tells (reports (reply number)) = refl

item_plain : (a : Task) → tells_call (fact_of a) ≡ serves_call (fact_of a)
item_plain (opens start) = refl
item_plain (reports (event kind node text place)) = refl
item_plain (reports (call number name args)) = refl
item_plain (reports (reply number)) = refl

item_calm : (a : Task) → is_want (fact_of a) ≡ false
item_calm (opens start) = refl
item_calm (reports (event kind node text place)) = refl
item_calm (reports (call number name args)) = refl
item_calm (reports (reply number)) = refl

ending_calm : (all : List Task) (close : Close) (s : Browser) → is_want (finishes (Some (ending_of all close s))) ≡ false
ending_calm all Fine s = refl
ending_calm all (Refused item kind) s = refl
ending_calm all (Mismatch item) s = refl
ending_calm all (Stopped item (AtFault fault)) s = refl
ending_calm all (Stopped item (AtLimit limit)) s = refl

-- ---- none of them ends for want of memory

after_calm : (app : Loaded) (seed time batch : ℕ) (all : List Task) (n cost : ℕ) (a : Task) (q : Played Browser) (go : ℕ → World → Browser → List Part)
    → ((c : ℕ) (w : World) (s : Browser) → AreCalm (go c w s)) → AreCalm (after_item (doing_of app seed time) batch all n cost a q go)
after_calm app seed time batch all n cost a (Holds depth w s) go rest = tt
after_calm app seed time batch all n cost a (Closes close hs fuel u w s) go rest = by (is_fine close)
  where
    d : Doing Task Browser
    d = doing_of app seed time

    c : ℕ
    c = cost + 1 + (d.full - u)

    by : (b : Bool) → AreCalm (cond b (part_of batch n c (d.fact a) ∷ go c w s) (part_of batch n c (finishes (Some (d.ending all close s))) ∷ []))
    by true = (item_calm a, rest c w s)
    by false = (ending_calm all close s, tt)

items_calm : (app : Loaded) (seed time batch : ℕ) (all : List Task) (n cost : ℕ) (items : List Task) (gs : List Given) (w : World) (s : Browser) (next : List Given → World → Browser → List Part)
    → ((hs : List Given) (x : World) (r : Browser) → AreCalm (next hs x r)) → AreCalm (items_parts (doing_of app seed time) batch all n cost items gs w s next)
items_calm app seed time batch all n cost [] gs w s next rest = (refl, rest gs w s)
items_calm app seed time batch all n cost (a ∷ items) gs w s next rest =
    let d : Doing Task Browser = doing_of app seed time in
    after_calm app seed time batch all n cost a (whole_item d batch a n w s (first_given gs)) (λ u x r. items_parts d batch all (n + 1) u items (given_behind (d.fact a) gs) x r next)
    (λ u x r. items_calm app seed time batch all (n + 1) u items (given_behind (d.fact a) gs) x r next rest)

later_calm : (app : Loaded) (seed time batch : ℕ) (bs : List Contents) (gs : List Given) (w : World) (s : Browser) → AreCalm (later_parts (doing_of app seed time) batch bs gs w s)
later_calm app seed time batch [] gs w s = tt
later_calm app seed time batch (b ∷ bs) gs w s =
    let d : Doing Task Browser = doing_of app seed time in
    items_calm app seed time batch (d.items b) 1 1 (d.items b) gs w s (λ hs x r. later_parts d (batch + 1) bs hs x r) (λ hs x r. later_calm app seed time (batch + 1) bs hs x r)

session_calm : (app : Loaded) (seed time : ℕ) (bs : List Contents) (gs : List Given) → AreCalm (session_parts (doing_of app seed time) bs gs)
session_calm app seed time bs gs =
    let d : Doing Task Browser = doing_of app seed time in
    items_calm app seed time 0 (d.opening ∷ []) 1 1 (d.opening ∷ []) gs d.world d.page (λ hs x r. later_parts d 1 bs hs x r) (λ hs x r. later_calm app seed time 1 bs hs x r)

-- ---- the batches of a history are admitted one after another

-- these turns never fall, and none is below this
abbrev pub Rises : ℕ → List ℕ → Type 0
Rises low [] = Unit {0}
Rises low (t ∷ ts) = (low ≤ t) × Rises t ts

rises_below : (low high : ℕ) (ts : List ℕ) → low ≤ high → Rises high ts → Rises low ts
rises_below low high [] le r = tt
rises_below low high (t ∷ ts) le r = (omega (arith, le, r.0), r.1)

rises_by : (b : Bool) (low t : ℕ) (ts : List ℕ) → low ≤ t → Rises t ts → Rises low (cond b (t ∷ ts) ts)
rises_by true low t ts le r = (le, r)
rises_by false low t ts le r = rises_below low t ts le r

turns_rise : (n low high : ℕ) (h : List Recorded) → AreWithin low high h → Rises low (turns_in n h)
turns_rise n low high [] w = tt
turns_rise n low high (opened turn session id seed time ∷ h) w = rises_by (eqb session n) low turn (turns_in n h) w.0 (turns_rise n turn high h w.2)
turns_rise n low high (admitted turn session b ∷ h) w = rises_by (eqb session n) low turn (turns_in n h) w.0 (turns_rise n turn high h w.2)
turns_rise n low high (served turn session number k name args time answer ∷ h) w = rises_below low turn (turns_in n h) w.0 (turns_rise n turn high h w.2)
turns_rise n low high (done turn session number how ∷ h) w = rises_below low turn (turns_in n h) w.0 (turns_rise n turn high h w.2)
turns_rise n low high (closed turn session ∷ h) w = rises_below low turn (turns_in n h) w.0 (turns_rise n turn high h w.2)
turns_rise n low high (ended turn status ∷ h) w = rises_below low turn (turns_in n h) w.0 (turns_rise n turn high h w.2)

-- so nothing comes of those behind one of which nothing does
all_late : (last low : ℕ) (ts : List ℕ) (batch cost : ℕ) → Rises low ts → last < low → comes_by last cost (slice_get ts batch) ≡ false
all_late last low [] batch cost r lt = refl
all_late last low (t ∷ ts) zero cost r lt = lt-leb (turn_at t cost) last (let le = r.0 in omega (arith, le, lt))
all_late last low (t ∷ ts) (suc batch) cost r lt = all_late last t ts batch cost r.1 (let le = r.0 in omega (arith, le, lt))

late_behind : (last low : ℕ) (ts : List ℕ) (batch other cost : ℕ) → Rises low ts → comes_by last 1 (slice_get ts batch) ≡ false → batch ≤ other
    → comes_by last cost (slice_get ts other) ≡ false
late_behind last low [] batch other cost r late le = refl
late_behind last low (t ∷ ts) zero other cost r late le =
    let lt = leb-false (turn_at t 1) last late in
    all_late last t (t ∷ ts) other cost (omega arith, r.1) (omega (arith, lt))
late_behind last low (t ∷ ts) (suc batch) zero cost r late le = absurd (omega (arith, le))
late_behind last low (t ∷ ts) (suc batch) (suc other) cost r late le = late_behind last t ts batch other cost r.1 late (omega (arith, le))

-- ---- the law

-- of a session of any history, up to any turn by which it did what the meaning says
serves_by : (app : Loaded) (last high : ℕ) (h : List Recorded) (n : ℕ) → AreWithin 1 high h → (s : IsSessionOf (meaning_of_app app) last h n) → ServesIn app last h n (Some (s.seed, s.time))
serves_by app last high h n within s =
    let d : Doing Task Browser = doing_of app s.seed s.time in
    let bs : List Contents = batches_in n h in
    let gs : List Given = given_in n h in
    let turns : List ℕ = turns_in n h in
    let parts : List Part = session_parts d bs gs in
    let first : ServesPrefix _ d call_of bs gs = (applications_serve app s.seed s.time bs gs).0 in
    let calls : calls_in n h ≡ served_by last turns s.lacking parts = ap calls_among s.deeds ∙ lack_serves_none last turns s.lacking parts in
    subst (Serves d last turns (deeds_in n h) _ 1 1 _) (sym calls)
    (session_goes d last turns (deeds_in n h) s.lacking bs gs item_tells item_plain
    (λ q e. ap (wants_at q.batch q.item) s.deeds ∙ clear_before last turns s.lacking parts q (session_calm app s.seed s.time bs gs) e)
    (λ batch other late le cost. late_behind last 1 turns batch other cost (turns_rise n 1 high h within) late le)
    first.made first.longest (applications_serve app s.seed s.time bs gs).1 (applications_count app s.seed s.time bs gs)
    (record { lacks = lacks_first s.lacking parts s.may_lack; told = λ test is. ap (list_any test) s.deeds ∙ is }))

pub session_serves : (app : Loaded) (last high : ℕ) (h : List Recorded) (n : ℕ) → AreWithin 1 high h → IsSessionOf (meaning_of_app app) last h n
    → ServesIn app last h n (opening_in n h)
session_serves app last high h n within s = subst (ServesIn app last h n) (sym s.opening) (serves_by app last high h n within s)

pub histories_serve : HistoriesServePrefixes
histories_serve app service limit told turns history course n = by (opening_in n history) refl
  where
    by : (o : Option (ℕ × ℕ)) → opening_in n history ≡ o → ServesIn app (length turns) history n (opening_in n history)
    by None e = subst (ServesIn app (length turns) history n) (sym e) (ap calls_among (course.others n e))
    by (Some opening) e =
        session_serves app (length turns) (length turns) history n (courses_are_in_order (meaning_of_app app) service limit told turns history course)
        (course.sessions n opening e)
