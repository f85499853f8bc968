-- What a run wrote that serves an application, and what is so of it.
use Rattle.std.proofs.Common.{◌≡◌, ◌⊎◌, inl, inr, ℕ, ◌+◌, suc, ◌<◌, ◌≤◌, List, [], ◌∷◌, ◌++◌, length, Option, Some, refl, sym, ap, subst, arith}
use Rattle.std.specs.Prelude.{unwrap_or}
use Rattle.std.proofs.lemmas.List.{length-append}
use Rattle.std.proofs.lemmas.List.Concat.{flat_map-append}
use Rattle.rip_outer.specs.Outside.{Front}
use Rattle.rip_outer.specs.declared.connections.TraceKnock.{TraceKnock}
use Rattle.rip_outer.specs.declared.reading.NamedFile.{NamedFile}
use Rattle.rip_outer.proofs.Composing.{Front-longer, Front-whole}
use Rattle.rip_words.specs.Commands.{IsTask, Task, checks, drives, generates, replays, serves}
use Rattle.rip_app.specs.App.{Loaded}
use Rattle.rip_log.specs.Entries.{ended, entry_text}
use Rattle.rip_log.specs.Histories.{history_text}
use Rattle.rip_history.specs.Run.{Coming}
use Rattle.rip_history.specs.Runs.{StopsWith, over, spent}
use Rattle.rip_history.specs.Sessions.{IsSessionOf, opening_in}
use Rattle.rip_history.proofs.CourseLemmas.{courses_isolate}
use Rattle.rip_law_history.specs.Legal.{course_turns, told_in}
use Rattle.rip_law_replica.proofs.Cut.{busy_cut}
use Rattle.rip_law_replica.proofs.Done.{not_done_busy}
use Rattle.rip_server.specs.Turning.{Outer}
use Rattle.rip_serve.specs.Sites.{site_of_app}
use Rattle.rip_law_server.specs.Begun.{IsBetweenTurns, IsWithinTurn}
use Rattle.rip_law_server.specs.Legal.{AreLegal, IsCutRun, IsLegalRun}
use Rattle.rip_law_server.proofs.Conversed.{requests_are_answered}
use Rattle.rip_replica.specs.Standing.{spot}
use Rattle.rip_session.specs.declared.work.items.PageItems.{PageItems}
use Rattle.rip_session.specs.Application.{doing_of, meaning_of_app, runs_of}
use Rattle.rip_session.specs.Lawful.{app_is_lawful}
use Rattle.rip_session.specs.Plans.{left_of_work, work_plan}
use Rattle.rip_session.specs.Serving.{may_serve}
use Rattle.rip_cli.specs.Laws.{AreAccepted}
use Rattle.rip_cli.specs.Run.{Ran, Told}
use Rattle.rip_cli.specs.Service.{brought}
use Rattle.rip_cli.specs.declared.status.Status.{Status}
use Rattle.rip_cli.specs.declared.status.Status.TheVariants.{BadInput, BadWords, NoMemory, Outside, Read, TurnsSpent}
use Rattle.rip_headline.specs.Headline.{AreConversations, AreGivenAll, AreIsolated, AreSliced, CallsMatch, EndsInTime, HonestClientsAreServed, HonestServed, InEachRun, IsServed, NoLimitIsPassed, RequestsAreAnsweredInOrder, ServedCallsMatch, SessionsAreIsolated, Writes, Wrote, broken, log_of, outside_of, text_of, turns_of, whole}
use Rattle.rip_headline.specs.Enough.{AreEnough, batch_cost}
use Rattle.rip_headline.specs.PrefixHistories.{ServesIn}
use Rattle.rip_headline.specs.Prefixed.{PutsLegal, ReplayPutsLegal, StopsFirst}
use Rattle.rip_headline.proofs.Begins.{replays_begin_legal, serves_begin_legal}
use Rattle.rip_headline.proofs.Ended.{pages_have_limits}
use Rattle.rip_headline.proofs.Histories.{truth_is_served}
use Rattle.rip_headline.proofs.HistoryLaw.{histories_serve}
use Rattle.rip_headline.proofs.ReplaysLemmas.{replays_end_in_time}
use Rattle.rip_headline.proofs.Serves.{serves_end_in_time}

-- ---- what a run wrote

-- a prefix of a log is one of the log and its last line
log_front : (app : Loaded) (turns : List Coming) (code : ℕ) (old new : Option (List ℕ)) → Front (history_text (log_of app turns)) old new
    → Front (text_of app turns code) old new
log_front app turns code old new f =
    subst (λ (t : List ℕ). Front t old new) (sym (flat_map-append entry_text (log_of app turns) (ended (length turns) code ∷ [])))
    (Front-longer (history_text (log_of app turns)) (history_text (ended (length turns) code ∷ [])) old new f)

-- a status is 0 or 3
either : (app : Loaded) (most : ℕ) (turns : List Coming) (code : ℕ) (old new : Option (List ℕ)) → StopsWith (site_of_app app) (Some most) turns code
    → Front (text_of app turns code) old new → Front (text_of app turns 0) old new ⊎ Front (text_of app turns 3) old new
either app most turns code old new (over e m) f = inl f
either app most turns code old new (spent g e) f = inr f

module _ (app : Loaded) (most : ℕ) (old end : Outer) (held : Option (List ℕ)) (same : held ≡ end.seen.held) where
  run-wrote : (status : Status) (code : ℕ) → (r : IsLegalRun (site_of_app app) most code old end)
      → Writes status app r.turns old.seen.held end.seen.held → Wrote status app most old held
  run-wrote status code r put = record {
    turns = r.turns;
    few = r.few;
    left = end;
    given = whole r.given;
    legal = r.legal;
    put = subst (λ (h : Option (List ℕ)). Writes status app r.turns old.seen.held h) (sym same) put;
  }

  -- what broke off, with 4 or 5
  abbrev Begun : Type 0
  Begun = IsBetweenTurns (site_of_app app) most old end ⊎ IsWithinTurn (site_of_app app) most old end ⊎ IsCutRun (site_of_app app) most old end

  abbrev Puts : List Coming → Option (List ℕ) → Type 0
  Puts turns h = Front (text_of app turns 0) old.seen.held h ⊎ Front (text_of app turns 3) old.seen.held h

  broke : Begun → Wrote Outside app most old held × Wrote NoMemory app most old held
  broke (inl b) =
      let put = subst (Puts b.turns) (sym same) (inl (log_front app b.turns 0 old.seen.held end.seen.held (Front-whole (history_text (log_of app b.turns)) old.seen.held end.seen.held b.put))) in (
        record { turns = b.turns; few = b.few; left = end; given = whole b.given; legal = b.legal; put = put },
        record { turns = b.turns; few = b.few; left = end; given = whole b.given; legal = b.legal; put = put },
      )
  broke (inr (inl b)) =
      let turns = b.turns ++ b.last ∷ [] in
      let put = subst (Puts turns) (sym same) (inl (log_front app turns 0 old.seen.held end.seen.held b.put)) in
      let given : AreGivenAll app turns old end = broken b.turns b.last b.between refl b.given b.given_last in
      let few : length turns ≤ most = one-more b.turns b.last b.few in (
        record { turns = turns; few = few; left = end; given = given; legal = b.legal; put = put },
        record { turns = turns; few = few; left = end; given = given; legal = b.legal; put = put },
      )
    where
      one-more : (ts : List Coming) (t : Coming) → length ts < most → length (ts ++ t ∷ []) ≤ most
      one-more ts t less = omega (arith, less, length-append ts (t ∷ []))
  broke (inr (inr b)) =
      let put = subst (Puts b.turns) (sym same) (either app most b.turns b.status old.seen.held end.seen.held b.stops b.put) in (
        record { turns = b.turns; few = b.few; left = end; given = whole b.given; legal = b.legal; put = put },
        record { turns = b.turns; few = b.few; left = end; given = whole b.given; legal = b.legal; put = put },
      )

  wrote : (status : Status) → PutsLegal status app most old end → Wrote status app most old held
  wrote Read r = run-wrote Read 0 r r.put
  wrote BadWords r = absurd r
  wrote BadInput r = absurd r
  wrote TurnsSpent r = run-wrote TurnsSpent 3 r r.put
  wrote Outside b = (broke b).0
  wrote NoMemory b = (broke b).1

-- ---- each run

of_replay : (status : Status) (app other : Loaded) (most : ℕ) (given : _) (old new : Outer) → app ≡ other
    → StopsFirst status old new ⊎ ReplayPutsLegal status app given most old new
    → StopsFirst status old new ⊎ Wrote status other most (brought given old.seen.held old.sink_faults) new.seen.held
of_replay status app other most given old new is (inl first) = inl first
of_replay status app other most given old new is (inr r) =
    inr (subst (λ (a : Loaded). Wrote status a most (brought given old.seen.held old.sink_faults) new.seen.held) is
    (wrote app most (brought given old.seen.held old.sink_faults) r.end new.seen.held r.put status r.legal))

of_service : (status : Status) (app other : Loaded) (most : ℕ) (old new : Outer) → app ≡ other
    → StopsFirst status old new ⊎ PutsLegal status app most old new → StopsFirst status old new ⊎ Wrote status other most old new.seen.held
of_service status app other most old new is (inl first) = inl first
of_service status app other most old new is (inr r) =
    inr (subst (λ (a : Loaded). Wrote status a most old new.seen.held) is (wrote app most old new new.seen.held refl status r))

by_task : (status : Status) (words : List (List ℕ)) (app : Loaded) (old new : Told) (files : List NamedFile) (task : Task) → old.held ≡ Some files
    → IsTask words task → (hold : AreAccepted files task) → IsServed files task hold app → Ran status words old new
    → StopsFirst status old.outer new.outer ⊎ Wrote status app (turns_of task) (outside_of files task hold old.outer) new.outer.seen.held
by_task status words app old new files (checks page manifest) held asked hold is ran = absurd is
by_task status words app old new files (replays page manifest trace turns) held asked hold is ran =
    of_replay status hold.0.app app turns hold.1.given old.outer new.outer is
    (replays_begin_legal status words page manifest trace turns old new files held asked hold ran)
by_task status words app old new files (serves page manifest address turns) held asked hold is ran =
    of_service status hold.app app turns old.outer new.outer is
    (serves_begin_legal status words page manifest address turns old new files held asked hold ran)
by_task status words app old new files (drives page manifest gestures) held asked hold is ran = absurd is
by_task status words app old new files (generates n) held asked hold is ran = absurd is

-- what is so of all legal turns of an application is so in each run
in_each : (P : Loaded → List Coming → Type 0) → ((app : Loaded) (turns : List Coming) → AreLegal (site_of_app app) turns → P app turns) → InEachRun P
in_each P so status words app old new run = record {
  wrote = by_task status words app old new run.files run.task run.held run.asked run.accepted run.serves run.ran;
  each = λ w. so app w.turns w.legal;
}

-- ---- served calls

count : (turn : ℕ) (ts : List Coming) → length (course_turns turn ts) ≡ length ts
count turn [] = refl
count turn (t ∷ ts) = ap suc (count (turn + 1) ts)

calls_match : (app : Loaded) (turns : List Coming) → AreLegal (site_of_app app) turns → CallsMatch app turns
calls_match app turns legal n =
    let site = site_of_app app in
    subst (λ (last : ℕ). ServesIn app last (log_of app turns) n (opening_in n (log_of app turns))) (count 1 turns)
    (histories_serve app site.service site.limit (told_in turns) (course_turns 1 turns) (log_of app turns) legal.course n)

pub served_calls_match : ServedCallsMatch
served_calls_match = in_each CallsMatch calls_match

-- ---- limits

pub no_limit_is_passed : NoLimitIsPassed
no_limit_is_passed app r st at = record {
  heap = at.within;
  page = pages_have_limits app r st at;
  lives = at.page;
  cut = λ undone.
      let to = spot (λ (items : PageItems). work_plan items.batches.batch) left_of_work r in
      busy_cut (runs_of app) (doing_of app) may_serve to st (not_done_busy (runs_of app) (doing_of app) may_serve to st at.stage.stands undone);
}

-- ---- honest clients

honest : (app : Loaded) (turns : List Coming) → AreLegal (site_of_app app) turns → HonestServed app turns
honest app turns legal n truthful =
    let site = site_of_app app in
    truth_is_served app site.service site.limit (told_in turns) (course_turns 1 turns) (log_of app turns) n legal.course truthful

pub honest_clients_are_served : HonestClientsAreServed
honest_clients_are_served = in_each HonestServed honest

-- ---- isolation

isolated : (app : Loaded) (turns : List Coming) → AreLegal (site_of_app app) turns → AreIsolated app turns
isolated app turns legal others course n k g =
    let site = site_of_app app in
    let lawful = app_is_lawful app in
    courses_isolate (meaning_of_app app) lawful.reads site.service site.service site.limit site.limit (told_in turns) (told_in others)
    (course_turns 1 turns) (course_turns 1 others) (log_of app turns) (log_of app others) n k g.start legal.course course
    g.opening g.other_opening g.calm g.other_calm g.batches g.given

sliced : (app : Loaded) (turns : List Coming) → AreLegal (site_of_app app) turns → AreSliced app turns
sliced app turns legal n opening there =
    subst (λ (last : ℕ). IsSessionOf (meaning_of_app app) last (log_of app turns) n) (count 1 turns) (let c = legal.course in c.sessions n opening there)

same_knocks : (xs ys : List TraceKnock) → Some xs ≡ Some ys → xs ≡ ys
same_knocks xs ys e = ap (λ (o : Option (List TraceKnock)). unwrap_or o xs) e

end_by_task : (status : Status) (words : List (List ℕ)) (app : Loaded) (old new : Told) (knocks : List TraceKnock) (files : List NamedFile) (task : Task)
    → old.held ≡ Some files → IsTask words task → (hold : AreAccepted files task) → IsServed files task hold app → Ran status words old new
    → (let outside = outside_of files task hold old.outer in outside.seen.telling.left) ≡ Some knocks
    → AreEnough (batch_cost app.manifest.limits.fuel) knocks (turns_of task)
    → (status ≡ Read) ⊎ (status ≡ Outside) ⊎ (status ≡ NoMemory)
end_by_task status words app old new knocks files (checks page manifest) held asked hold is ran left enough = absurd is
end_by_task status words app old new knocks files (replays page manifest trace turns) held asked hold is ran left enough =
    replays_end_in_time status words page manifest trace turns old new files held asked hold
    (subst (λ (ks : List TraceKnock). AreEnough (batch_cost hold.0.app.manifest.limits.fuel) ks turns) (sym (same_knocks hold.1.given.knocks knocks left))
    (subst (λ (a : Loaded). AreEnough (batch_cost a.manifest.limits.fuel) knocks turns) (sym is) enough))
    ran
end_by_task status words app old new knocks files (serves page manifest address turns) held asked hold is ran left enough =
    serves_end_in_time status words page manifest address turns old new files knocks held left asked hold
    (subst (λ (a : Loaded). AreEnough (batch_cost a.manifest.limits.fuel) knocks turns) (sym is) enough)
    ran
end_by_task status words app old new knocks files (drives page manifest gestures) held asked hold is ran left enough = absurd is
end_by_task status words app old new knocks files (generates n) held asked hold is ran left enough = absurd is

ends_in_time : EndsInTime
ends_in_time status words app old new knocks run left enough =
    end_by_task status words app old new knocks run.files run.task run.held run.asked run.accepted run.serves run.ran left enough

pub sessions_are_isolated : SessionsAreIsolated
sessions_are_isolated = record {
  isolated = in_each AreIsolated isolated;
  sliced = in_each AreSliced sliced;
  in_time = ends_in_time;
}

-- ---- answers

conversations : (app : Loaded) (turns : List Coming) → AreLegal (site_of_app app) turns → AreConversations app turns
conversations app turns legal c = requests_are_answered (site_of_app app) turns c (app_is_lawful app) legal.made

pub answers_are_in_order : RequestsAreAnsweredInOrder
answers_are_in_order = in_each AreConversations conversations
