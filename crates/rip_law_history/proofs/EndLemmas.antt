-- How runs end, and what they put.
use Rattle.std.proofs.Common.{◌≡◌, ℕ, suc, ◌+◌, Bool, true, false, cond, not, ◌&&◌, eqb, leb, List, [], ◌∷◌, ◌++◌, length, Option, Some, None, refl, sym, ap, ◌∙◌, subst, arith, append-nil, append_assoc}
use Rattle.std.proofs.lemmas.Bool.{true≢false, eqb-true}
use Rattle.rip_http.specs.Answers.{answer_text}
use Rattle.rip_http.specs.declared.answer.HttpAnswer.{HttpAnswer}
use Rattle.rip_outer.specs.declared.connections.TraceKnock.{TraceKnock}
use Rattle.rip_outer.specs.declared.connections.TraceKnock.TheVariants.{Opened, Bytes, Gone, Quiet}
use Rattle.rip_wire.specs.declared.ending.Ending.{Ending}
use Rattle.rip_log.specs.Entries.{Recorded, ended}
use Rattle.rip_history.specs.Answering.{refusal_answer, decided_answer, batch_answer}
use Rattle.rip_history.specs.Connections.{Act, puts, sends, loses, shuts, put_in, all_put, Connection, Connections, is_there, overflows, most_connections, knock_acts, answer_acts, owing}
use Rattle.rip_history.specs.Course.{decided_entries}
use Rattle.rip_history.specs.Parts.{IsLawful}
use Rattle.rip_history.specs.Requests.{identifiers_in}
use Rattle.rip_history.specs.Run.{Site, State, first_state, stage_of, is_busy_in, busy_in, Arrived, refused, message, Handling, decided, at_once_acts, after_arrived, arrived_acts, after_handling, handling_acts, after_handlings, handlings_acts, Advance, advance_entries, answered_acts, progress_acts, after_advance, advance_acts, after_advances, advances_acts, Coming, knocked_at, handled_at, after_turn, turn_acts}
use Rattle.rip_history.specs.Runs.{after_turns, turns_acts, AreTurns, EndsOver, StopsWith, over, spent}
use Rattle.rip_history.specs.Stages.{Stage}
use Rattle.rip_history.specs.Standings.{standing_of, has_done}
use Rattle.rip_history.specs.declared.sessions.Progress.{Progress}
use Rattle.rip_history.specs.declared.sessions.Progress.TheVariants.{Busy, Finished}
use Rattle.rip_history.specs.declared.standing.Standing.{Standing}
use Rattle.rip_law_history.specs.Legal.{history_of, RunsEnd, RunsPut}
use Rattle.rip_law_history.proofs.AdvanceLemmas.{pending, idle_rest}
use Rattle.rip_law_history.proofs.FitLemmas.{Fits, none_some, stage_within}
use Rattle.rip_law_history.proofs.WholeRunLemmas.{run_fits}
use Rattle.rip_law_history.proofs.ViewLemmas.{seen}

-- ---- nothing is undone

idle-at-end : (site : Site) (turn : ℕ) (s : State) (ts : List Coming) → EndsOver site turn s ts
    → busy_in (let x = after_turns site turn s ts in x.history) ≡ []
idle-at-end site turn s [] e = absurd e
idle-at-end site turn s (t ∷ []) e = e.idle
idle-at-end site turn s (t ∷ u ∷ ts) e = idle-at-end site (turn + 1) (after_turn site turn t s) (u ∷ ts) e.1

was-done : (o : Option ℕ) (n : ℕ) → not (has_done o n) ≡ false → o ≡ Some n
was-done None n e = absurd (true≢false e)
was-done (Some m) n e = ap Some (eqb-true m n (back (eqb m n) e))
  where
    back : (b : Bool) → not b ≡ false → b ≡ true
    back true h = refl
    back false h = absurd (true≢false h)

all-done : (site : Site) (ts : List Coming) → IsLawful site.meaning → AreTurns site 1 first_state ts → busy_in (history_of site ts) ≡ []
    → (n : ℕ) (s : Standing) → standing_of n (history_of site ts) ≡ Some s → s.done ≡ Some s.last
all-done site ts lawful turns idle n s is =
    let end = after_turns site 1 first_state ts in
    let fit = run_fits site ts lawful turns in
    was-done s.done s.last (sym (ap is_busy_in is) ∙ by fit.count (stage_of n end.stages) refl (fit.each n))
  where
    h : List Recorded
    h = history_of site ts

    by : (let end = after_turns site 1 first_state ts in length end.stages) ≡ length (identifiers_in h)
        → (o : Option Stage) → stage_of n (let end = after_turns site 1 first_state ts in end.stages) ≡ o
        → Fits site.meaning (length ts) (seen n h) o → is_busy_in (standing_of n h) ≡ false
    by count None at k = absurd (none_some s (sym k.standing ∙ is))
    by count (Some st) at k =
        let w = stage_within n (let end = after_turns site 1 first_state ts in end.stages) st at in
        subst (λ (j : ℕ). is_busy_in (standing_of j h) ≡ false) (sym w.1)
        (idle_rest (length (identifiers_in h)) w.0 h (omega (arith, w.2, count)) (ap (pending (suc w.0)) idle))

stopped-idle : (site : Site) (most : Option ℕ) (ts : List Coming) (status : ℕ) → StopsWith site most ts status → status ≡ 0
    → busy_in (history_of site ts) ≡ []
stopped-idle site most ts status (over e m) is = idle-at-end site 1 first_state ts e
stopped-idle site most ts status (spent g m) is = absurd (omega (arith, is))

stopped-spent : (site : Site) (most : Option ℕ) (ts : List Coming) (status : ℕ) → StopsWith site most ts status → status ≡ 3
    → most ≡ Some (length ts)
stopped-spent site most ts status (over e m) is = absurd (omega (arith, is))
stopped-spent site most ts status (spent g m) is = m

pub runs_end : RunsEnd
runs_end site most ts acts lawful = (
  λ run n s is. all-done site ts lawful run.turns (stopped-idle site most ts 0 run.stops refl) n s is,
  λ run. stopped-spent site most ts 3 run.stops refl,
)

-- ---- what is put

pub put-join : (xs ys : List Act) → put_in (xs ++ ys) ≡ put_in xs ++ put_in ys
put-join [] ys = refl
put-join (puts e ∷ xs) ys = ap (λ (t : List Recorded). e ∷ t) (put-join xs ys)
put-join (sends c bytes ∷ xs) ys = put-join xs ys
put-join (loses c ∷ xs) ys = put-join xs ys
put-join (shuts c ∷ xs) ys = put-join xs ys

put-all : (es : List Recorded) → put_in (all_put es) ≡ es
put-all [] = refl
put-all (e ∷ es) = ap (λ (t : List Recorded). e ∷ t) (put-all es)

answer-puts : (gone close : Bool) (c : ℕ) (bytes : List ℕ) → put_in (answer_acts gone close c bytes) ≡ []
answer-puts true close c bytes = refl
answer-puts false true c bytes = refl
answer-puts false false c bytes = refl

at-once-puts : (c : ℕ) (gone close : Bool) (a : Option HttpAnswer) → put_in (at_once_acts c gone close a) ≡ []
at-once-puts c gone close None = refl
at-once-puts c gone close (Some a) = answer-puts gone close c (answer_text a)

shut-puts : (b : Bool) (c : ℕ) → put_in (cond b (shuts c ∷ []) []) ≡ []
shut-puts true c = refl
shut-puts false c = refl

knock-puts : (k : Option TraceKnock) (cs : Connections) → put_in (knock_acts k cs) ≡ []
knock-puts None cs = refl
knock-puts (Some (Opened c)) cs = shut-puts (eqb c cs.opened && leb most_connections (length cs.there)) c
knock-puts (Some (Bytes c piece)) cs = shut-puts (is_there c cs.there && overflows c piece cs) c
knock-puts (Some (Gone c)) cs = refl
knock-puts (Some Quiet) cs = refl

arrived-puts : (site : Site) (turn moment c size : ℕ) (gone : Bool) (s : State) (a : Arrived)
    → (let x = after_arrived site turn moment c size gone s a in x.history) ≡ s.history ++ put_in (arrived_acts site turn moment c gone s a)
arrived-puts site turn moment c size gone s (refused r) =
    sym (ap (λ (es : List Recorded). s.history ++ es) (answer-puts gone true c (answer_text (refusal_answer r))) ∙ append-nil s.history)
arrived-puts site turn moment c size gone s (message m x) =
    let d = decided site.limit s.history x in
    let es = decided_entries turn moment d in
    let acts = at_once_acts c gone m.close (decided_answer m.close d) in
    ap (λ (t : List Recorded). s.history ++ t)
    (sym (put-join (all_put es) acts ∙ (λ i. put-all es i ++ at-once-puts c gone m.close (decided_answer m.close d) i) ∙ append-nil es))

handlings-puts : (site : Site) (turn moment : ℕ) (s : State) (hs : List Handling)
    → (let x = after_handlings site turn moment s hs in x.history) ≡ s.history ++ put_in (handlings_acts site turn moment s hs)
handlings-puts site turn moment s [] = sym (append-nil s.history)
handlings-puts site turn moment s (h ∷ hs) =
    let one = handling_acts site turn moment s h in
    let next = after_handling site turn moment s h in
    let rest = handlings_acts site turn moment next hs in
    handlings-puts site turn moment next hs
    ∙ ap (λ (t : List Recorded). t ++ put_in rest) (arrived-puts site turn moment h.connection h.size h.gone s h.arrived)
    ∙ append_assoc s.history (put_in one) (put_in rest) ∙ ap (λ (t : List Recorded). s.history ++ t) (sym (put-join one rest))

answered-puts : (site : Site) (gone : Bool) (o : Option (ℕ × Bool)) (n number : ℕ) (how : Option Ending) (h : List Recorded)
    → put_in (answered_acts site gone o n number how h) ≡ []
answered-puts site gone None n number how h = refl
answered-puts site gone (Some (c, close)) n number how h = answer-puts gone close c (answer_text (batch_answer site.page n number how h close))

progress-puts : (site : Site) (gone : Bool) (n number : ℕ) (p : Progress) (o : List Connection) (h : List Recorded)
    → put_in (progress_acts site gone n number p o h) ≡ []
progress-puts site gone n number Busy o h = refl
progress-puts site gone n number (Finished how) o h = answered-puts site gone (owing n o) n number how h

advances-puts : (site : Site) (turn : ℕ) (s : State) (rest : List Advance)
    → (let x = after_advances turn s rest in x.history) ≡ s.history ++ put_in (advances_acts site turn s rest)
advances-puts site turn s [] = sym (append-nil s.history)
advances-puts site turn s (a ∷ rest) =
    let es = advance_entries turn a in
    let k = s.connections in
    let answer = progress_acts site a.gone a.session (length a.next.batches) a.progress k.there (s.history ++ es) in
    let next = after_advance turn s a in
    let others = advances_acts site turn next rest in
    let one : put_in (advance_acts site turn s a) ≡ es =
    put-join (all_put es) answer
    ∙ (λ i. put-all es i ++ progress-puts site a.gone a.session (length a.next.batches) a.progress k.there (s.history ++ es) i) ∙ append-nil es in
    advances-puts site turn next rest ∙ append_assoc s.history es (put_in others)
    ∙ ap (λ (t : List Recorded). s.history ++ t) (ap (λ (t : List Recorded). t ++ put_in others) (sym one) ∙ sym (put-join (advance_acts site turn s a) others))

pub turn-puts : (site : Site) (turn : ℕ) (t : Coming) (s : State)
    → (let x = after_turn site turn t s in x.history) ≡ s.history ++ put_in (turn_acts site turn t s)
turn-puts site turn t s =
    let first = knock_acts t.knock s.connections in
    let second = handlings_acts site turn t.moment (knocked_at t s) t.handlings in
    let third = advances_acts site turn (handled_at site turn t s) t.advances in
    let parts : put_in (turn_acts site turn t s) ≡ put_in second ++ put_in third =
    put-join (first ++ second) third
    ∙ ap (λ (es : List Recorded). es ++ put_in third) (put-join first second ∙ ap (λ (es : List Recorded). es ++ put_in second) (knock-puts t.knock s.connections)) in
    advances-puts site turn (handled_at site turn t s) t.advances
    ∙ ap (λ (h : List Recorded). h ++ put_in third) (handlings-puts site turn t.moment (knocked_at t s) t.handlings)
    ∙ append_assoc s.history (put_in second) (put_in third) ∙ ap (λ (es : List Recorded). s.history ++ es) (sym parts)

pub turns-puts : (site : Site) (turn : ℕ) (s : State) (ts : List Coming)
    → (let x = after_turns site turn s ts in x.history) ≡ s.history ++ put_in (turns_acts site turn s ts)
turns-puts site turn s [] = sym (append-nil s.history)
turns-puts site turn s (t ∷ ts) =
    let one = turn_acts site turn t s in
    let next = after_turn site turn t s in
    let rest = turns_acts site (turn + 1) next ts in
    turns-puts site (turn + 1) next ts
    ∙ ap (λ (h : List Recorded). h ++ put_in rest) (turn-puts site turn t s)
    ∙ append_assoc s.history (put_in one) (put_in rest) ∙ ap (λ (es : List Recorded). s.history ++ es) (sym (put-join one rest))

pub runs_put : RunsPut
runs_put site most ts status acts run =
    let last = puts (ended (length ts) status) ∷ [] in
    ap put_in run.done ∙ put-join (turns_acts site 1 first_state ts) last
    ∙ ap (λ (h : List Recorded). h ++ ended (length ts) status ∷ []) (sym (turns-puts site 1 first_state ts))
