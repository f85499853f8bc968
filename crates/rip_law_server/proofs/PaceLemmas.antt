-- Clients that keep pace, along a run.
use Rattle.std.proofs.Common.{◌≡◌, ℕ, ◌+◌, Bool, cond, List, [], ◌∷◌, ◌++◌, length, Option, Some, None, refl, sym, ap, ◌∙◌, subst, append-nil, append_assoc}
use Rattle.std.specs.List.{AllByRecursion, cons_option}
use Rattle.std.proofs.lemmas.Bool.{ne_eqb}
use Rattle.std.proofs.lemmas.List.Elements.{filter_map-append}
use Rattle.rip_wire.specs.Batches.{Contents}
use Rattle.rip_log.specs.Entries.{Recorded, opened, admitted, served, done, closed, ended}
use Rattle.rip_history.specs.Answering.{batch_body, json_answer, opening_answer}
use Rattle.rip_history.specs.Course.{Handled, IsMadeIn, decided_entries, handled_entries, turn_entries}
use Rattle.rip_history.specs.Parts.{IsLawful, Meaning}
use Rattle.rip_history.specs.Requests.{decide, identifiers_in}
use Rattle.rip_history.specs.Run.{Coming, IsTurn, Site, State, after_turn, asked_in, busy_in, first_state, handled_at, knocked_at}
use Rattle.rip_history.specs.Runs.{AreTurns, after_turns}
use Rattle.rip_history.specs.Sessions.{batches_in}
use Rattle.rip_history.specs.Stages.{Stage}
use Rattle.rip_history.specs.Run.{decided_stages}
use Rattle.rip_law_history.specs.Legal.{course_turn, course_turns, made_in}
use Rattle.rip_law_history.proofs.AdvanceLemmas.{advanced_fit, begin_midst}
use Rattle.rip_law_history.proofs.EntryLemmas.{turn_history}
use Rattle.rip_law_history.proofs.FitLemmas.{AllFit, decided_fit, handled_fit}
use Rattle.rip_law_history.proofs.WholeMadeLemmas.{advanced_made, busy_rises}
use Rattle.rip_law_history.proofs.WholeRunLemmas.{run_fits}
use Rattle.rip_law_history.proofs.ViewLemmas.{Seen, seen_join}
use Rattle.rip_law_server.specs.Paced.{AreMet, BatchesAreAnswered, KeepsPace, PacedAreServed, Request, batch_told, batches_told, count_behind, requests_from, requests_in, wish_in, wish_of, wish_read}
use Rattle.rip_law_server.proofs.PaceDeciding.{front_after, request_met, size_after, told_by}
use Rattle.rip_law_server.proofs.Idle.{Told}

-- ---- requests one behind another

abbrev count_over : ℕ → ℕ → List Request → ℕ
count_over n count [] = count
count_over n count (r ∷ rs) = count_over n (count_behind count (wish_of n r)) rs

pace_left : (n count : ℕ) (xs ys : List Request) → KeepsPace n count (xs ++ ys) → KeepsPace n count xs
pace_left n count [] ys p = tt
pace_left n count (x ∷ xs) ys p = (p.0, pace_left n (count_behind count (wish_of n x)) xs ys p.1)

pace_right : (n count : ℕ) (xs ys : List Request) → KeepsPace n count (xs ++ ys) → KeepsPace n (count_over n count xs) ys
pace_right n count [] ys p = p
pace_right n count (x ∷ xs) ys p = pace_right n (count_behind count (wish_of n x)) xs ys p.1

met_join : (n count : ℕ) (xs ys : List Request) → AreMet n count xs → AreMet n (count_over n count xs) ys → AreMet n count (xs ++ ys)
met_join n count [] ys p q = q
met_join n count (x ∷ xs) ys p q = (p.0, met_join n (count_behind count (wish_of n x)) xs ys p.1 q)

told_first : (told : List Contents) (o : Option Contents) (bs : List Contents) → told ++ cons_option o bs ≡ (told ++ cons_option o []) ++ bs
told_first told None bs = ap (λ (t : List Contents). t ++ bs) (sym (append-nil told))
told_first told (Some b) bs = sym (append_assoc told (b ∷ []) bs)

batches_more : (n : ℕ) (h es : List Recorded) → batches_in n (h ++ es) ≡ batches_in n h ++ batches_in n es
batches_more n h es = ap (λ (v : Seen). v.batches) (seen_join n h es)

-- ---- the requests of a turn

-- what comes of the requests of a turn
record Handed (limit u moment n count : ℕ) (h : List Recorded) (told : List Contents) (xs : List Handled) : Type 0 where
  met : AreMet n count (requests_in limit (u + 1) moment h xs)
  size : length (told ++ batches_told n (requests_in limit (u + 1) moment h xs)) ≡ count_over n count (requests_in limit (u + 1) moment h xs)
  more : List Contents
  front : told ++ batches_told n (requests_in limit (u + 1) moment h xs) ≡ batches_in n (h ++ handled_entries limit (u + 1) moment h xs) ++ more

-- one request before others
handed_first : (m : Meaning) (limit u moment n count : ℕ) (h : List Recorded) (stages : List Stage) (told : List Contents) (x : Handled) (xs : List Handled)
    → Told m u n h stages count told → KeepsPace n count (requests_in limit (u + 1) moment h (x ∷ xs))
    → Handed limit u moment n (count_behind count (wish_read x.lack (wish_in n h x.asked))) (h ++ decided_entries (u + 1) moment (decide limit h x.asked x.drawn x.lack)) (told ++ told_by (wish_read x.lack (wish_in n h x.asked))) xs
    → Handed limit u moment n count h told (x ∷ xs)
handed_first m limit u moment n count h stages told x xs w pace rest = record {
  met = (request_met m u limit n count h stages told w x.asked x.drawn x.lack pace.0, rest.met);
  size = ap length (told_first told (batch_told (wish_read x.lack (wish_in n h x.asked))) others) ∙ rest.size;
  more = rest.more;
  front =
      told_first told (batch_told (wish_read x.lack (wish_in n h x.asked))) others ∙ rest.front
      ∙ ap (λ (g : List Recorded). batches_in n g ++ rest.more) (append_assoc h es (handled_entries limit (u + 1) moment (h ++ es) xs));
}
  where
    es : List Recorded
    es = decided_entries (u + 1) moment (decide limit h x.asked x.drawn x.lack)

    others : List Contents
    others = batches_told n (requests_in limit (u + 1) moment (h ++ es) xs)

handed : (m : Meaning) → IsLawful m → (limit u moment n count : ℕ) (h : List Recorded) (stages : List Stage) (told : List Contents) (xs : List Handled)
    → Told m u n h stages count told → KeepsPace n count (requests_in limit (u + 1) moment h xs) → Handed limit u moment n count h told xs
handed m lawful limit u moment n count h stages told [] w pace = record {
  met = tt;
  size = ap length (append-nil told) ∙ w.size;
  more = w.more;
  front = append-nil told ∙ w.front ∙ ap (λ (g : List Recorded). batches_in n g ++ w.more) (sym (append-nil h));
}
handed m lawful limit u moment n count h stages told (x ∷ xs) w pace =
    let d = decide limit h x.asked x.drawn x.lack in
    let wish = wish_read x.lack (wish_in n h x.asked) in
    let after = front_after m u limit moment n count h stages told w x.asked x.drawn x.lack pace.0 d refl in
    let behind : Told m u n (h ++ decided_entries (u + 1) moment d) (decided_stages moment d stages) (count_behind count wish) (told ++ told_by wish) = record {
      fit = decided_fit m lawful limit u moment h stages x d refl w.fit;
      size = size_after n count h told wish pace.0 w.size;
      more = after.0;
      front = after.1;
    } in
    handed_first m limit u moment n count h stages told x xs w pace
    (handed m lawful limit u moment n (count_behind count wish) (h ++ decided_entries (u + 1) moment d) (decided_stages moment d stages) (told ++ told_by wish) xs behind pace.1)

-- ---- turns

none_made : (turn moment n : ℕ) (es : List Recorded) → AllByRecursion (IsMadeIn turn moment) es → batches_in n es ≡ []
none_made turn moment n [] h = refl
none_made turn moment n (opened t session id seed time ∷ es) h = absurd h.0
none_made turn moment n (admitted t session b ∷ es) h = absurd h.0
none_made turn moment n (served t session number k name args time reply ∷ es) h = none_made turn moment n es h.1
none_made turn moment n (done t session number how ∷ es) h = none_made turn moment n es h.1
none_made turn moment n (closed t session ∷ es) h = absurd h.0
none_made turn moment n (ended t status ∷ es) h = absurd h.0

pub turn_fit : (site : Site) → IsLawful site.meaning → (u : ℕ) (s : State) (t : Coming) → IsTurn site (u + 1) s t → AllFit site.meaning u s.history s.stages
    → (let x = after_turn site (u + 1) t s in AllFit site.meaning (u + 1) x.history x.stages)
turn_fit site lawful u s t is f =
    let x = handled_at site (u + 1) t s in
    advanced_fit site u t.moment 0 x (busy_in x.history) t.advances (busy_rises (length (identifiers_in x.history)) x.history) is.advanced
    (begin_midst site.meaning u x.history x.stages (handled_fit site lawful u t.moment (knocked_at t s) t.handlings f))

-- what comes of the requests of turns
record Paced (site : Site) (u n count : ℕ) (s : State) (told : List Contents) (ts : List Coming) : Type 0 where
  met : AreMet n count (requests_from site.limit (u + 1) s.history (course_turns (u + 1) ts))
  more : List Contents
  front : told ++ batches_told n (requests_from site.limit (u + 1) s.history (course_turns (u + 1) ts))
      ≡ batches_in n (let x = after_turns site (u + 1) s ts in x.history) ++ more

-- what comes of one turn, and of those behind it by what comes of them
record FirstTurn (site : Site) (u n count : ℕ) (s : State) (told : List Contents) (t : Coming) (ts : List Coming) : Type 0 where
  behind : (let next = after_turn site (u + 1) t s in
      Told site.meaning (u + 1) n next.history next.stages (count_over n count (requests_in site.limit (u + 1) t.moment s.history (asked_in t.handlings)))
      (told ++ batches_told n (requests_in site.limit (u + 1) t.moment s.history (asked_in t.handlings))))
  pace : KeepsPace n (count_over n count (requests_in site.limit (u + 1) t.moment s.history (asked_in t.handlings)))
      (requests_from site.limit (u + 1 + 1) (let next = after_turn site (u + 1) t s in next.history) (course_turns (u + 1 + 1) ts))
  goes : Paced site (u + 1) n (count_over n count (requests_in site.limit (u + 1) t.moment s.history (asked_in t.handlings))) (after_turn site (u + 1) t s)
      (told ++ batches_told n (requests_in site.limit (u + 1) t.moment s.history (asked_in t.handlings))) ts
      → Paced site u n count s told (t ∷ ts)

first_turn : (site : Site) → IsLawful site.meaning → (u n count : ℕ) (s : State) (told : List Contents) (t : Coming) (ts : List Coming)
    → IsTurn site (u + 1) s t → Told site.meaning u n s.history s.stages count told
    → KeepsPace n count (requests_from site.limit (u + 1) s.history (course_turns (u + 1) (t ∷ ts))) → FirstTurn site u n count s told t ts
first_turn site lawful u n count s told t ts turn w pace = record {
  behind = behind;
  pace = subst (λ (g : List Recorded). KeepsPace n (count_over n count here) (others g)) (sym is) (pace_right n count here (others both) pace);
  goes = λ rest. record {
    met = met_join n count here (others both) first.met (subst (λ (g : List Recorded). AreMet n (count_over n count here) (others g)) is rest.met);
    more = rest.more;
    front =
        ap (λ (bs : List Contents). told ++ bs) (filter_map-append (λ (r : Request). batch_told (wish_of n r)) here (others both))
        ∙ sym (append_assoc told (batches_told n here) (batches_told n (others both)))
        ∙ ap (λ (g : List Recorded). (told ++ batches_told n here) ++ batches_told n (others g)) (sym is)
        ∙ rest.front;
  };
}
  where
    here : List Request
    here = requests_in site.limit (u + 1) t.moment s.history (asked_in t.handlings)

    others : List Recorded → List Request
    others g = requests_from site.limit (u + 1 + 1) g (course_turns (u + 1 + 1) ts)

    next : State
    next = after_turn site (u + 1) t s

    decided : List Recorded
    decided = handled_entries site.limit (u + 1) t.moment s.history (asked_in t.handlings)

    made : List Recorded
    made = made_in (u + 1) t.advances

    both : List Recorded
    both = s.history ++ turn_entries site.limit (u + 1) s.history (course_turn (u + 1) t)

    is : next.history ≡ both
    is = turn_history site (u + 1) t s

    first : Handed site.limit u t.moment n count s.history told (asked_in t.handlings)
    first = handed site.meaning lawful site.limit u t.moment n count s.history s.stages told (asked_in t.handlings) w (pace_left n count here (others both) pace)

    none : batches_in n made ≡ []
    none =
        let x = handled_at site (u + 1) t s in
        none_made (u + 1) t.moment n made
        (advanced_made site (u + 1) t.moment x (busy_in x.history) t.advances turn.advanced)

    same : batches_in n (s.history ++ decided) ≡ batches_in n next.history
    same =
        sym (ap (batches_in n) (is ∙ sym (append_assoc s.history decided made)) ∙ batches_more n (s.history ++ decided) made
        ∙ ap (λ (bs : List Contents). batches_in n (s.history ++ decided) ++ bs) none ∙ append-nil (batches_in n (s.history ++ decided)))

    behind : Told site.meaning (u + 1) n next.history next.stages (count_over n count here) (told ++ batches_told n here)
    behind = record {
      fit = turn_fit site lawful u s t turn w.fit;
      size = first.size;
      more = first.more;
      front = first.front ∙ ap (λ (bs : List Contents). bs ++ first.more) same;
    }

turns_paced : (site : Site) → IsLawful site.meaning → (u n count : ℕ) (s : State) (told : List Contents) (ts : List Coming)
    → AreTurns site (u + 1) s ts → Told site.meaning u n s.history s.stages count told
    → KeepsPace n count (requests_from site.limit (u + 1) s.history (course_turns (u + 1) ts)) → Paced site u n count s told ts
turns_paced site lawful u n count s told [] turns w pace = record { met = tt; more = w.more; front = append-nil told ∙ w.front }
turns_paced site lawful u n count s told (t ∷ ts) turns w pace =
    let f = first_turn site lawful u n count s told t ts turns.0 w pace in
    f.goes (turns_paced site lawful (u + 1) n (count_over n count (requests_in site.limit (u + 1) t.moment s.history (asked_in t.handlings))) (after_turn site (u + 1) t s)
    (told ++ batches_told n (requests_in site.limit (u + 1) t.moment s.history (asked_in t.handlings))) ts turns.1 f.behind f.pace)

pub paced_are_served : PacedAreServed
paced_are_served site ts n lawful turns pace =
    let begun : Told site.meaning 0 n [] [] 0 [] = record { fit = run_fits site [] lawful tt; size = refl; more = []; front = refl } in
    let p = turns_paced site lawful 0 n 0 first_state [] ts turns begun pace in
    record { met = p.met; batches = (p.more, p.front) }

pub batches_are_answered : BatchesAreAnswered
batches_are_answered page n number how h close behind =
    ap (λ (b : Bool). cond b (opening_answer page n how h close) (json_answer 200 (batch_body n number how h) close)) (ne_eqb number 0 behind)
