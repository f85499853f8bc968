-- What is put by serving that breaks off is a front of the text of a legal course.
use Rattle.std.proofs.Common.{◌≡◌, ◌⊎◌, inl, inr, ℕ, ◌+◌, ◌<◌, ◌≤◌, ◌^◌, List, [], ◌∷◌, ◌++◌, length, Option, Some, sym, ap, ◌∙◌, subst, arith, append-nil, append_assoc, cond, Bool, true, false, eqb}
use Rattle.std.specs.Prelude.{unwrap_or}
use Rattle.std.proofs.lemmas.List.Concat.{flat_map-append}
use Rattle.rip_outer.specs.Outside.{Front, also}
use Rattle.rip_outer.specs.declared.connections.TraceKnock.{TraceKnock}
use Rattle.rip_outer.proofs.Composing.{Front-after, Front-longer, Front-none, Front-whole, also-nil, before-nil}
use Rattle.rip_log.specs.Entries.{Recorded, ended, entry_text}
use Rattle.rip_log.specs.Histories.{IsHistory, history_text}
use Rattle.rip_log.specs.Ranges.{IsLong}
use Rattle.rip_history.specs.Connections.{Act, loses, put_in, puts, sends, sent_in, shuts}
use Rattle.rip_history.specs.Parts.{IsLawful}
use Rattle.rip_history.specs.Run.{Coming, Site, first_state, turn_acts}
use Rattle.rip_history.specs.Runs.{AreTurns, IsBroken, IsRun, StopsWith, after_turns, over, spent, turns_acts}
use Rattle.rip_law_history.specs.Legal.{history_of}
use Rattle.rip_law_history.proofs.EndLemmas.{runs_end, runs_put, turns-puts}
use Rattle.rip_law_history.proofs.WholeMadeLemmas.{all-maps}
use Rattle.rip_law_history.proofs.WholeRunLemmas.{runs_are_courses}
use Rattle.rip_law_history.proofs.StreamLemmas.{streams_are_handled}
use Rattle.rip_law_history.specs.Ranged.{AreTimed}
use Rattle.rip_law_history.proofs.RangeRunLemmas.{logs_are_in_range}
use Rattle.rip_server.specs.Acts.{InPart, Seen, Stopped}
use Rattle.rip_server.specs.Turning.{FailsAsked, Gives, Knocks, Outer, Source, StopsIn, at_knock, behind}
use Rattle.rip_serve.specs.Serving.{AreKnocks, AreTimely, Breaks, BreaksAtEnd, BreaksInTurn, Ran, at_end, in_turn, moments_of, unmade, words_of}
use Rattle.rip_serve.specs.declared.serving.Stop.TheVariants.{Idle, Memory, Outside, TurnsSpent}
use Rattle.rip_serve.proofs.TellLemmas.{gives_none, gives_then, log-append, sent-append}
use Rattle.rip_law_server.specs.Begun.{IsBetweenTurns, IsWithinTurn, ServedBeginsLegal}
use Rattle.rip_law_server.specs.Going.{GoesOnTo, with_more}
use Rattle.rip_law_server.specs.Legal.{AreLegal, ArePutInRange, IsCutRun, IsDoneWith, IsLegalRun}
use Rattle.rip_law_server.specs.Rising.{PartsRise}
use Rattle.rip_law_server.proofs.OnLemmas.{broken_runs_go_on}

legal : (site : Site) (ts : List Coming) → IsLawful site.meaning → AreTurns site 1 first_state ts → AreLegal site ts
legal site ts lawful are = record {
  made = are;
  course = runs_are_courses site ts lawful are;
  streams = λ c. streams_are_handled site ts c are;
}

-- ---- between two turns

-- nothing more was given
given-none : (xs none : List ℕ) (a b c : Source) → none ≡ [] → Gives xs a b → Gives none b c → Gives xs a c
given-none xs none a b c e one more =
    subst (λ (ys : List ℕ). Gives ys a c) (ap (λ (ys : List ℕ). xs ++ ys) e ∙ append-nil xs) (gives_then xs none a b c one more)

unmade-between : (site : Site) (most : ℕ) (old new : Outer) → IsLawful site.meaning → new ≡ old → IsBetweenTurns site most old new
unmade-between site most old new lawful e = record {
  turns = [];
  few = omega arith;
  given = record {
    knocks = ap (λ (o : Outer). o.seen.telling.left) e;
    moments = subst (λ (o : Outer). Gives [] old.clock o.clock) (sym e) (gives_none old.clock);
    words = subst (λ (o : Outer). Gives [] old.words o.words) (sym e) (gives_none old.words);
  };
  sent = λ c. ap (λ (o : Outer). o.seen.sent c) e ∙ also-nil (old.seen.sent c);
  legal = legal site [] lawful tt;
  put = ap (λ (o : Outer). o.seen.held) e ∙ also-nil old.seen.held;
}

asked-between : (site : Site) (most : ℕ) (old new : Outer) → IsLawful site.meaning → (b : BreaksInTurn site most old new)
    → (let h = b.last in h.moments ≡ []) → (let h = b.last in h.coming.words ≡ [])
    → FailsAsked (after_turns site 1 first_state b.turns) (let m = b.between in m.seen) new.seen → IsBetweenTurns site most old new
asked-between site most old new lawful b still silent f =
    let mid = b.between in
    let h = b.last in
    let told = b.tells in record {
      turns = b.turns;
      few = omega (arith, b.few);
      given = record {
        knocks = subst (λ (left : Option (List TraceKnock)). AreKnocks site 1 first_state b.turns old.seen.telling.left left)
            (f.goes.left ∙ sym (before-nil new.seen.telling.left)) told.knocks;
        moments = given-none (moments_of b.turns) h.moments old.clock mid.clock new.clock still told.moments h.moment;
        words = given-none (words_of b.turns) h.coming.words old.words mid.words new.words silent told.words h.words;
      };
      sent = λ c. f.sent c ∙ told.sent c;
      legal = legal site b.turns lawful b.made;
      put = f.held ∙ told.held ∙ ap (λ (es : List Recorded). also (history_text es) old.seen.held) (sym (turns-puts site 1 first_state b.turns));
    }

-- ---- within a turn

-- of acts that stop in the midst a front of the log is put
in-part : (acts : List Act) (old new : Seen) → InPart acts old new → Front (history_text (put_in acts)) old.held new.held
in-part [] old new d = Front-none [] old.held new.held (d.held ∙ sym (also-nil old.held))
in-part (puts e ∷ acts) old new (held, front, d) =
    Front-longer (entry_text e) (history_text (put_in acts)) old.held new.held
    (subst (λ (h : Option (List ℕ)). Front (entry_text e) old.held h) (also-nil held ∙ sym d.held) front)
in-part (sends c bytes ∷ acts) old new (more, rest, is, d) =
    Front-none (history_text (put_in acts)) old.held new.held (d.held ∙ sym (also-nil old.held))
in-part (loses c ∷ acts) old new d = Front-none (history_text (put_in acts)) old.held new.held (d.held ∙ sym (also-nil old.held))
in-part (shuts c ∷ acts) old new d = Front-none (history_text (put_in acts)) old.held new.held (d.held ∙ sym (also-nil old.held))

stopped : (acts : List Act) (old new : Seen) → Stopped acts old new → Front (history_text (put_in acts)) old.held new.held
stopped acts old new s =
    let all : history_text (put_in s.done) ++ history_text (put_in s.others) ≡ history_text (put_in acts) =
    sym (ap (λ (xs : List Act). history_text (put_in xs)) s.parts ∙ log-append s.done s.others) in
    subst (λ (t : List ℕ). Front t old.held new.held) all
    (Front-after (history_text (put_in s.done)) (history_text (put_in s.others)) old.held s.mid.held new.held s.did.held (in-part s.others s.mid new s.in_part))

-- and of the bytes on each connection
sent-part : (c : ℕ) (acts : List Act) (old new : Seen) → InPart acts old new → Front (sent_in c acts) (old.sent c) (new.sent c)
sent-part c [] old new d = Front-none [] (old.sent c) (new.sent c) (d.sent c ∙ sym (also-nil (old.sent c)))
sent-part c (puts e ∷ acts) old new (held, front, d) = Front-none (sent_in c acts) (old.sent c) (new.sent c) (d.sent c ∙ sym (also-nil (old.sent c)))
sent-part c (sends e bytes ∷ acts) old new (more, rest, is, d) = by (eqb e c) (d.sent c)
  where
    text : (more ++ []) ++ (rest ++ sent_in c acts) ≡ bytes ++ sent_in c acts
    text =
        ap (λ (t : List ℕ). t ++ (rest ++ sent_in c acts)) (append-nil more)
        ∙ sym (append_assoc more rest (sent_in c acts)) ∙ ap (λ (t : List ℕ). t ++ sent_in c acts) (sym is)

    by : (b : Bool) → new.sent c ≡ also (cond b (more ++ []) []) (old.sent c) → Front (cond b (bytes ++ sent_in c acts) (sent_in c acts)) (old.sent c) (new.sent c)
    by true e =
        subst (λ (t : List ℕ). Front t (old.sent c) (new.sent c)) text
        (Front-longer (more ++ []) (rest ++ sent_in c acts) (old.sent c) (new.sent c) (Front-whole (more ++ []) (old.sent c) (new.sent c) e))
    by false e = Front-none (sent_in c acts) (old.sent c) (new.sent c) (e ∙ sym (also-nil (old.sent c)))
sent-part c (loses e ∷ acts) old new d = Front-none (sent_in c acts) (old.sent c) (new.sent c) (d.sent c ∙ sym (also-nil (old.sent c)))
sent-part c (shuts e ∷ acts) old new d = Front-none (sent_in c acts) (old.sent c) (new.sent c) (d.sent c ∙ sym (also-nil (old.sent c)))

sent-stopped : (c : ℕ) (acts : List Act) (old new : Seen) → Stopped acts old new → Front (sent_in c acts) (old.sent c) (new.sent c)
sent-stopped c acts old new s =
    let mid = s.mid in
    let did = s.did in
    let all : sent_in c s.done ++ sent_in c s.others ≡ sent_in c acts = sym (ap (sent_in c) s.parts ∙ sent-append c s.done s.others) in
    subst (λ (t : List ℕ). Front t (old.sent c) (new.sent c)) all
    (Front-after (sent_in c s.done) (sent_in c s.others) (old.sent c) (mid.sent c) (new.sent c) (did.sent c) (sent-part c s.others mid new s.in_part))

within : (site : Site) (most : ℕ) (old new : Outer) → IsLawful site.meaning → PartsRise site.meaning → (b : BreaksInTurn site most old new)
    → (knocked : Seen) → Knocks (after_turns site 1 first_state b.turns) (let h = b.last in h.coming.knock) (let m = b.between in m.seen) knocked
    → Stopped (turn_acts site (length b.turns + 1) (let h = b.last in h.coming) (after_turns site 1 first_state b.turns)) knocked new.seen
    → IsWithinTurn site most old new
within site most old new lawful rises b knocked k st =
    let mid = b.between in
    let h = b.last in
    let t = h.coming in
    let told = b.tells in
    let s = after_turns site 1 first_state b.turns in
    let first = turns_acts site 1 first_state b.turns in
    let now = turn_acts site (length b.turns + 1) t s in
    let acts = first ++ now in
    let broken : IsBroken site b.turns t acts = record { turns = b.made; go_on = b.go_on; last = h.broken; others = []; front = sym (append-nil acts) } in
    let go : GoesOnTo site b.turns t acts = broken_runs_go_on site b.turns t acts lawful rises broken in
    let begins = go.begins in
    let more = begins.front in
    let last : Coming = with_more go.handlings go.advances t in
    let here : Front (history_text (put_in now)) mid.seen.held new.seen.held =
    subst (λ (x : Option (List ℕ)). Front (history_text (put_in now)) x new.seen.held) k.held (stopped now knocked new.seen st) in
    let longer = go.front in
    let bytes : (c : ℕ) → Front (sent_in c acts) (old.seen.sent c) (new.seen.sent c) =
    λ c.
    subst (λ (x : List ℕ). Front x (old.seen.sent c) (new.seen.sent c)) (sym (sent-append c first now))
    (Front-after (sent_in c first) (sent_in c now) (old.seen.sent c) (mid.seen.sent c) (new.seen.sent c) (told.sent c)
    (subst (λ (x : Option (List ℕ)). Front (sent_in c now) x (new.seen.sent c)) (k.sent c) (sent-stopped c now knocked new.seen st))) in
    let text : Front (history_text (put_in acts)) old.seen.held new.seen.held =
    subst (λ (x : List ℕ). Front x old.seen.held new.seen.held) (sym (log-append first now))
    (Front-after (history_text (put_in first)) (history_text (put_in now)) old.seen.held mid.seen.held new.seen.held told.held here) in
    record {
      turns = b.turns;
      few = b.few;
      between = mid;
      given = record { knocks = told.knocks; moments = told.moments; words = told.words };
      last = last;
      given_last = record {
        left = knocked.telling.left;
        knock = k.goes.left;
        closed = k.closed;
        moments = h.moments;
        at = h.at;
        moment = h.moment;
        words = h.words;
      };
      sent = λ c.
          subst (λ (x : List ℕ). Front x (old.seen.sent c) (new.seen.sent c)) (sym (ap (sent_in c) longer.1 ∙ sent-append c acts longer.0))
          (Front-longer (sent_in c acts) (sent_in c longer.0) (old.seen.sent c) (new.seen.sent c) (bytes c));
      legal = legal site (b.turns ++ last ∷ []) lawful go.turns;
      put = subst (λ (x : List ℕ). Front x old.seen.held new.seen.held)
          (sym (ap history_text more.1 ∙ flat_map-append entry_text (put_in acts) more.0))
          (Front-longer (history_text (put_in acts)) (history_text more.0) old.seen.held new.seen.held text);
    }

-- ---- a whole run, and one that breaks off in its last line

-- a run has no more turns than may be
few-turns : (site : Site) (most status : ℕ) (ts : List Coming) → StopsWith site (Some most) ts status → length ts ≤ most
few-turns site most status ts (over e m) = m
few-turns site most status ts (spent g e) = let same : most ≡ length ts = some-same e in omega (arith, same)
  where
    some-same : {a b : ℕ} → Some a ≡ Some b → a ≡ b
    some-same {a} {b} e = ap (λ (o : Option ℕ). unwrap_or o a) e

done-with : (site : Site) (most status : ℕ) (ts : List Coming) (acts : List Act) → IsLawful site.meaning → IsRun site (Some most) ts status acts
    → IsDoneWith status (history_of site ts)
done-with site most status ts acts lawful run none =
    (runs_end site (Some most) ts acts lawful).0 (subst (λ (n : ℕ). IsRun site (Some most) ts n acts) none run)

ranged : (site : Site) (most status : ℕ) (ts : List Coming) (acts : List Act) → IsLawful site.meaning → AreTimely ts
    → IsRun site (Some most) ts status acts → ArePutInRange site most (history_of site ts ++ ended (length ts) status ∷ [])
ranged site most status ts acts lawful timely run bound means replies =
    let few : length ts ≤ most = few-turns site most status ts run.stops in
    subst IsHistory (runs_put site (Some most) ts status acts run)
    (logs_are_in_range site (Some most) ts status acts lawful means replies (omega (arith, few, bound)) timed run)
  where
    timed : AreTimed ts
    timed = all-maps (λ (t : Coming). t.moment < 2 ^ 53) (λ (t : Coming). IsLong t.moment) (λ t lt. omega (arith, lt)) ts timely

legal-run : (site : Site) (most status : ℕ) (old new : Outer) → IsLawful site.meaning → Ran site most status old new → IsLegalRun site most status old new
legal-run site most status old new lawful r =
    let told = r.tells in record {
      turns = r.turns;
      few = few-turns site most status r.turns r.run.stops;
      given = record { knocks = told.knocks; moments = told.moments; words = told.words };
      sent = λ c.
          told.sent c ∙ ap (λ (xs : List Act). also (sent_in c xs) (old.seen.sent c)) r.run.done
          ∙ ap (λ (t : List ℕ). also t (old.seen.sent c))
          (sent-append c (turns_acts site 1 first_state r.turns) (puts (ended (length r.turns) status) ∷ []) ∙ append-nil (sent_in c (turns_acts site 1 first_state r.turns)));
      legal = legal site r.turns lawful r.run.turns;
      stops = r.run.stops;
      done = done-with site most status r.turns r.acts lawful r.run;
      in_range = ranged site most status r.turns r.acts lawful told.timely r.run;
      put = told.held ∙ ap (λ (h : List Recorded). also (history_text h) old.seen.held) (runs_put site (Some most) r.turns status r.acts r.run);
    }

cut-run : (site : Site) (most : ℕ) (old new : Outer) → IsLawful site.meaning → BreaksAtEnd site most old new → IsCutRun site most old new
cut-run site most old new lawful b =
    let mid = b.between in
    let told = b.tells in
    let only = b.others in
    let first = turns_acts site 1 first_state b.turns in
    let last = ended (length b.turns) b.status in
    let text : history_text (history_of site b.turns ++ last ∷ []) ≡ history_text (put_in first) ++ entry_text last =
    flat_map-append entry_text (history_of site b.turns) (last ∷ [])
    ∙ (λ i. history_text (turns-puts site 1 first_state b.turns i) ++ append-nil (entry_text last) i) in
    record {
      turns = b.turns;
      status = b.status;
      few = few-turns site most b.status b.turns b.run.stops;
      given = record {
        knocks = subst (λ (left : Option (List TraceKnock)). AreKnocks site 1 first_state b.turns old.seen.telling.left left)
            (sym (ap (λ (s : Seen). s.telling.left) only.seen)) told.knocks;
        moments = subst (λ (s : Source). Gives (moments_of b.turns) old.clock s) (sym only.clock) told.moments;
        words = subst (λ (s : Source). Gives (words_of b.turns) old.words s) (sym only.words) told.words;
      };
      sent = λ c. ap (λ (s : Seen). s.sent c) only.seen ∙ told.sent c;
      legal = legal site b.turns lawful b.run.turns;
      stops = b.run.stops;
      done = done-with site most b.status b.turns b.acts lawful b.run;
      in_range = ranged site most b.status b.turns b.acts lawful told.timely b.run;
      put = subst (λ (t : List ℕ). Front t old.seen.held new.seen.held) (sym text)
          (Front-after (history_text (put_in first)) (entry_text last) old.seen.held mid.seen.held new.seen.held told.held b.line);
    }

-- ---- any

by-stop : (site : Site) (most : ℕ) (old new : Outer) → IsLawful site.meaning → PartsRise site.meaning → (b : BreaksInTurn site most old new)
    → StopsIn site (length b.turns + 1) (after_turns site 1 first_state b.turns) (let h = b.last in h.coming) (let h = b.last in h.moments)
    (let m = b.between in m.seen) new.seen
    → IsBetweenTurns site most old new ⊎ IsWithinTurn site most old new ⊎ IsCutRun site most old new
by-stop site most old new lawful rises b (at_knock none nothing still silent f) = inl (asked-between site most old new lawful b still silent f)
by-stop site most old new lawful rises b (behind knocked k st) = inr (inl (within site most old new lawful rises b knocked k st))

broken : (site : Site) (most : ℕ) (old new : Outer) → IsLawful site.meaning → PartsRise site.meaning → Breaks site most old new
    → IsBetweenTurns site most old new ⊎ IsWithinTurn site most old new ⊎ IsCutRun site most old new
broken site most old new lawful rises (unmade e) = inl (unmade-between site most old new lawful e)
broken site most old new lawful rises (in_turn b) = by-stop site most old new lawful rises b (let h = b.last in h.stops)
broken site most old new lawful rises (at_end b) = inr (inr (cut-run site most old new lawful b))

pub served_begins_legal : ServedBeginsLegal
served_begins_legal site most Idle old new lawful rises s = legal-run site most 0 old new lawful s.0
served_begins_legal site most TurnsSpent old new lawful rises s = legal-run site most 3 old new lawful s.0
served_begins_legal site most Outside old new lawful rises s = broken site most old new lawful rises s.0
served_begins_legal site most Memory old new lawful rises s = broken site most old new lawful rises s.0
