-- When a session would have gone further.
use Rattle.std.proofs.Common.{◌≡◌, ◌⊎◌, inl, inr, ℕ, zero, suc, ◌+◌, ◌-◌, ◌/◌, ◌≤◌, ◌<◌, Bool, true, false, cond, not, ◌&&◌, ◌||◌, eqb, ltb, leb, List, [], ◌∷◌, ◌++◌, length, map, take, drop, Option, Some, None, refl, sym, ap, ◌∙◌, subst, arith, append-nil, append_assoc, length-append}
use Rattle.std.specs.Prelude.{slice_get, unwrap_or}
use Rattle.std.specs.List.{AllByRecursion, list_any}
use Rattle.std.proofs.lemmas.Bool.{false≢true, eqb-false, leb-false, ltb-false, or_parts, or_right}
use Rattle.std.proofs.lemmas.List.Folds.{list_any-append}
use Rattle.rip_wire.specs.Batches.{Contents}
use Rattle.rip_log.specs.Entries.{Recorded}
use Rattle.rip_history.specs.Parts.{Fact, passes, serves, finishes, Given, IsLack, IsLawful, Lacking, MayLack, Meaning, Part, before, ends_session, has_ended, lacking_part, served_count, serves_call, with_lack}
use Rattle.rip_history.specs.Run.{Coming, Site, first_state, stage_of}
use Rattle.rip_history.specs.Runs.{AreTurns, after_turns}
use Rattle.rip_history.specs.Sessions.{Agree, Deed, Distant, IsFrontOf, batches_in, deed_of, deeds_of, distant, given_in, is_deed, is_want, opening_in, story_in, turns_in, wants_memory}
use Rattle.rip_history.specs.Stages.{Stage, come, finishes_batch, has_come}
use Rattle.rip_history.specs.Standings.{is_busy}
use Rattle.rip_history.specs.Turns.{turn_at}
use Rattle.rip_history.proofs.ComeLemmas.{HasCome, Spends, all_right, come_all, come_bounds, come_splits, done_leaves_none, left}
use Rattle.rip_history.proofs.SessionLemmas.{deeds_join}
use Rattle.rip_law_history.specs.Legal.{history_of}
use Rattle.rip_law_history.proofs.FitLemmas.{Fits, Has, none_some, whole_of}
use Rattle.rip_law_history.proofs.WholeMadeLemmas.{all-maps}
use Rattle.rip_law_history.proofs.WholeRunLemmas.{run_fits}
use Rattle.rip_law_history.proofs.StandLemmas.{at}
use Rattle.rip_law_history.proofs.ViewLemmas.{seen}
use Rattle.rip_headline.specs.LeftToDo.{AreRising, IsNoEarlier, ShorterIsShort}
use Rattle.rip_headline.proofs.Going.{counted, given_counted}

-- ---- a story, by parts

-- a part without its turn
abbrev distance_of : Part → Distant
distance_of p = record { distance = (p.cost - 1) / 1000; batch = p.batch; fact = p.fact }

abbrev distances : List Part → List Distant
distances [] = []
distances (p ∷ ps) = cond (is_deed p.fact) (distance_of p ∷ distances ps) (distances ps)

far : (t cost : ℕ) → turn_at t cost - t ≡ (cost - 1) / 1000
far t cost = omega arith

distant-part : (turns : List ℕ) (p : Part) (ds : List Deed) (b : Bool)
    → map (distant turns) (cond b (deed_of turns p ∷ ds) ds) ≡ cond b (distance_of p ∷ map (distant turns) ds) (map (distant turns) ds)
distant-part turns p ds true =
    (λ i. record { distance = far (unwrap_or (slice_get turns p.batch) 0) p.cost i; batch = p.batch; fact = p.fact } ∷ map (distant turns) ds)
distant-part turns p ds false = refl

distants : (turns : List ℕ) (ps : List Part) → map (distant turns) (deeds_of turns ps) ≡ distances ps
distants turns [] = refl
distants turns (p ∷ ps) =
    distant-part turns p (deeds_of turns ps) (is_deed p.fact)
    ∙ ap (λ (ds : List Distant). cond (is_deed p.fact) (distance_of p ∷ ds) ds) (distants turns ps)

distances-step : (p : Part) (ds ws more : List Distant) (b : Bool) → ws ≡ ds ++ more
    → cond b (distance_of p ∷ ws) ws ≡ cond b (distance_of p ∷ ds) ds ++ more
distances-step p ds ws more true e = ap (λ t. distance_of p ∷ t) e
distances-step p ds ws more false e = e

distances-join : (ps more : List Part) → distances (ps ++ more) ≡ distances ps ++ distances more
distances-join [] more = refl
distances-join (p ∷ ps) more =
    distances-step p (distances ps) (distances (ps ++ more)) (distances more) (is_deed p.fact) (distances-join ps more)

-- the first entry is that of one of the parts
first-due : (P : Part → Type 0) (ps : List Part) (d : Distant) (more : List Distant) → AllByRecursion P ps → distances ps ≡ d ∷ more
    → (q : Part) × (distance_of q ≡ d) × P q
first-due P [] d more all e = absurd (omega (arith, ap length e))
first-due P (p ∷ ps) d more all e = by (is_deed p.fact) e (first-due P ps d more all.1)
  where
    head : List Distant → Distant
    head [] = d
    head (x ∷ xs) = x

    by : (b : Bool) → cond b (distance_of p ∷ distances ps) (distances ps) ≡ d ∷ more
        → (distances ps ≡ d ∷ more → (q : Part) × (distance_of q ≡ d) × P q) → (q : Part) × (distance_of q ≡ d) × P q
    by true is later = (p, ap head is, all.0)
    by false is later = later is

-- it tells how many calls were served
counted-step : (f : Fact) (d : Distant) (ds : List Distant) (r : ℕ) → d.fact ≡ f → counted serves_call ds ≡ r
    → counted serves_call (cond (is_deed f) (d ∷ ds) ds) ≡ cond (serves_call f) (suc r) r
counted-step passes d ds r e is = is
counted-step (serves number name args) d ds r e is =
    ap (λ (f : Fact). cond (serves_call f) (suc (counted serves_call ds)) (counted serves_call ds)) e ∙ ap suc is
counted-step (finishes how) d ds r e is =
    ap (λ (f : Fact). cond (serves_call f) (suc (counted serves_call ds)) (counted serves_call ds)) e ∙ is

counted-parts : (ps : List Part) → counted serves_call (distances ps) ≡ served_count ps
counted-parts [] = refl
counted-parts (p ∷ ps) = counted-step p.fact (distance_of p) (distances ps) (served_count ps) refl (counted-parts ps)

counted-join : (ds es : List Distant) → counted serves_call ds ≤ counted serves_call (ds ++ es)
counted-join [] es = omega arith
counted-join (d ∷ ds) es = by (serves_call d.fact) (counted-join ds es)
  where
    by : (b : Bool) → counted serves_call ds ≤ counted serves_call (ds ++ es)
        → cond b (suc (counted serves_call ds)) (counted serves_call ds) ≤ cond b (suc (counted serves_call (ds ++ es))) (counted serves_call (ds ++ es))
    by true le = omega (arith, le)
    by false le = le

-- ---- memory that is wanting shows

all-come : (last units : ℕ) (xs : List Part) (x : Part) → has_ended xs ≡ false → has_ended (come last units (xs ++ x ∷ [])) ≡ true
    → come last units (xs ++ x ∷ []) ≡ xs ++ x ∷ []
all-come last units [] x lives ends = by (has_come last units x) ends
  where
    by : (b : Bool) → has_ended (cond b (x ∷ []) []) ≡ true → cond b (x ∷ []) [] ≡ x ∷ []
    by true h = refl
    by false h = absurd (false≢true h)
all-come last units (y ∷ ys) x lives ends =
    by (has_come last units y) (ends_session y.fact) (or_parts (ends_session y.fact) (has_ended ys) lives).0 ends
    (all-come last units ys x (or_parts (ends_session y.fact) (has_ended ys) lives).1)
  where
    rest : List Part
    rest = come last units (ys ++ x ∷ [])

    by : (b c : Bool) → ends_session y.fact ≡ false → has_ended (cond b (y ∷ rest) []) ≡ true → (has_ended rest ≡ true → rest ≡ ys ++ x ∷ [])
        → cond b (y ∷ rest) [] ≡ y ∷ ys ++ x ∷ []
    by true c none h later = ap (λ (t : List Part). y ∷ t) (later (sym (ap (λ (e : Bool). e || has_ended rest) none) ∙ h))
    by false c none h later = absurd (false≢true h)

lack-shows : (last units : ℕ) (turns : List ℕ) (l : Lacking) (ps : List Part) → IsLack l ps
    → has_ended (come last units (with_lack (Some l) ps)) ≡ true
    → list_any (λ (d : Deed). is_want d.fact) (deeds_of turns (come last units (with_lack (Some l) ps))) ≡ true
lack-shows last units turns l ps k ends =
    ap (λ (qs : List Part). list_any (λ (d : Deed). is_want d.fact) (deeds_of turns qs)) (all-come last units (before l ps) (lacking_part l) k.lives ends)
    ∙ ap (list_any (λ (d : Deed). is_want d.fact)) (deeds_join turns (before l ps) (lacking_part l ∷ []))
    ∙ list_any-append (λ (d : Deed). is_want d.fact) (deeds_of turns (before l ps)) (deed_of turns (lacking_part l) ∷ [])
    ∙ or_right (list_any (λ (d : Deed). is_want d.fact) (deeds_of turns (before l ps))) true refl

-- ---- a session of a run in which no memory is wanting

-- its story is that of the parts that have come, and where some are left its last batch got all units since its admission
record Went (m : Meaning) (u n : ℕ) (h : List Recorded) (start : ℕ × ℕ) : Type 0 where
  units : ℕ
  story : story_in n h ≡ distances (come (length (batches_in n h)) units (m start.0 start.1 (batches_in n h) (given_in n h)))
  spends : ¬ (left (length (batches_in n h)) units (m start.0 start.1 (batches_in n h) (given_in n h)) ≡ [])
      → Spends u (turns_in n h) (length (batches_in n h)) units

calm-lack : (m : Meaning) (u n : ℕ) (h : List Recorded) (st : Stage) → Has m u (seen n h) st → wants_memory n h ≡ false → st.lacking ≡ None
calm-lack m u n h st k calm = by st.lacking refl
  where
    whole : List Part
    whole = whole_of m st

    last : ℕ
    last = length st.batches

    by : (o : Option Lacking) → st.lacking ≡ o → o ≡ None
    by None e = refl
    by (Some l) e =
        let x = k.stands in
        let ends : has_ended (come last st.units (with_lack (Some l) whole)) ≡ true =
        sym (ap (λ (o : Option Lacking). has_ended (at whole o st.units last)) e) ∙ x.lack l e in
        let shows = lack-shows last st.units (turns_in n h) l whole (subst (λ (o : Option Lacking). MayLack o whole) e x.may) ends in
        absurd (false≢true (sym calm ∙ ap (list_any (λ (d : Deed). is_want d.fact))
        (x.deeds ∙ ap (λ (o : Option Lacking). deeds_of (turns_in n h) (at whole o st.units last)) e) ∙ shows))

went-at : (m : Meaning) → IsLawful m → (u n : ℕ) (h : List Recorded) (start : ℕ × ℕ) → opening_in n h ≡ Some start → wants_memory n h ≡ false
    → (o : Option Stage) → Fits m u (seen n h) o → Went m u n h start
went-at m lawful u n h start opening calm None k = absurd (none_some start (sym k.opening ∙ opening))
went-at m lawful u n h start opening calm (Some st) k = record {
  units = st.units;
  story =
      ap (map (distant (turns_in n h))) (let x = k.stands in x.deeds)
      ∙ ap (λ (o : Option Lacking). map (distant (turns_in n h)) (deeds_of (turns_in n h) (at whole o st.units last))) none
      ∙ distants (turns_in n h) (come last st.units whole)
      ∙ sym (λ i. distances (come (length (k.batches i)) st.units (m (pair i).0 (pair i).1 (k.batches i) (k.given i))));
  spends = λ some.
      subst (λ (bs : List Contents). Spends u (turns_in n h) (length bs) st.units) (sym k.batches)
      (going (λ e. some ((λ i. left (length (k.batches i)) st.units (m (pair i).0 (pair i).1 (k.batches i) (k.given i))) ∙ e)));
}
  where
    whole : List Part
    whole = whole_of m st

    last : ℕ
    last = length st.batches

    pair : start ≡ (st.seed, st.time)
    pair = ap (λ (o : Option (ℕ × ℕ)). unwrap_or o start) (sym opening ∙ k.opening)

    none : st.lacking ≡ None
    none = calm-lack m u n h st k calm

    going : ¬ (left last st.units whole ≡ []) → Spends u (turns_in n h) last st.units
    going some = by (finishes_batch last (come last st.units whole)) refl
      where
        busy : is_busy k.standing ≡ not (finishes_batch last (come last st.units whole))
        busy =
            (let x = k.stands in x.busy)
            ∙ ap (λ (o : Option Lacking). not (finishes_batch last (at whole o st.units last))) none

        by : (b : Bool) → finishes_batch last (come last st.units whole) ≡ b → Spends u (turns_in n h) last st.units
        by true e = absurd (some (done_leaves_none last st.units whole (lawful.last st.seed st.time st.batches st.given) e))
        by false e = (let x = k.stands in x.spends (busy ∙ ap not e))

went : (site : Site) (ts : List Coming) (m : Meaning) (n : ℕ) (start : ℕ × ℕ) → site.meaning ≡ m → IsLawful m → AreTurns site 1 first_state ts
    → opening_in n (history_of site ts) ≡ Some start → wants_memory n (history_of site ts) ≡ false → Went m (length ts) n (history_of site ts) start
went site ts m n start same lawful turns opening calm =
    let end = after_turns site 1 first_state ts in
    let own = subst IsLawful (sym same) lawful in
    let fit = run_fits site ts own turns in
    subst (λ (m : Meaning). Went m (length ts) n (history_of site ts) start) same
    (went-at site.meaning own (length ts) n (history_of site ts) start opening calm (stage_of n end.stages) (fit.each n))

-- ---- fronts of lists

take-front : (xs ys : List Part) → take (length xs) (xs ++ ys) ≡ xs
take-front [] ys = refl
take-front (x ∷ xs) ys = ap (λ t. x ∷ t) (take-front xs ys)

take-next : (xs : List Part) (p : Part) (ys : List Part) → take (suc (length xs)) (xs ++ p ∷ ys) ≡ xs ++ p ∷ []
take-next [] p ys = refl
take-next (x ∷ xs) p ys = ap (λ t. x ∷ t) (take-next xs p ys)

take-whole : (xs : List Part) → take (suc (length xs)) xs ≡ xs
take-whole [] = refl
take-whole (x ∷ xs) = ap (λ t. x ∷ t) (take-whole xs)

take-drops : (n : ℕ) (xs : List Part) → xs ≡ take n xs ++ drop n xs
take-drops zero xs = refl
take-drops (suc n) [] = refl
take-drops (suc n) (x ∷ xs) = ap (λ t. x ∷ t) (take-drops n xs)

abbrev first-of : Part → List Part → Part
first-of p [] = p
first-of p (x ∷ xs) = x

take-all : (xs ys : List Part) → take (suc (length xs)) ys ≡ xs → ys ≡ xs
take-all [] [] e = refl
take-all [] (y ∷ ys) e = absurd (omega (arith, ap length e))
take-all (x ∷ xs) [] e = absurd (omega (arith, ap length e))
take-all (x ∷ xs) (y ∷ ys) e =
    let rest = take-all xs ys (ap (λ (t : List Part). drop 1 t) e) in
    (λ i. first-of x (e i) ∷ rest i)

-- of two fronts of one list the one is a front of the other
compare : (xs ys : List Part) (p : Part) (rest more : List Part) → ys ++ more ≡ xs ++ p ∷ rest
    → ((zs : List Part) × (xs ≡ ys ++ zs)) ⊎ ((r : List Part) × (ys ≡ xs ++ p ∷ r))
compare xs [] p rest more e = inl (xs, refl)
compare [] (y ∷ ys) p rest more e = inr (ys, λ i. first-of p (e i) ∷ ys)
compare (x ∷ xs) (y ∷ ys) p rest more e = by (compare xs ys p rest more (ap (λ (t : List Part). drop 1 t) e))
  where
    by : ((zs : List Part) × (xs ≡ ys ++ zs)) ⊎ ((r : List Part) × (ys ≡ xs ++ p ∷ r))
        → ((zs : List Part) × (x ∷ xs ≡ (y ∷ ys) ++ zs)) ⊎ ((r : List Part) × (y ∷ ys ≡ (x ∷ xs) ++ p ∷ r))
    by (inl (zs, is)) = inl (zs, sym (λ i. first-of x (e i) ∷ sym is i))
    by (inr (r, is)) = inr (r, λ i. first-of x (e i) ∷ is i)

cancel : (xs ys zs : List Distant) → xs ++ ys ≡ xs ++ zs → ys ≡ zs
cancel [] ys zs e = e
cancel (x ∷ xs) ys zs e = cancel xs ys zs (ap (λ (t : List Distant). drop 1 t) e)

all-left : (P : Part → Type 0) (xs ys : List Part) → AllByRecursion P (xs ++ ys) → AllByRecursion P xs
all-left P [] ys h = tt
all-left P (x ∷ xs) ys h = (h.0, all-left P xs ys h.1)

all-both : (P Q : Part → Type 0) (xs : List Part) → AllByRecursion P xs → AllByRecursion Q xs → AllByRecursion (λ (p : Part). P p × Q p) xs
all-both P Q [] g h = tt
all-both P Q (x ∷ xs) g h = ((g.0, h.0), all-both P Q xs g.1 h.1)

rising-right : (xs ys : List Part) → AreRising (xs ++ ys) → AreRising ys
rising-right [] ys h = h
rising-right (x ∷ xs) ys h = rising-right xs ys h.1

-- the first that is left has not come
left-stopped : (last units : ℕ) (p : Part) (ls ps : List Part) → left last units ps ≡ p ∷ ls → has_come last units p ≡ false
left-stopped last units p ls [] e = absurd (omega (arith, ap length e))
left-stopped last units p ls (x ∷ ps) e = by (has_come last units x) refl e (left-stopped last units p ls ps)
  where
    by : (b : Bool) → has_come last units x ≡ b → cond b (left last units ps) (x ∷ ps) ≡ p ∷ ls
        → (left last units ps ≡ p ∷ ls → has_come last units p ≡ false) → has_come last units p ≡ false
    by true is e later = later e
    by false is e later = subst (λ (q : Part). has_come last units q ≡ false) (ap (first-of x) e) is

-- ---- where the one stopped

-- what is due next, by the turns in which batches were admitted, comes behind this turn
record IsDueBy (u : ℕ) (turns : List ℕ) (d : Distant) : Type 0 where
  turn : ℕ
  admitted : slice_get turns d.batch ≡ Some turn
  later : u < turn + d.distance

late : (u last units cost : ℕ) (turns : List ℕ) (s : Spends u turns last units) → units < cost → u < s.a + (cost - 1) / 1000
late u last units cost turns s dear = omega (arith, dear, s.spent, s.from)

-- a part that is no earlier than the first that is left, where that is of no later batch than the last
due-part : (u last units : ℕ) (turns : List ℕ) (p q : Part) (d : Distant) → Spends u turns last units → has_come last units p ≡ false
    → IsNoEarlier p q → q.batch ≤ last → distance_of q ≡ d → IsDueBy u turns d
due-part u last units turns p q d s stopped no_earlier within is =
    let parts = or_parts (ltb p.batch last) (eqb p.batch last && leb p.cost units) stopped in
    let same : p.batch ≡ last = omega (arith, ltb-false p.batch last parts.0, no_earlier.0, within) in
    let one : q.batch ≡ last = omega (arith, ltb-false p.batch last parts.0, no_earlier.0, within) in
    subst (IsDueBy u turns) is record {
      turn = s.a;
      admitted = ap (slice_get turns) one ∙ s.admitted;
      later = late u last units q.cost turns s (dear (eqb p.batch last) same refl parts.1 (no_earlier.1 (same ∙ sym one)));
    }
  where
    dear : (b : Bool) → p.batch ≡ last → eqb p.batch last ≡ b → (b && leb p.cost units) ≡ false → p.cost ≤ q.cost → units < q.cost
    dear true same e h le = omega (arith, leb-false p.cost units h, le)
    dear false same e h le = absurd (eqb-false p.batch last e same)

-- of these parts the first have come in each: no fewer in the second, where an entry more is made
record Fronts (last : ℕ) (first second : List Part) (units more_units : ℕ) (d : Distant) (more : List Distant) : Type 0 where
  same : take (suc (length (come last units first))) first ≡ take (suc (length (come last units first))) second
  rising : AreRising second
  longer : distances (come last more_units second) ≡ distances (come last units first) ++ d ∷ more

not-nil : (p : Part) (ps : List Part) → p ∷ ps ≡ [] → ⊥
not-nil p ps e = omega (arith, ap length e)

not-front : (xs ys zs : List Part) (d : Distant) (more : List Distant) → distances ys ≡ distances xs ++ d ∷ more → xs ≡ ys ++ zs → ⊥
not-front xs ys zs d more longer front =
    let long : length (distances ys) ≡ length (distances xs) + length (d ∷ more) = ap length longer ∙ length-append (distances xs) (d ∷ more) in
    let short : length (distances xs) ≡ length (distances ys) + length (distances zs) =
    ap (λ (ps : List Part). length (distances ps)) front ∙ ap length (distances-join ys zs) ∙ length-append (distances ys) (distances zs) in
    omega (arith, long, short)

due-in : (u last : ℕ) (turns : List ℕ) (first second : List Part) (units more_units : ℕ) (d : Distant) (more : List Distant)
    → Fronts last first second units more_units d more → (¬ (left last units first ≡ []) → Spends u turns last units) → IsDueBy u turns d
due-in u last turns first second units more_units d more f spends = by (left last units first) refl
  where
    xs : List Part
    xs = come last units first

    ys : List Part
    ys = come last more_units second

    by : (ls : List Part) → left last units first ≡ ls → IsDueBy u turns d
    by [] e =
        let whole : first ≡ xs = come_splits last units first ∙ ap (λ (t : List Part). xs ++ t) e ∙ append-nil xs in
        let all : second ≡ xs =
        take-all xs second (sym f.same ∙ ap (take (suc (length xs))) whole ∙ take-whole xs) in
        absurd (not-front xs ys (left last more_units second) d more f.longer (sym all ∙ come_splits last more_units second))
    by (p ∷ ls) e = compared (compare xs ys p (drop (suc (length xs)) second) (left last more_units second) (sym (come_splits last more_units second) ∙ behind))
      where
        next : take (suc (length xs)) second ≡ xs ++ p ∷ []
        next =
            sym f.same ∙ ap (take (suc (length xs))) (come_splits last units first ∙ ap (λ (t : List Part). xs ++ t) e) ∙ take-next xs p ls

        behind : second ≡ xs ++ p ∷ drop (suc (length xs)) second
        behind =
            take-drops (suc (length xs)) second ∙ ap (λ (t : List Part). t ++ drop (suc (length xs)) second) next
            ∙ append_assoc xs (p ∷ []) (drop (suc (length xs)) second)

        compared : ((zs : List Part) × (xs ≡ ys ++ zs)) ⊎ ((r : List Part) × (ys ≡ xs ++ p ∷ r)) → IsDueBy u turns d
        compared (inl (zs, is)) = absurd (not-front xs ys zs d more f.longer is)
        compared (inr (r, is)) =
            let made : distances (p ∷ r) ≡ d ∷ more =
            cancel (distances xs) (distances (p ∷ r)) (d ∷ more) (sym (distances-join xs (p ∷ r)) ∙ sym (ap distances is) ∙ f.longer) in
            let rise : AreRising (p ∷ r ++ left last more_units second) =
            rising-right xs (p ∷ r ++ left last more_units second)
            (subst AreRising (come_splits last more_units second ∙ ap (λ (t : List Part). t ++ left last more_units second) is
            ∙ append_assoc xs (p ∷ r) (left last more_units second)) f.rising) in
            let came : AllByRecursion (HasCome last more_units) (p ∷ r) =
            all_right (HasCome last more_units) xs (p ∷ r) (subst (AllByRecursion (HasCome last more_units)) is (come_all last more_units second)) in
            let within : AllByRecursion (λ (q : Part). q.batch ≤ last) (p ∷ r) =
            all-maps (HasCome last more_units) (λ (q : Part). q.batch ≤ last) (λ q h. come_bounds last more_units q h) (p ∷ r) came in
            let no_earlier : AllByRecursion (IsNoEarlier p) (p ∷ r) =
            ((omega arith, λ h. omega arith), all-left (IsNoEarlier p) r (left last more_units second) rise.0) in
            let q = first-due (λ (q : Part). IsNoEarlier p q × (q.batch ≤ last)) (p ∷ r) d more
            (all-both (IsNoEarlier p) (λ (q : Part). q.batch ≤ last) (p ∷ r) no_earlier within) made in
            due-part u last units turns p q.0 d (spends (λ none. not-nil p ls (sym e ∙ none))) (left-stopped last units p ls first e) q.2.0 q.2.1 q.1

-- a longer story was given no less
given-more : (xs ys : List Distant) (gs hs : List Given) → counted serves_call xs ≡ length gs → counted serves_call (xs ++ ys) ≡ length hs
    → Agree gs hs → IsFrontOf gs hs
given-more xs ys gs hs a b (inl f) = f
given-more xs ys gs hs a b (inr (more, e)) =
    let none : more ≡ [] = empty more (omega (arith, ap length e, length-append hs more, a, b, counted-join xs ys)) in
    ([], sym (e ∙ ap (λ (t : List Given). hs ++ t) none ∙ append-nil hs) ∙ sym (append-nil gs))
  where
    empty : (gs : List Given) → length gs ≡ 0 → gs ≡ []
    empty [] e = refl
    empty (g ∷ gs) e = absurd (omega (arith, e))

pub shorter_is_short : ShorterIsShort
shorter_is_short site other_site ts other_ts n k d more lawful asks rise same turns other_turns g longer =
    let due = due-in (length ts) (length bs) (turns_in n history) first second w.units v.units d more
    record { same = alike; rising = rise g.start.0 g.start.1 bs (gs ++ given.0); longer = sym there ∙ longer ∙ ap (λ (t : List Distant). t ++ d ∷ more) w.story }
    w.spends in
    record { turn = due.turn; admitted = due.admitted; later = due.later }
  where
    m : Meaning
    m = site.meaning

    history : List Recorded
    history = history_of site ts

    other : List Recorded
    other = history_of other_site other_ts

    bs : List Contents
    bs = batches_in n history

    gs : List Given
    gs = given_in n history

    w : Went m (length ts) n history g.start
    w = went site ts m n g.start refl lawful turns g.opening g.calm

    v : Went m (length other_ts) k other g.start
    v = went other_site other_ts m k g.start same lawful other_turns g.other_opening g.other_calm

    served : counted serves_call (story_in n history) ≡ length gs
    served = given_counted n (turns_in n history) history

    given : IsFrontOf gs (given_in k other)
    given =
        given-more (story_in n history) (d ∷ more) gs (given_in k other) served
        (sym (ap (counted serves_call) longer) ∙ given_counted k (turns_in k other) other) g.given

    first : List Part
    first = m g.start.0 g.start.1 bs gs

    second : List Part
    second = m g.start.0 g.start.1 bs (gs ++ given.0)

    there : story_in k other ≡ distances (come (length bs) v.units second)
    there = v.story ∙ (λ i. distances (come (length (sym g.batches i)) v.units (m g.start.0 g.start.1 (sym g.batches i) (given.1 i))))

    xs : List Part
    xs = come (length bs) w.units first

    few : served_count (take (length xs) first) ≡ length gs
    few =
        ap served_count (ap (take (length xs)) (come_splits (length bs) w.units first) ∙ take-front xs (left (length bs) w.units first))
        ∙ sym (counted-parts xs) ∙ sym (ap (counted serves_call) w.story) ∙ served

    alike : take (suc (length xs)) first ≡ take (suc (length xs)) second
    alike = asks g.start.0 g.start.1 bs gs given.0 (length xs) (omega (arith, few))
