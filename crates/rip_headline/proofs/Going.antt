-- How far a session goes that is given the same in two runs.
use Rattle.std.proofs.Common.{◌≡◌, inl, inr, ℕ, suc, ◌≤◌, Bool, true, false, cond, not, ◌&&◌, ◌||◌, eqb, List, [], ◌∷◌, ◌++◌, length, map, Option, Some, None, refl, sym, ap, ◌∙◌, subst, arith, append-nil, length-append}
use Rattle.std.specs.Prelude.{option_map}
use Rattle.std.specs.List.{list_any}
use Rattle.std.proofs.lemmas.Bool.{false≢true, eq-eqb, eqb-true, and_parts}
use Rattle.rip_wire.specs.Batches.{Contents}
use Rattle.rip_wire.specs.Reasons.{reason_of}
use Rattle.rip_log.specs.Entries.{Recorded, opened, admitted, served, done, closed, ended}
use Rattle.rip_history.specs.Parts.{Fact, passes, serves, finishes, IsLawful, Meaning, Part, ends_batch, serves_call, with_lack}
use Rattle.rip_history.specs.Requests.{served_in}
use Rattle.rip_history.specs.Run.{Coming, Site, first_state, stage_of}
use Rattle.rip_history.specs.Runs.{AreTurns, after_turns}
use Rattle.rip_history.specs.Sessions.{Agree, Deed, Distant, IsFrontOf, IsSessionOf, admission, batches_in, come_by, comes_by, deed_of, deeds_in, deeds_of, distant, given_in, is_deed, opening_in, story_in, turns_in}
use Rattle.rip_history.specs.Stages.{Stage, finishes_batch}
use Rattle.rip_history.specs.Standings.{has_done, is_busy, standing_of}
use Rattle.rip_history.specs.declared.standing.Standing.{Standing}
use Rattle.rip_history.proofs.ComeLemmas.{EndIsLast, end_is_last, is_end}
use Rattle.rip_law_history.specs.Alone.{IsGivenAlike, said_after, said_in}
use Rattle.rip_law_history.specs.Legal.{course_turns, history_of}
use Rattle.rip_law_history.proofs.AloneLemmas.{runs_isolate}
use Rattle.rip_law_history.proofs.EndLemmas.{runs_end}
use Rattle.rip_law_history.proofs.FitLemmas.{Fits, none_some, whole_of}
use Rattle.rip_law_history.proofs.WholeRunLemmas.{run_fits, runs_are_courses}
use Rattle.rip_law_history.proofs.StandLemmas.{at}
use Rattle.rip_law_history.proofs.ViewLemmas.{seen}
use Rattle.rip_headline.specs.Alike.{DoneGoNoFurther, EndedAreAlike, IsStopped, ShorterStopped}

-- ---- the end of the last batch

-- an entry of a story in which this batch is done
abbrev is_last : ℕ → Distant → Bool
is_last last d = eqb d.batch last && ends_batch d.fact

-- nothing stands behind such a one
abbrev IsClosed : ℕ → List Distant → Type 0
IsClosed last [] = Unit {0}
IsClosed last (d ∷ ds) = (is_last last d ≡ true → ds ≡ []) × IsClosed last ds

-- so it is of what parts make behind whose end nothing comes
abbrev told : List ℕ → List Part → List Distant
told turns ps = map (distant turns) (deeds_of turns ps)

behind : (last : ℕ) (p : Part) (ps : List Part) → EndIsLast last (p ∷ ps) → EndIsLast last ps
behind last p ps h xs q ys e same ends = h (p ∷ xs) q ys (ap (λ (t : List Part). p ∷ t) e) same ends

closed-step : (last : ℕ) (turns : List ℕ) (p : Part) (qs : List Part) (b : Bool) → (is_end last p ≡ true → told turns qs ≡ [])
    → IsClosed last (told turns qs) → IsClosed last (told turns (cond b (p ∷ qs) []))
closed-step last turns p qs false first rest = tt
closed-step last turns p qs true first rest = by (is_deed p.fact)
  where
    by : (c : Bool) → IsClosed last (map (distant turns) (cond c (deed_of turns p ∷ deeds_of turns qs) (deeds_of turns qs)))
    by true = (first, rest)
    by false = rest

closed-told : (last u : ℕ) (turns : List ℕ) (ps : List Part) → EndIsLast last ps → IsClosed last (told turns (come_by u turns ps))
closed-told last u turns [] h = tt
closed-told last u turns (p ∷ ps) h =
    closed-step last turns p (come_by u turns ps) (comes_by u p.cost (admission turns p)) first (closed-told last u turns ps (behind last p ps h))
  where
    first : is_end last p ≡ true → told turns (come_by u turns ps) ≡ []
    first e =
        let both = and_parts (eqb p.batch last) (ends_batch p.fact) e in
        ap (λ (t : List Part). told turns (come_by u turns t)) (h [] p ps refl (eqb-true p.batch last both.0) both.1)

-- where the batch is done in parts, it is done in what they make
no-end : (b c : Bool) → ((b && false) || c) ≡ true → c ≡ true
no-end true c h = h
no-end false c h = h

or-step : (b c d : Bool) → (c ≡ true → d ≡ true) → (b || c) ≡ true → (b || d) ≡ true
or-step true c d f h = refl
or-step false c d f h = f h

done-step : (last : ℕ) (turns : List ℕ) (p : Part) (ds : List Deed) (any : Bool) (f : Fact) → p.fact ≡ f
    → (any ≡ true → list_any (is_last last) (map (distant turns) ds) ≡ true) → (is_end last p || any) ≡ true
    → list_any (is_last last) (map (distant turns) (cond (is_deed f) (deed_of turns p ∷ ds) ds)) ≡ true
done-step last turns p ds any passes e rest h =
    rest (no-end (eqb p.batch last) any (ap (λ (f : Fact). (eqb p.batch last && ends_batch f) || any) (sym e) ∙ h))
done-step last turns p ds any (serves number name args) e rest h =
    or-step (is_end last p) any (list_any (is_last last) (map (distant turns) ds)) rest h
done-step last turns p ds any (finishes how) e rest h =
    or-step (is_end last p) any (list_any (is_last last) (map (distant turns) ds)) rest h

done-told : (last : ℕ) (turns : List ℕ) (ps : List Part) → finishes_batch last ps ≡ true → list_any (is_last last) (told turns ps) ≡ true
done-told last turns [] h = absurd (false≢true h)
done-told last turns (p ∷ ps) h =
    done-step last turns p (deeds_of turns ps) (finishes_batch last ps) p.fact refl (done-told last turns ps) h

-- and behind that there is no more
not-none : (x : Distant) (xs : List Distant) → x ∷ xs ≡ [] → ⊥
not-none x xs e = omega (arith, ap length e)

right-none : (xs ys : List Distant) → xs ++ ys ≡ [] → ys ≡ []
right-none [] ys e = e
right-none (x ∷ xs) ys e = absurd (not-none x (xs ++ ys) e)

none-more : (last : ℕ) (xs more : List Distant) → IsClosed last (xs ++ more) → list_any (is_last last) xs ≡ true → more ≡ []
none-more last [] more h e = absurd (false≢true e)
none-more last (x ∷ xs) more h e = by (is_last last x) refl e (none-more last xs more h.1)
  where
    by : (b : Bool) → is_last last x ≡ b → (b || list_any (is_last last) xs) ≡ true → (list_any (is_last last) xs ≡ true → more ≡ []) → more ≡ []
    by true is e later = right-none xs more (h.0 is)
    by false is e later = later e

-- ---- a session of a run

closed-story : (m : Meaning) (u : ℕ) (h : List Recorded) (n : ℕ) → IsLawful m → IsSessionOf m u h n
    → IsClosed (length (batches_in n h)) (story_in n h)
closed-story m u h n lawful s =
    let bs = batches_in n h in
    let gs = given_in n h in
    subst (λ (ds : List Deed). IsClosed (length bs) (map (distant (turns_in n h)) ds)) (sym s.deeds)
    (closed-told (length bs) u (turns_in n h) (with_lack s.lacking (m s.seed s.time bs gs))
    (end_is_last (length bs) s.lacking (m s.seed s.time bs gs) (lawful.last s.seed s.time bs gs) s.may_lack))

-- how it stands, and that where it is not busy its last batch is done in its story
record Sits (n : ℕ) (h : List Recorded) : Type 0 where
  standing : Standing
  is : standing_of n h ≡ Some standing
  done : is_busy standing ≡ false → list_any (is_last (length (batches_in n h))) (story_in n h) ≡ true

back : (b : Bool) → false ≡ not b → b ≡ true
back true e = refl
back false e = absurd (false≢true e)

sits-at : (m : Meaning) (u : ℕ) (h : List Recorded) (n : ℕ) (start : ℕ × ℕ) → opening_in n h ≡ Some start
    → (o : Option Stage) → Fits m u (seen n h) o → Sits n h
sits-at m u h n start opening None k = absurd (none_some start (sym k.opening ∙ opening))
sits-at m u h n start opening (Some st) k = record {
  standing = k.standing;
  is = k.is;
  done = λ idle.
      let x = k.stands in
      let last = length st.batches in
      let parts = at (whole_of m st) st.lacking st.units last in
      let any : list_any (is_last last) (story_in n h) ≡ true =
      ap (λ (ds : List Deed). list_any (is_last last) (map (distant (turns_in n h)) ds)) x.deeds
      ∙ done-told last (turns_in n h) parts (back (finishes_batch last parts) (sym idle ∙ x.busy)) in
      ap (λ (bs : List Contents). list_any (is_last (length bs)) (story_in n h)) k.batches ∙ any;
}

sits : (site : Site) (ts : List Coming) (n : ℕ) (start : ℕ × ℕ) → IsLawful site.meaning → AreTurns site 1 first_state ts
    → opening_in n (history_of site ts) ≡ Some start → Sits n (history_of site ts)
sits site ts n start lawful turns opening =
    let end = after_turns site 1 first_state ts in
    let fit = run_fits site ts lawful turns in
    sits-at site.meaning (length ts) (history_of site ts) n start opening (stage_of n end.stages) (fit.each n)

closed-in : (site : Site) (ts : List Coming) (n : ℕ) (start : ℕ × ℕ) → IsLawful site.meaning → AreTurns site 1 first_state ts
    → opening_in n (history_of site ts) ≡ Some start → IsClosed (length (batches_in n (history_of site ts))) (story_in n (history_of site ts))
closed-in site ts n start lawful turns opening =
    let c = runs_are_courses site ts lawful turns in
    closed-story site.meaning (length (course_turns 1 ts)) (history_of site ts) n lawful (c.sessions n start opening)

-- where it is not busy in the one, it does no more in the other
no-more : (site other_site : Site) (ts other_ts : List Coming) (n k : ℕ) → IsLawful site.meaning → other_site.meaning ≡ site.meaning
    → AreTurns other_site 1 first_state other_ts → IsGivenAlike (history_of site ts) (history_of other_site other_ts) n k
    → list_any (is_last (length (batches_in n (history_of site ts)))) (story_in n (history_of site ts)) ≡ true
    → (more : List Distant) → story_in k (history_of other_site other_ts) ≡ story_in n (history_of site ts) ++ more → more ≡ []
no-more site other_site ts other_ts n k lawful same turns g any more e =
    let last = length (batches_in n (history_of site ts)) in
    none-more last (story_in n (history_of site ts)) more
    (subst (IsClosed last) e
    (subst (λ (bs : List Contents). IsClosed (length bs) (story_in k (history_of other_site other_ts))) (sym g.batches)
    (closed-in other_site other_ts k g.start (subst IsLawful (sym same) lawful) turns g.other_opening))) any

idle : (s : Standing) → s.done ≡ Some s.last → is_busy s ≡ false
idle s e = ap (λ (o : Option ℕ). not (has_done o s.last)) e ∙ ap not (eq-eqb s.last s.last refl)

pub done_go_no_further : DoneGoNoFurther
done_go_no_further site other_site ts other_ts n k lawful same turns other_turns g left =
    by (let d = runs_isolate site other_site ts other_ts n k lawful same turns other_turns g in d.story)
  where
    here : List Distant
    here = story_in n (history_of site ts)

    there : List Distant
    there = story_in k (history_of other_site other_ts)

    any : list_any (is_last (length (batches_in n (history_of site ts)))) here ≡ true
    any = let s = sits site ts n g.start lawful turns g.opening in s.done (idle s.standing (left s.standing s.is))

    by : Agree here there → IsFrontOf there here
    by (inl (more, e)) =
        let none = no-more site other_site ts other_ts n k lawful same other_turns g any more e in
        ([], sym (append-nil there ∙ e ∙ ap (λ (t : List Distant). here ++ t) none ∙ append-nil here))
    by (inr f) = f

pub shorter_stopped : ShorterStopped
shorter_stopped site other_site ts other_ts n k d more lawful same turns other_turns g longer =
    by (sits site ts n g.start lawful turns g.opening)
  where
    by : Sits n (history_of site ts) → IsStopped n (history_of site ts)
    by s = choose (is_busy s.standing) refl
      where
        choose : (b : Bool) → is_busy s.standing ≡ b → IsStopped n (history_of site ts)
        choose true e = record { standing = s.standing; is = s.is; busy = e }
        choose false e = absurd (not-none d more (no-more site other_site ts other_ts n k lawful same other_turns g (s.done e) (d ∷ more) longer))

-- ---- two runs that stop with 0

-- two lists that are fronts of each other, or that agree and are as long, are one
none-right : {A : Type 0} (xs ys : List A) → length (xs ++ ys) ≡ length xs → ys ≡ []
none-right xs [] e = refl
none-right xs (y ∷ ys) e = absurd (omega (arith, e, length-append xs (y ∷ ys)))

front-one : {A : Type 0} (xs ys : List A) → IsFrontOf xs ys → length xs ≡ length ys → xs ≡ ys
front-one xs ys (more, e) same =
    sym (e ∙ ap (λ (t : List _). xs ++ t) (none-right xs more (sym (ap length e) ∙ sym same)) ∙ append-nil xs)

agree-one : {A : Type 0} (xs ys : List A) → Agree xs ys → length xs ≡ length ys → xs ≡ ys
agree-one xs ys (inl f) same = front-one xs ys f same
agree-one xs ys (inr f) same = sym (front-one ys xs f (sym same))

front-length : {A : Type 0} (xs ys : List A) → IsFrontOf xs ys → length xs ≤ length ys
front-length xs ys (more, e) = omega (arith, ap length e, length-append xs more)

flip : {A : Type 0} (xs ys : List A) → Agree xs ys → Agree ys xs
flip xs ys (inl h) = inr h
flip xs ys (inr h) = inl h

-- a story tells how many calls were served and how many batches were done
abbrev pub counted : (Fact → Bool) → List Distant → ℕ
counted test [] = 0
counted test (d ∷ ds) = cond (test d.fact) (suc (counted test ds)) (counted test ds)

abbrev pub count_in : (Fact → Bool) → List ℕ → List Deed → ℕ
count_in test turns ds = counted test (map (distant turns) ds)

counts-one : {A : Type 0} (t : Bool) (test : Fact → Bool) (turns : List ℕ) (d : Deed) (ds : List Deed) (x : A) (xs : List A) → test d.fact ≡ true
    → count_in test turns ds ≡ length xs → count_in test turns (cond t (d ∷ ds) ds) ≡ length (cond t (x ∷ xs) xs)
counts-one true test turns d ds x xs is e = ap (λ (b : Bool). cond b (suc (count_in test turns ds)) (count_in test turns ds)) is ∙ ap suc e
counts-one false test turns d ds x xs is e = e

counts-none : (t : Bool) (test : Fact → Bool) (turns : List ℕ) (d : Deed) (ds : List Deed) → test d.fact ≡ false
    → count_in test turns (cond t (d ∷ ds) ds) ≡ count_in test turns ds
counts-none true test turns d ds is = ap (λ (b : Bool). cond b (suc (count_in test turns ds)) (count_in test turns ds)) is
counts-none false test turns d ds is = refl

pub given_counted : (n : ℕ) (turns : List ℕ) (h : List Recorded) → count_in serves_call turns (deeds_in n h) ≡ length (given_in n h)
given_counted n turns [] = refl
given_counted n turns (opened turn session id seed time ∷ h) = given_counted n turns h
given_counted n turns (admitted turn session b ∷ h) = given_counted n turns h
given_counted n turns (served turn session number k name args time reply ∷ h) =
    counts-one (eqb session n) serves_call turns (record { turn = turn; batch = number; fact = serves k name args }) (deeds_in n h)
    (record { time = time; reply = reply }) (given_in n h) refl (given_counted n turns h)
given_counted n turns (done turn session number how ∷ h) =
    counts-none (eqb session n) serves_call turns (record { turn = turn; batch = number; fact = finishes how }) (deeds_in n h) refl ∙ given_counted n turns h
given_counted n turns (closed turn session ∷ h) = given_counted n turns h
given_counted n turns (ended turn status ∷ h) = given_counted n turns h

said-counted : (n : ℕ) (turns : List ℕ) (before h : List Recorded) → count_in ends_batch turns (deeds_in n h) ≡ length (said_after n before h)
said-counted n turns before [] = refl
said-counted n turns before (opened turn session id seed time ∷ h) = said-counted n turns (before ++ opened turn session id seed time ∷ []) h
said-counted n turns before (admitted turn session b ∷ h) = said-counted n turns (before ++ admitted turn session b ∷ []) h
said-counted n turns before (served turn session number k name args time reply ∷ h) =
    counts-none (eqb session n) ends_batch turns (record { turn = turn; batch = number; fact = serves k name args }) (deeds_in n h) refl
    ∙ said-counted n turns (before ++ served turn session number k name args time reply ∷ []) h
said-counted n turns before (done turn session number how ∷ h) =
    let now = before ++ done turn session number how ∷ [] in
    counts-one (eqb session n) ends_batch turns (record { turn = turn; batch = number; fact = finishes how }) (deeds_in n h)
    (record { number = number; ended = option_map reason_of how; served = served_in n number now }) (said_after n now h) refl
    (said-counted n turns now h)
said-counted n turns before (closed turn session ∷ h) = said-counted n turns (before ++ closed turn session ∷ []) h
said-counted n turns before (ended turn status ∷ h) = said-counted n turns (before ++ ended turn status ∷ []) h

pub ended_are_alike : EndedAreAlike
ended_are_alike site other_site most other_most ts other_ts acts other_acts n k lawful same run other_run g = record {
  story = story;
  given = agree-one (given_in n history) (given_in k other) g.given
      (sym (given_counted n (turns_in n history) history) ∙ ap (counted serves_call) story ∙ given_counted k (turns_in k other) other);
  said = agree-one (said_in n history) (said_in k other)
      (let d = runs_isolate site other_site ts other_ts n k lawful same run.turns other_run.turns g in d.said)
      (sym (said-counted n (turns_in n history) [] history) ∙ ap (counted ends_batch) story ∙ said-counted k (turns_in k other) [] other);
}
  where
    history : List Recorded
    history = history_of site ts

    other : List Recorded
    other = history_of other_site other_ts

    other_lawful : IsLawful other_site.meaning
    other_lawful = subst IsLawful (sym same) lawful

    turned : IsGivenAlike other history k n
    turned = record {
      start = g.start;
      opening = g.other_opening;
      other_opening = g.opening;
      batches = sym g.batches;
      given = flip (given_in n history) (given_in k other) g.given;
      calm = g.other_calm;
      other_calm = g.calm;
    }

    back_front : IsFrontOf (story_in k other) (story_in n history)
    back_front =
        done_go_no_further site other_site ts other_ts n k lawful same run.turns other_run.turns g
        (let ends = runs_end site most ts acts lawful in ends.0 run n)

    front : IsFrontOf (story_in n history) (story_in k other)
    front =
        done_go_no_further other_site site other_ts ts k n other_lawful (sym same) other_run.turns run.turns turned
        (let ends = runs_end other_site other_most other_ts other_acts other_lawful in ends.0 other_run k)

    story : story_in n history ≡ story_in k other
    story =
        front-one (story_in n history) (story_in k other) front
        (omega (arith, front-length (story_in n history) (story_in k other) front, front-length (story_in k other) (story_in n history) back_front))
