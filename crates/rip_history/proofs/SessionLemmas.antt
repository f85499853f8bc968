-- A session does the same wherever it is given the same.
use Rattle.std.proofs.Common.{◌≡◌, ◌⊎◌, inl, inr, ℕ, zero, suc, ◌-◌, ◌/◌, ◌≤◌, Bool, true, false, cond, eqb, List, [], ◌∷◌, ◌++◌, length, map, take, Option, Some, None, refl, sym, ap, ◌∙◌, subst, arith}
use Rattle.std.specs.Prelude.{slice_get, unwrap_or}
use Rattle.std.specs.List.{AllByRecursion, list_any}
use Rattle.std.proofs.lemmas.Bool.{false≢true, leb-true, le-leb, or_right}
use Rattle.std.proofs.lemmas.List.Folds.{list_any-append}
use Rattle.rip_log.specs.Entries.{Recorded, opened, admitted, served, done, closed, ended}
use Rattle.rip_history.specs.Turns.{turn_at}
use Rattle.rip_history.specs.Parts.{Fact, passes, serves, finishes, Part, Given, Meaning, serves_call, served_count, ReadsGivenInTurn, Lacking, before, IsLack, lacking_part, with_lack, MayLack}
use Rattle.rip_history.specs.Sessions.{batches_in, turns_in, given_in, Deed, deeds_in, admission, comes_by, come_by, deed_of, is_deed, deeds_of, deeds_by, IsSessionOf, is_want, wants_memory, Distant, distant, story_in, IsFrontOf, Agree, SessionsAreAlone}
use Rattle.rip_history.proofs.ComeLemmas.{ComesBy, come_by_whole, before_behind}

-- ---- fronts

-- two fronts of one list agree
longer : {A : Type 0} (x : A) (xs ys : List A) → Agree xs ys → Agree (x ∷ xs) (x ∷ ys)
longer x xs ys (inl (more, e)) = inl (more, ap (λ t. x ∷ t) e)
longer x xs ys (inr (more, e)) = inr (more, ap (λ t. x ∷ t) e)

takes-agree : {A : Type 0} (k n : ℕ) (xs : List A) → Agree (take k xs) (take n xs)
takes-agree zero n xs = inl (take n xs, refl)
takes-agree (suc k) zero xs = inr (take (suc k) xs, refl)
takes-agree (suc k) (suc n) [] = inl ([], refl)
takes-agree (suc k) (suc n) (x ∷ xs) = longer x (take k xs) (take n xs) (takes-agree k n xs)

-- ---- deeds are a front of the parts

-- how many parts come by the last turn
abbrev reached : ℕ → List ℕ → List Part → ℕ
reached last turns [] = 0
reached last turns (p ∷ ps) = cond (comes_by last p.cost (admission turns p)) (suc (reached last turns ps)) 0

come-step : (p : Part) (ps qs : List Part) (k : ℕ) (b : Bool) → qs ≡ take k ps
    → cond b (p ∷ qs) [] ≡ take (cond b (suc k) 0) (p ∷ ps)
come-step p ps qs k true e = ap (λ (t : List Part). p ∷ t) e
come-step p ps qs k false e = refl

comes-are : (last : ℕ) (turns : List ℕ) (ps : List Part) → come_by last turns ps ≡ take (reached last turns ps) ps
comes-are last turns [] = refl
comes-are last turns (p ∷ ps) =
    come-step p ps (come_by last turns ps) (reached last turns ps) (comes_by last p.cost (admission turns p)) (comes-are last turns ps)

deeds-are : (last : ℕ) (turns : List ℕ) (ps : List Part) → deeds_by last turns ps ≡ deeds_of turns (take (reached last turns ps) ps)
deeds-are last turns ps = ap (deeds_of turns) (comes-are last turns ps)

-- how many deeds serve a call
abbrev serving : List Deed → ℕ
serving [] = 0
serving (d ∷ ds) = cond (serves_call d.fact) (suc (serving ds)) (serving ds)

serving-part : (turns : List ℕ) (p : Part) (ds : List Deed) (f : Fact) → p.fact ≡ f
    → serving (cond (is_deed f) (deed_of turns p ∷ ds) ds) ≡ cond (serves_call f) (suc (serving ds)) (serving ds)
serving-part turns p ds passes e = refl
serving-part turns p ds (serves number name args) e = ap (λ (f : Fact). cond (serves_call f) (suc (serving ds)) (serving ds)) e
serving-part turns p ds (finishes how) e = ap (λ (f : Fact). cond (serves_call f) (suc (serving ds)) (serving ds)) e

serving-parts : (turns : List ℕ) (ps : List Part) → serving (deeds_of turns ps) ≡ served_count ps
serving-parts turns [] = refl
serving-parts turns (p ∷ ps) =
    serving-part turns p (deeds_of turns ps) p.fact refl ∙ ap (λ n. cond (serves_call p.fact) (suc n) n) (serving-parts turns ps)

serving-served : (b : Bool) (d : Deed) (ds : List Deed) (g : Given) (gs : List Given) → serves_call d.fact ≡ true
    → serving ds ≡ length gs → serving (cond b (d ∷ ds) ds) ≡ length (cond b (g ∷ gs) gs)
serving-served true d ds g gs calls e = ap (λ (c : Bool). cond c (suc (serving ds)) (serving ds)) calls ∙ ap suc e
serving-served false d ds g gs calls e = e

serving-done : (b : Bool) (d : Deed) (ds : List Deed) → serves_call d.fact ≡ false → serving (cond b (d ∷ ds) ds) ≡ serving ds
serving-done true d ds calls = ap (λ (c : Bool). cond c (suc (serving ds)) (serving ds)) calls
serving-done false d ds calls = refl

serving-given : (n : ℕ) (h : List Recorded) → serving (deeds_in n h) ≡ length (given_in n h)
serving-given n [] = refl
serving-given n (opened turn session id seed time ∷ h) = serving-given n h
serving-given n (admitted turn session b ∷ h) = serving-given n h
serving-given n (served turn session number k name args time reply ∷ h) =
    let d : Deed = record { turn = turn; batch = number; fact = serves k name args } in
    let g : Given = record { time = time; reply = reply } in
    serving-served (eqb session n) d (deeds_in n h) g (given_in n h) refl (serving-given n h)
serving-given n (done turn session number how ∷ h) =
    let d : Deed = record { turn = turn; batch = number; fact = finishes how } in
    serving-done (eqb session n) d (deeds_in n h) refl ∙ serving-given n h
serving-given n (closed turn session ∷ h) = serving-given n h
serving-given n (ended turn status ∷ h) = serving-given n h

-- ---- distances

-- a part without its turn
abbrev distance_of : Part → Distant
distance_of p = record { distance = (p.cost - 1) / 1000; batch = p.batch; fact = p.fact }

far : (t cost : ℕ) → turn_at t cost - t ≡ (cost - 1) / 1000
far t cost = omega arith

-- the deeds of parts without their turns
abbrev distances : List Part → List Distant
distances [] = []
distances (p ∷ ps) = cond (is_deed p.fact) (distance_of p ∷ distances ps) (distances ps)

distant-part : (turns : List ℕ) (p : Part) (ds : List Deed) (b : Bool)
    → map (distant turns) (cond b (deed_of turns p ∷ ds) ds) ≡ cond b (distance_of p ∷ map (distant turns) ds) (map (distant turns) ds)
distant-part turns p ds true =
    (λ i. record { distance = far (unwrap_or (slice_get turns p.batch) 0) p.cost i; batch = p.batch; fact = p.fact } ∷ map (distant turns) ds)
distant-part turns p ds false = refl

distants : (turns : List ℕ) (ps : List Part) → map (distant turns) (deeds_of turns ps) ≡ distances ps
distants turns [] = refl
distants turns (p ∷ ps) =
    distant-part turns p (deeds_of turns ps) (is_deed p.fact)
    ∙ ap (λ (ds : List Distant). cond (is_deed p.fact) (distance_of p ∷ ds) ds) (distants turns ps)

-- fronts of parts give fronts of these
distances-step : (p : Part) (ds ws more : List Distant) (b : Bool) → ws ≡ ds ++ more
    → cond b (distance_of p ∷ ws) ws ≡ cond b (distance_of p ∷ ds) ds ++ more
distances-step p ds ws more true e = ap (λ t. distance_of p ∷ t) e
distances-step p ds ws more false e = e

distances-join : (ps more : List Part) → distances (ps ++ more) ≡ distances ps ++ distances more
distances-join [] more = refl
distances-join (p ∷ ps) more =
    distances-step p (distances ps) (distances (ps ++ more)) (distances more) (is_deed p.fact) (distances-join ps more)

front-distances : (ps qs : List Part) → IsFrontOf ps qs → IsFrontOf (distances ps) (distances qs)
front-distances ps qs (more, e) = (distances more, ap distances e ∙ distances-join ps more)

agree-distances : (ps qs : List Part) → Agree ps qs → Agree (distances ps) (distances qs)
agree-distances ps qs (inl h) = inl (front-distances ps qs h)
agree-distances ps qs (inr h) = inr (front-distances qs ps h)

-- ---- isolation

-- ---- want of memory that the history does not show

deeds-push : (turns : List ℕ) (p : Part) (xs ys zs : List Deed) (b : Bool) → xs ≡ ys ++ zs
    → cond b (deed_of turns p ∷ xs) xs ≡ cond b (deed_of turns p ∷ ys) ys ++ zs
deeds-push turns p xs ys zs true e = ap (λ (t : List Deed). deed_of turns p ∷ t) e
deeds-push turns p xs ys zs false e = e

pub deeds_join : (turns : List ℕ) (ps qs : List Part) → deeds_of turns (ps ++ qs) ≡ deeds_of turns ps ++ deeds_of turns qs
deeds_join turns [] qs = refl
deeds_join turns (p ∷ ps) qs =
    deeds-push turns p (deeds_of turns (ps ++ qs)) (deeds_of turns ps) (deeds_of turns qs) (is_deed p.fact) (deeds_join turns ps qs)

-- all of the parts come, or what comes is the same whatever stands behind them
cut-step : (last : ℕ) (turns : List ℕ) (p : Part) (ps : List Part) (b : Bool) → comes_by last p.cost (admission turns p) ≡ b
    → AllByRecursion (ComesBy last turns) ps ⊎ ((qs : List Part) → come_by last turns (ps ++ qs) ≡ come_by last turns ps)
    → AllByRecursion (ComesBy last turns) (p ∷ ps) ⊎ ((qs : List Part) → come_by last turns ((p ∷ ps) ++ qs) ≡ come_by last turns (p ∷ ps))
cut-step last turns p ps true e (inl h) = inl (e, h)
cut-step last turns p ps true e (inr f) = inr (λ qs. ap (λ (t : List Part). cond (comes_by last p.cost (admission turns p)) (p ∷ t) []) (f qs))
cut-step last turns p ps false e h =
    inr (λ qs. ap (λ (b : Bool). cond b (p ∷ come_by last turns (ps ++ qs)) []) e ∙ sym (ap (λ (b : Bool). cond b (p ∷ come_by last turns ps) []) e))

cut : (last : ℕ) (turns : List ℕ) (ps : List Part)
    → AllByRecursion (ComesBy last turns) ps ⊎ ((qs : List Part) → come_by last turns (ps ++ qs) ≡ come_by last turns ps)
cut last turns [] = inl tt
cut last turns (p ∷ ps) = cut-step last turns p ps (comes_by last p.cost (admission turns p)) refl (cut last turns ps)

-- what costs less comes no later
cheaper : (last low high : ℕ) (o : Option ℕ) → low ≤ high → comes_by last high o ≡ true → comes_by last low o ≡ true
cheaper last low high None le h = absurd (false≢true h)
cheaper last low high (Some t) le h = le-leb (turn_at t low) last (omega (arith, le, leb-true (turn_at t high) last h))

-- where memory may be wanting, but does not show, the deeds are those without it
unseen : (last : ℕ) (turns : List ℕ) (l : Lacking) (ps : List Part) → IsLack l ps
    → list_any (λ (d : Deed). is_want d.fact) (deeds_by last turns (with_lack (Some l) ps)) ≡ false
    → deeds_by last turns (with_lack (Some l) ps) ≡ deeds_by last turns ps
unseen last turns l ps k calm = by (cut last turns first)
  where
    first : List Part
    first = before l ps

    others : List Part
    others = k.part ∷ k.others

    whole : ps ≡ first ++ others
    whole = before_behind l ps ∙ ap (λ (t : List Part). first ++ t) k.comes

    dearer : comes_by last l.cost (slice_get turns l.batch) ≡ false → come_by last turns others ≡ []
    dearer late =
        ap (λ (b : Bool). cond b (k.part ∷ come_by last turns k.others) []) (turn (comes_by last (let p = k.part in p.cost) (admission turns k.part)) refl)
      where
        turn : (b : Bool) → comes_by last (let p = k.part in p.cost) (admission turns k.part) ≡ b → comes_by last (let p = k.part in p.cost) (admission turns k.part) ≡ false
        turn true e =
            absurd (false≢true (sym late
            ∙ cheaper last l.cost (let p = k.part in p.cost) (slice_get turns l.batch) k.within
            (sym (ap (λ (n : ℕ). comes_by last (let p = k.part in p.cost) (slice_get turns n)) k.batch) ∙ e)))
        turn false e = e

    all : AllByRecursion (ComesBy last turns) first → (b : Bool) → comes_by last l.cost (slice_get turns l.batch) ≡ b
        → deeds_by last turns (with_lack (Some l) ps) ≡ deeds_by last turns ps
    all h true e = absurd (false≢true (sym calm ∙ ap (list_any (λ (d : Deed). is_want d.fact)) shown ∙ seen))
      where
        shown : deeds_by last turns (with_lack (Some l) ps) ≡ deeds_of turns first ++ deed_of turns (lacking_part l) ∷ []
        shown =
            ap (deeds_of turns) (come_by_whole last turns first (lacking_part l ∷ []) h
            ∙ ap (λ (b : Bool). first ++ cond b (lacking_part l ∷ []) []) e) ∙ deeds_join turns first (lacking_part l ∷ [])

        seen : list_any (λ (d : Deed). is_want d.fact) (deeds_of turns first ++ deed_of turns (lacking_part l) ∷ []) ≡ true
        seen =
            list_any-append (λ (d : Deed). is_want d.fact) (deeds_of turns first) (deed_of turns (lacking_part l) ∷ [])
            ∙ or_right (list_any (λ (d : Deed). is_want d.fact) (deeds_of turns first)) true refl
    all h false e =
        ap (deeds_of turns) (come_by_whole last turns first (lacking_part l ∷ []) h
        ∙ ap (λ (b : Bool). first ++ cond b (lacking_part l ∷ []) []) e
        ∙ ap (λ (t : List Part). first ++ t) (sym (dearer e))
        ∙ sym (come_by_whole last turns first others h) ∙ ap (come_by last turns) (sym whole))

    by : AllByRecursion (ComesBy last turns) first ⊎ ((qs : List Part) → come_by last turns (first ++ qs) ≡ come_by last turns first)
        → deeds_by last turns (with_lack (Some l) ps) ≡ deeds_by last turns ps
    by (inl h) = all h (comes_by last l.cost (slice_get turns l.batch)) refl
    by (inr f) = ap (deeds_of turns) (f (lacking_part l ∷ []) ∙ sym (f others) ∙ ap (come_by last turns) (sym whole))

-- so a session that wants no memory in the history did what the meaning says
calm_deeds : (m : Meaning) (last : ℕ) (history : List Recorded) (n : ℕ) (s : IsSessionOf m last history n) → wants_memory n history ≡ false
    → deeds_in n history ≡ deeds_by last (turns_in n history) (m s.seed s.time (batches_in n history) (given_in n history))
calm_deeds m last history n s calm = by s.lacking refl
  where
    turns : List ℕ
    turns = turns_in n history

    parts : List Part
    parts = m s.seed s.time (batches_in n history) (given_in n history)

    by : (o : Option Lacking) → s.lacking ≡ o → deeds_in n history ≡ deeds_by last turns parts
    by None e = s.deeds ∙ ap (λ (l : Option Lacking). deeds_by last turns (with_lack l parts)) e
    by (Some l) e =
        let d : deeds_in n history ≡ deeds_by last turns (with_lack (Some l) parts) =
        s.deeds ∙ ap (λ (o : Option Lacking). deeds_by last turns (with_lack o parts)) e in
        d ∙ unseen last turns l parts (subst (λ (o : Option Lacking). MayLack o parts) e s.may_lack)
        (ap (list_any (λ (d : Deed). is_want d.fact)) (sym d) ∙ calm)

-- what a session of a history did, as a front of what the meaning gives
record Fronts (m : Meaning) (history : List Recorded) (n seed time : ℕ) : Type 0 where
  count : ℕ
  few : served_count (take count (m seed time (batches_in n history) (given_in n history))) ≡ length (given_in n history)
  story : story_in n history ≡ distances (take count (m seed time (batches_in n history) (given_in n history)))

fronts : (m : Meaning) (last : ℕ) (history : List Recorded) (n : ℕ) (s : IsSessionOf m last history n) → wants_memory n history ≡ false → Fronts m history n s.seed s.time
fronts m last history n s calm =
    let turns = turns_in n history in
    let parts = m s.seed s.time (batches_in n history) (given_in n history) in
    let k = reached last turns parts in
    let deeds : deeds_in n history ≡ deeds_of turns (take k parts) =
    calm_deeds m last history n s calm ∙ deeds-are last turns parts in
    record {
      count = k;
      few = sym (serving-parts turns (take k parts)) ∙ ap serving (sym deeds) ∙ serving-given n history;
      story = ap (map (distant turns)) deeds ∙ distants turns (take k parts);
    }

front_alone : (m : Meaning) → ReadsGivenInTurn m → (history other : List Recorded) (n k seed time : ℕ)
    → Fronts m history n seed time → Fronts m other k seed time
    → batches_in n history ≡ batches_in k other → IsFrontOf (given_in n history) (given_in k other)
    → Agree (story_in n history) (story_in k other)
front_alone m reads history other n k seed time f g same (more, e) =
    let batches = batches_in n history in
    let given = given_in n history in
    let whole = m seed time batches (given ++ more) in
    let here : story_in n history ≡ distances (take f.count whole) =
    f.story ∙ ap distances (reads seed time batches given more f.count (omega (arith, f.few))) in
    let there : story_in k other ≡ distances (take g.count whole) =
    g.story ∙ (λ i. distances (take g.count (m seed time (sym same i) (e i)))) in
    subst (λ (xs : List Distant). Agree xs (story_in k other)) (sym here)
    (subst (λ (ys : List Distant). Agree (distances (take f.count whole)) ys) (sym there)
    (agree-distances (take f.count whole) (take g.count whole) (takes-agree f.count g.count whole)))

flip : {A : Type 0} (xs ys : List A) → Agree xs ys → Agree ys xs
flip xs ys (inl h) = inr h
flip xs ys (inr h) = inl h

pub sessions_are_alone : SessionsAreAlone
sessions_are_alone m reads last other_last history other n k s t calm other_calm opening batches agree =
    let pairs : Some (s.seed, s.time) ≡ Some (t.seed, t.time) = sym s.opening ∙ opening ∙ t.opening in
    let pair : (s.seed, s.time) ≡ (t.seed, t.time) = ap (λ (o : Option (ℕ × ℕ)). unwrap_or o (s.seed, s.time)) pairs in
    let f = fronts m last history n s calm in
    let g : Fronts m other k s.seed s.time =
    subst (λ (p : ℕ × ℕ). Fronts m other k p.0 p.1) (sym pair) (fronts m other_last other k t other_calm) in
    by f g agree
  where
    by : Fronts m history n s.seed s.time → Fronts m other k s.seed s.time → Agree (given_in n history) (given_in k other) → Agree (story_in n history) (story_in k other)
    by f g (inl h) = front_alone m reads history other n k s.seed s.time f g batches h
    by f g (inr h) = flip (story_in k other) (story_in n history) (front_alone m reads other history k n s.seed s.time g f (sym batches) h)
