-- The busy sessions of a run go on, by their ordinals.
use Rattle.std.proofs.Common.{◌≡◌, ◌⊎◌, inl, inr, ℕ, zero, suc, ◌+◌, ◌≤◌, ◌<◌, Bool, true, false, cond, ◌||◌, eqb, List, [], ◌∷◌, ◌++◌, length, map, Option, Some, None, refl, sym, ap, ◌∙◌, subst, arith}
use Rattle.std.specs.List.{AllByRecursion, list_any, zip}
use Rattle.std.proofs.lemmas.Bool.{true≢false, false≢true, eqb-true, eqb-false, eq-eqb, ne_eqb, or_parts, or_from, or_left, or_right}
use Rattle.std.proofs.lemmas.List.Folds.{list_any-append}
use Rattle.rip_log.specs.Entries.{Recorded, opened, admitted, served, done, closed, ended}
use Rattle.rip_history.specs.Course.{session_of}
use Rattle.rip_history.specs.Parts.{Part, Given, Meaning, with_lack}
use Rattle.rip_history.specs.Requests.{identifiers_in}
use Rattle.rip_history.specs.Run.{Site, State, stage_of, with_stage, is_busy_in, busy_up_to, busy_in, Advance, IsAdvance, done_entries, advance_entries, after_advance, after_advances, AreAdvancedSo}
use Rattle.rip_history.specs.Services.{Serving, servings_in, served_entry, served_entries}
use Rattle.rip_history.specs.Sessions.{opening_in, batches_in, turns_in, given_in, Deed, deeds_in, deeds_of}
use Rattle.rip_history.specs.Stages.{Stage, come, ComesNow, GoesLacking, GoesOn}
use Rattle.rip_history.specs.Standings.{standing_of, is_of, is_busy}
use Rattle.rip_history.specs.declared.sessions.Progress.{Progress}
use Rattle.rip_history.specs.declared.sessions.Progress.TheVariants.{Busy, Finished}
use Rattle.rip_law_history.proofs.FitLemmas.{whole_of, Has, Fits, AllFit, stage_within, stage_set, stage_set_other, stages_length, same_ids}
use Rattle.rip_law_history.proofs.WholeMadeLemmas.{all-maps, RisesFrom, advance_of_one}
use Rattle.rip_law_history.proofs.StandLemmas.{Stands, stays_idle, after_progress, IsNow, InTurn, parts_in_turn, advanced_stands}
use Rattle.rip_law_history.proofs.ViewLemmas.{Seen, seen, seen_others, seen_advance}

-- the session waits for its turn among these
abbrev pub pending : ℕ → List ℕ → Bool
pending n ns = list_any (λ (k : ℕ). eqb k n) ns

-- in a turn: the busy sessions that wait fit their stages as before it, and all others as after it
pub record Midst (m : Meaning) (u : ℕ) (h : List Recorded) (stages : List Stage) (ns : List ℕ) : Type 0 where
  pub count : length stages ≡ length (identifiers_in h)
  pub waits : (n : ℕ) → pending n ns ≡ true → Fits m u (seen n h) (stage_of n stages) × (is_busy_in (standing_of n h) ≡ true)
  pub over : (n : ℕ) → pending n ns ≡ false → Fits m (u + 1) (seen n h) (stage_of n stages)

-- ---- which sessions are busy

busy-last : (c n : ℕ) (h : List Recorded) (b : Bool) → is_busy_in (standing_of (suc c) h) ≡ b → pending n (cond b (suc c ∷ []) []) ≡ true
    → is_busy_in (standing_of n h) ≡ true
busy-last c n h true e p = subst (λ (k : ℕ). is_busy_in (standing_of k h) ≡ true) (eqb-true (suc c) n (one (eqb (suc c) n) p)) e
  where
    one : (t : Bool) → (t || false) ≡ true → t ≡ true
    one true h = refl
    one false h = absurd (false≢true h)
busy-last c n h false e p = absurd (false≢true p)

or-either : (x y : Bool) → (x || y) ≡ true → (x ≡ true) ⊎ (y ≡ true)
or-either true y h = inl refl
or-either false y h = inr h

busy-waits : (c n : ℕ) (h : List Recorded) → pending n (busy_up_to c h) ≡ true → is_busy_in (standing_of n h) ≡ true
busy-waits zero n h p = absurd (false≢true p)
busy-waits (suc c) n h p =
    let b = is_busy_in (standing_of (suc c) h) in
    by (or-either (pending n (busy_up_to c h)) (pending n (cond b (suc c ∷ []) []))
    (sym (list_any-append (λ (k : ℕ). eqb k n) (busy_up_to c h) (cond b (suc c ∷ []) [])) ∙ p)) (busy-waits c n h)
  where
    by : (pending n (busy_up_to c h) ≡ true) ⊎ (pending n (cond (is_busy_in (standing_of (suc c) h)) (suc c ∷ []) []) ≡ true)
        → (pending n (busy_up_to c h) ≡ true → is_busy_in (standing_of n h) ≡ true) → is_busy_in (standing_of n h) ≡ true
    by (inl q) rest = rest q
    by (inr q) rest = busy-last c n h (is_busy_in (standing_of (suc c) h)) refl q

idle-last : (c : ℕ) (b : Bool) → pending (suc c) (cond b (suc c ∷ []) []) ≡ false → b ≡ false
idle-last c true p = absurd (true≢false (sym (eq-eqb (suc c) (suc c) refl) ∙ (or_parts (eqb (suc c) (suc c)) false p).0))
idle-last c false p = refl

pub idle_rest : (c i : ℕ) (h : List Recorded) → i < c → pending (suc i) (busy_up_to c h) ≡ false → is_busy_in (standing_of (suc i) h) ≡ false
idle_rest zero i h lt p = absurd (omega (arith, lt))
idle_rest (suc c) i h lt p =
    let b = is_busy_in (standing_of (suc c) h) in
    by (eqb i c) refl
    (or_parts (pending (suc i) (busy_up_to c h)) (pending (suc i) (cond b (suc c ∷ []) []))
    (sym (list_any-append (λ (k : ℕ). eqb k (suc i)) (busy_up_to c h) (cond b (suc c ∷ []) [])) ∙ p)) (idle_rest c i h)
  where
    by : (t : Bool) → eqb i c ≡ t
        → (pending (suc i) (busy_up_to c h) ≡ false) × (pending (suc i) (cond (is_busy_in (standing_of (suc c) h)) (suc c ∷ []) []) ≡ false)
        → (i < c → pending (suc i) (busy_up_to c h) ≡ false → is_busy_in (standing_of (suc i) h) ≡ false)
        → is_busy_in (standing_of (suc i) h) ≡ false
    by true same q rest =
        let at : i ≡ c = eqb-true i c same in
        subst (λ (k : ℕ). is_busy_in (standing_of (suc k) h) ≡ false) (sym at)
        (idle-last c (is_busy_in (standing_of (suc c) h))
        (subst (λ (k : ℕ). pending (suc k) (cond (is_busy_in (standing_of (suc c) h)) (suc c ∷ []) []) ≡ false) at q.1))
    by false other q rest = rest (omega (arith, lt, eqb-false i c other)) q.0

-- as the sessions begin to go on
pub begin_midst : (m : Meaning) (u : ℕ) (h : List Recorded) (stages : List Stage) → AllFit m u h stages → Midst m u h stages (busy_in h)
begin_midst m u h stages f = record {
  count = f.count;
  waits = λ n p. (f.each n, busy-waits (length (identifiers_in h)) n h p);
  over = λ n p. by n p (stage_of n stages) refl (f.each n);
}
  where
    idle : (n : ℕ) (st : Stage) → pending n (busy_in h) ≡ false → stage_of n stages ≡ Some st → is_busy_in (standing_of n h) ≡ false
    idle n st p is =
        let within = stage_within n stages st is in
        subst (λ (k : ℕ). is_busy_in (standing_of k h) ≡ false) (sym within.1)
        (idle_rest (length (identifiers_in h)) within.0 h (omega (arith, within.2, f.count))
        (subst (λ (k : ℕ). pending k (busy_in h) ≡ false) within.1 p))

    by : (n : ℕ) → pending n (busy_in h) ≡ false → (o : Option Stage) → stage_of n stages ≡ o → Fits m u (seen n h) o → Fits m (u + 1) (seen n h) o
    by n p None is k = k
    by n p (Some st) is k = record {
      opening = k.opening;
      batches = k.batches;
      given = k.given;
      standing = k.standing;
      is = k.is;
      stands =
          stays_idle u (whole_of m st) st.lacking st.units (length st.batches) (turns_in n h) (deeds_in n h) k.standing k.stands
          (sym (ap is_busy_in k.is) ∙ idle n st p is);
    }

pub end_midst : (m : Meaning) (u : ℕ) (h : List Recorded) (stages : List Stage) → Midst m u h stages [] → AllFit m (u + 1) h stages
end_midst m u h stages f = record { count = f.count; each = λ n. f.over n refl }

-- ---- one goes on

not-of : (k n : ℕ) → (n ≡ k → ⊥) → (e : Recorded) → session_of e ≡ n → is_of k e ≡ false
not-of k n ne (opened turn session id seed time) is = ne_eqb session k (λ e. ne (sym is ∙ e))
not-of k n ne (admitted turn session b) is = ne_eqb session k (λ e. ne (sym is ∙ e))
not-of k n ne (served turn session number j name args time reply) is = ne_eqb session k (λ e. ne (sym is ∙ e))
not-of k n ne (done turn session number how) is = ne_eqb session k (λ e. ne (sym is ∙ e))
not-of k n ne (closed turn session) is = ne_eqb session k (λ e. ne (sym is ∙ e))
not-of k n ne (ended turn status) is = refl

rises-not : (low k : ℕ) (ns : List ℕ) → RisesFrom low ns → k ≤ low → pending k ns ≡ false
rises-not low k [] r le = refl
rises-not low k (n ∷ ns) r le =
    or_from (eqb n k) (pending k ns) (ne_eqb n k (λ e. omega (arith, e, r.0, le))) (rises-not n k ns r.1 (omega (arith, r.0, le)))

no-ids : (turn : ℕ) (a : Advance) → identifiers_in (advance_entries turn a) ≡ []
no-ids turn a = by (servings_in a.parts) a.given
  where
    last : (p : Progress) → identifiers_in (done_entries turn a.session (length a.next.batches) p) ≡ []
    last Busy = refl
    last (Finished how) = refl

    by : (ss : List Serving) (gs : List Given)
        → identifiers_in (map (served_entry turn a.session) (zip ss gs) ++ done_entries turn a.session (length a.next.batches) a.progress) ≡ []
    by ss gs = ids ss gs
      where
        ids : (ss : List Serving) (gs : List Given)
            → identifiers_in (map (served_entry turn a.session) (zip ss gs) ++ done_entries turn a.session (length a.next.batches) a.progress) ≡ []
        ids [] gs = last a.progress
        ids (s ∷ ss) [] = last a.progress
        ids (s ∷ ss) (g ∷ gs) = ids ss gs

-- the session that goes on
here-fits : (site : Site) (u moment : ℕ) (s : State) (a : Advance) (i : IsAdvance site moment s a)
    → Has site.meaning u (seen a.session s.history) i.stage → is_busy_in (standing_of a.session s.history) ≡ true
    → Has site.meaning (u + 1) (seen a.session (s.history ++ advance_entries (u + 1) a)) a.next
here-fits site u moment s a i k busy = subst (λ (v : Seen). Has site.meaning (u + 1) v a.next) (sym now) record {
  opening = k.opening ∙ (λ j. Some (sym g.seed j, sym g.time j));
  batches = k.batches ∙ sym g.batches;
  given = ap (λ (gs : List Given). gs ++ a.given) k.given ∙ sym g.given;
  standing = after_progress last a.progress k.standing;
  is = refl;
  stands =
      subst (λ (units : ℕ). Stands (u + 1) (whole_of m a.next) a.next.lacking units (length a.next.batches) turns did (after_progress last a.progress k.standing)) (sym g.units)
      (subst (λ (n : ℕ). Stands (u + 1) (whole_of m a.next) a.next.lacking (st.units + 1000) n turns did (after_progress last a.progress k.standing)) (sym (ap length g.batches))
      (advanced_stands u (whole_of m st) (whole_of m a.next) st.lacking a.next.lacking st.units last turns (deeds_in n s.history) k.standing a.parts a.progress
      k.stands working comes new (subst (λ (ps : List Part). GoesLacking ps a.parts st.lacking a.next.lacking) (sym whole) g.lacking) i.how_far));
}
  where
    m : Meaning
    m = site.meaning

    n : ℕ
    n = a.session

    st : Stage
    st = i.stage

    last : ℕ
    last = length st.batches

    g : GoesOn m st 1000 a.given a.parts a.next
    g = i.goes_on

    turns : List ℕ
    turns = turns_in n s.history

    did : List Deed
    did = deeds_in n s.history ++ deeds_of turns a.parts

    working : is_busy k.standing ≡ true
    working = sym (ap is_busy_in k.is) ∙ busy

    whole : whole_of m a.next ≡ m st.seed st.time st.batches (st.given ++ a.given)
    whole = (λ j. m (g.seed j) (g.time j) (g.batches j) (g.given j))

    comes : come last (st.units + 1000) (with_lack a.next.lacking (whole_of m a.next)) ≡ come last st.units (with_lack st.lacking (whole_of m st)) ++ a.parts
    comes = sym (λ j. come (length (g.batches j)) (g.units j) (with_lack a.next.lacking (whole_of m a.next))) ∙ g.come

    new : AllByRecursion (IsNow last st.units) a.parts
    new = all-maps (ComesNow st) (IsNow last st.units) (λ p c. (c.batch, c.above)) a.parts g.now

    turned : AllByRecursion (InTurn u turns last) a.parts
    turned = parts_in_turn u (whole_of m st) (whole_of m a.next) st.lacking a.next.lacking st.units last turns a.parts (let x = k.stands in x.spends working) comes new

    now : seen n (s.history ++ advance_entries (u + 1) a) ≡ record {
      opening = opening_in n s.history;
      batches = batches_in n s.history;
      turns = turns;
      given = given_in n s.history ++ a.given;
      deeds = did;
      standing = Some (after_progress last a.progress k.standing);
    }
    now =
        (λ j. seen n (s.history ++ (served_entries (u + 1) n a.parts a.given ++ done_entries (u + 1) n (length (g.batches j)) a.progress)))
        ∙ seen_advance u n s.history a.parts a.given a.progress last k.standing k.is turned i.how_far g.each

-- and the others
pub advance_fit : (site : Site) (u moment : ℕ) (s : State) (a : Advance) (ns : List ℕ) → IsAdvance site moment s a → RisesFrom a.session ns
    → Midst site.meaning u s.history s.stages (a.session ∷ ns)
    → (let x = after_advance (u + 1) s a in Midst site.meaning u x.history x.stages ns)
advance_fit site u moment s a ns i rises f = record {
  count = stages_length n s.stages a.next ∙ f.count ∙ sym (same_ids s.history es (no-ids (u + 1) a));
  waits = λ k p. waiting k p (eqb n k) refl;
  over = λ k p. past k p (eqb n k) refl;
}
  where
    m : Meaning
    m = site.meaning

    n : ℕ
    n = a.session

    es : List Recorded
    es = advance_entries (u + 1) a

    own : pending n (n ∷ ns) ≡ true
    own = or_left (eqb n n) (pending n ns) (eq-eqb n n refl)

    here : Fits m (u + 1) (seen n (s.history ++ es)) (stage_of n (with_stage n a.next s.stages))
    here =
        subst (λ (o : Option Stage). Fits m (u + 1) (seen n (s.history ++ es)) o) (sym (stage_set n s.stages i.stage a.next i.stands))
        (here-fits site u moment s a i (subst (λ (o : Option Stage). Fits m u (seen n s.history) o) i.stands (f.waits n own).0) (f.waits n own).1)

    others : (k : ℕ) → (n ≡ k → ⊥) → seen k (s.history ++ es) ≡ seen k s.history
    others k ne =
        seen_others k s.history es
        (all-maps (λ (e : Recorded). session_of e ≡ n) (λ (e : Recorded). is_of k e ≡ false) (λ e is. not-of k n ne e is) es (advance_of_one (u + 1) a))

    moved : (w k : ℕ) → (n ≡ k → ⊥) → Fits m w (seen k s.history) (stage_of k s.stages)
        → Fits m w (seen k (s.history ++ es)) (stage_of k (with_stage n a.next s.stages))
    moved w k ne fits =
        subst (λ (v : Seen). Fits m w v (stage_of k (with_stage n a.next s.stages))) (sym (others k ne))
        (subst (λ (o : Option Stage). Fits m w (seen k s.history) o) (sym (stage_set_other n k s.stages a.next ne)) fits)

    waiting : (k : ℕ) → pending k ns ≡ true → (b : Bool) → eqb n k ≡ b
        → Fits m u (seen k (s.history ++ es)) (stage_of k (with_stage n a.next s.stages)) × (is_busy_in (standing_of k (s.history ++ es)) ≡ true)
    waiting k p true same =
        absurd (true≢false (sym p ∙ rises-not n k ns rises (omega (arith, eqb-true n k same))))
    waiting k p false other =
        let ne = eqb-false n k other in
        let w = f.waits k (or_right (eqb n k) (pending k ns) p) in
        (moved u k ne w.0, ap (λ (v : Seen). is_busy_in v.standing) (others k ne) ∙ w.1)

    past : (k : ℕ) → pending k ns ≡ false → (b : Bool) → eqb n k ≡ b
        → Fits m (u + 1) (seen k (s.history ++ es)) (stage_of k (with_stage n a.next s.stages))
    past k p true same =
        subst (λ (j : ℕ). Fits m (u + 1) (seen j (s.history ++ es)) (stage_of j (with_stage n a.next s.stages))) (eqb-true n k same) here
    past k p false other =
        moved (u + 1) k (eqb-false n k other) (f.over k (or_from (eqb n k) (pending k ns) other p))

-- after the busy sessions went on each session fits its stage in the next turn
pub advanced_fit : (site : Site) (u moment low : ℕ) (s : State) (ns : List ℕ) (rest : List Advance) → RisesFrom low ns
    → AreAdvancedSo site (u + 1) moment s ns rest → Midst site.meaning u s.history s.stages ns
    → (let x = after_advances (u + 1) s rest in AllFit site.meaning (u + 1) x.history x.stages)
advanced_fit site u moment low s [] rest r e f =
    subst (λ (others : List Advance). let x = after_advances (u + 1) s others in AllFit site.meaning (u + 1) x.history x.stages) (sym e)
    (end_midst site.meaning u s.history s.stages f)
advanced_fit site u moment low s (n ∷ ns) [] r e f = absurd e
advanced_fit site u moment low s (n ∷ ns) (a ∷ rest) r (same, i, more) f =
    let rises : RisesFrom a.session ns = subst (λ (k : ℕ). RisesFrom k ns) (sym same) r.1 in
    advanced_fit site u moment a.session (after_advance (u + 1) s a) ns rest rises more
    (advance_fit site u moment s a ns i rises (subst (λ (k : ℕ). Midst site.meaning u s.history s.stages (k ∷ ns)) (sym same) f))
