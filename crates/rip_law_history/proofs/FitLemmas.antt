-- The sessions of a run: after each turn what the history has of each fits its stage.
use Rattle.std.proofs.Common.{◌≡◌, ℕ, zero, suc, ◌+◌, ◌<◌, Bool, true, false, eqb, List, [], ◌∷◌, ◌++◌, length, Option, Some, None, refl, sym, ap, ◌∙◌, subst, arith, append-nil, length-append}
use Rattle.std.specs.Prelude.{⊤, slice_get, slice_set, option_map, unwrap_or, is_some}
use Rattle.std.specs.List.{AllByRecursion}
use Rattle.std.proofs.lemmas.Bool.{false≢true, eqb-true, eqb-false, eq-eqb, ne_eqb}
use Rattle.std.proofs.lemmas.Option.{slice_get_past, slice_get_within}
use Rattle.rip_wire.specs.Batches.{Contents}
use Rattle.rip_log.specs.Entries.{Recorded, opened, admitted, served, done, closed, ended}
use Rattle.rip_history.specs.Course.{Handled, decided_entries}
use Rattle.rip_history.specs.Decisions.{batch_decision}
use Rattle.rip_history.specs.Parts.{Part, Meaning, IsLawful}
use Rattle.rip_history.specs.Requests.{Decision, answers, opens, admits, closes, decide, identifiers_in}
use Rattle.rip_history.specs.Run.{Site, State, stage_of, with_stage, Arrived, refused, message, with_batch_at, decided_stages, after_arrived, Handling, after_handling, after_handlings}
use Rattle.rip_history.specs.Sequences.{IsReadyFor}
use Rattle.rip_history.specs.Sessions.{opening_in, batches_in, turns_in, given_in, deeds_in}
use Rattle.rip_history.specs.Stages.{Stage, begun, with_batch}
use Rattle.rip_history.specs.Standings.{when_opened, when_admitted, when_closed, standing_of, is_of}
use Rattle.rip_history.specs.declared.decision.BatchDecision.TheVariants.{Admit}
use Rattle.rip_history.specs.declared.standing.Standing.{Standing}
use Rattle.rip_history.proofs.DecisionLemmas.{admits_next}
use Rattle.rip_history.proofs.RequestLemmas.{opened_is_new, admitted_is_ready}
use Rattle.rip_law_history.proofs.StandLemmas.{Stands, opened_stands, admitted_stands, closed_stands}
use Rattle.rip_law_history.proofs.ViewLemmas.{Seen, seen, first_of, seen_join, seen_others, first-none, chosen}

-- what a session does if it goes on without end, but for want of memory
abbrev pub whole_of : Meaning → Stage → List Part
whole_of m st = m st.seed st.time st.batches st.given

-- what a history has of a session fits its stage
pub record Has (m : Meaning) (u : ℕ) (v : Seen) (st : Stage) : Type 0 where
  pub opening : v.opening ≡ Some (st.seed, st.time)
  pub batches : v.batches ≡ st.batches
  pub given : v.given ≡ st.given
  pub standing : Standing
  pub is : v.standing ≡ Some standing
  pub stands : Stands u (whole_of m st) st.lacking st.units (length st.batches) v.turns v.deeds standing

-- a history has nothing of a session
pub record HasNot (v : Seen) : Type 0 where
  pub opening : v.opening ≡ None
  pub batches : v.batches ≡ []
  pub turns : v.turns ≡ []
  pub given : v.given ≡ []
  pub deeds : v.deeds ≡ []
  pub standing : v.standing ≡ None

abbrev pub Fits : Meaning → ℕ → Seen → Option Stage → Type 0
Fits m u v None = HasNot v
Fits m u v (Some st) = Has m u v st

-- so it is of each, after turn u
pub record AllFit (m : Meaning) (u : ℕ) (h : List Recorded) (stages : List Stage) : Type 0 where
  pub count : length stages ≡ length (identifiers_in h)
  pub each : (n : ℕ) → Fits m u (seen n h) (stage_of n stages)

pub none_some : {A : Type 0} (x : A) → None ≡ Some x → ⊥
none_some x e = false≢true (ap (λ (o : Option _). is_some o) e)

-- ---- stages

pub stage_within : (n : ℕ) (stages : List Stage) (st : Stage) → stage_of n stages ≡ Some st → (i : ℕ) × (n ≡ suc i) × (i < length stages)
stage_within zero stages st e = absurd (none_some st e)
stage_within (suc i) stages st e = (i, refl, slice_get_within stages i st e)

get-set : (xs : List Stage) (i : ℕ) (x : Stage) → i < length xs → slice_get (slice_set xs i x) i ≡ Some x
get-set [] i x lt = absurd (omega (arith, lt))
get-set (y ∷ xs) zero x lt = refl
get-set (y ∷ xs) (suc i) x lt = get-set xs i x (omega (arith, lt))

get-set-other : (xs : List Stage) (i j : ℕ) (x : Stage) → (i ≡ j → ⊥) → slice_get (slice_set xs i x) j ≡ slice_get xs j
get-set-other [] i j x ne = refl
get-set-other (y ∷ xs) zero zero x ne = absurd (ne refl)
get-set-other (y ∷ xs) zero (suc j) x ne = refl
get-set-other (y ∷ xs) (suc i) zero x ne = refl
get-set-other (y ∷ xs) (suc i) (suc j) x ne = get-set-other xs i j x (λ e. ne (ap suc e))

length-set : (xs : List Stage) (i : ℕ) (x : Stage) → length (slice_set xs i x) ≡ length xs
length-set [] i x = refl
length-set (y ∷ xs) zero x = refl
length-set (y ∷ xs) (suc i) x = ap suc (length-set xs i x)

pub stage_set : (n : ℕ) (stages : List Stage) (st x : Stage) → stage_of n stages ≡ Some st → stage_of n (with_stage n x stages) ≡ Some x
stage_set zero stages st x e = absurd (none_some st e)
stage_set (suc i) stages st x e = get-set stages i x (slice_get_within stages i st e)

pub stage_set_other : (n k : ℕ) (stages : List Stage) (x : Stage) → (n ≡ k → ⊥) → stage_of k (with_stage n x stages) ≡ stage_of k stages
stage_set_other zero k stages x ne = refl
stage_set_other (suc i) zero stages x ne = refl
stage_set_other (suc i) (suc j) stages x ne = get-set-other stages i j x (λ e. ne (ap suc e))

pub stages_length : (n : ℕ) (stages : List Stage) (x : Stage) → length (with_stage n x stages) ≡ length stages
stages_length zero stages x = refl
stages_length (suc i) stages x = length-set stages i x

get-more : (xs : List Stage) (x : Stage) (i : ℕ) → (i ≡ length xs → ⊥) → slice_get (xs ++ x ∷ []) i ≡ slice_get xs i
get-more [] x zero ne = absurd (ne refl)
get-more [] x (suc i) ne = refl
get-more (y ∷ xs) x zero ne = refl
get-more (y ∷ xs) x (suc i) ne = get-more xs x i (λ e. ne (ap suc e))

get-new : (xs : List Stage) (x : Stage) (i : ℕ) → i ≡ length xs → slice_get (xs ++ x ∷ []) i ≡ Some x
get-new [] x zero e = refl
get-new [] x (suc i) e = absurd (omega (arith, e))
get-new (y ∷ xs) x zero e = absurd (omega (arith, e))
get-new (y ∷ xs) x (suc i) e = get-new xs x i (omega (arith, e))

stage-new : (stages : List Stage) (x : Stage) (n : ℕ) → n ≡ length stages + 1 → stage_of n (stages ++ x ∷ []) ≡ Some x
stage-new stages x zero e = absurd (omega (arith, e))
stage-new stages x (suc i) e = get-new stages x i (omega (arith, e))

stage-more : (stages : List Stage) (x : Stage) (n : ℕ) → (n ≡ length stages + 1 → ⊥) → stage_of n (stages ++ x ∷ []) ≡ stage_of n stages
stage-more stages x zero ne = refl
stage-more stages x (suc i) ne = get-more stages x i (λ e. ne (omega (arith, e)))

stage-none : (stages : List Stage) (n : ℕ) → n ≡ length stages + 1 → stage_of n stages ≡ None
stage-none stages zero e = refl
stage-none stages (suc i) e = slice_get_past stages i (omega (arith, e))

-- ---- identifiers

ids-join : (h es : List Recorded) → identifiers_in (h ++ es) ≡ identifiers_in h ++ identifiers_in es
ids-join [] es = refl
ids-join (opened turn session id seed time ∷ h) es = ap (λ (t : List ℕ). id ∷ t) (ids-join h es)
ids-join (admitted turn session b ∷ h) es = ids-join h es
ids-join (served turn session number k name args time reply ∷ h) es = ids-join h es
ids-join (done turn session number how ∷ h) es = ids-join h es
ids-join (closed turn session ∷ h) es = ids-join h es
ids-join (ended turn status ∷ h) es = ids-join h es

pub same_ids : (h es : List Recorded) → identifiers_in es ≡ [] → length (identifiers_in (h ++ es)) ≡ length (identifiers_in h)
same_ids h es none = ap length (ids-join h es ∙ ap (λ (t : List ℕ). identifiers_in h ++ t) none ∙ append-nil (identifiers_in h))

-- ---- one entry more of a session

other-entry : (k n : ℕ) → (n ≡ k → ⊥) → eqb n k ≡ false
other-entry k n ne = ne_eqb n k ne

-- where an entry is of session n, each other fits as before
others-fit : (m : Meaning) (u : ℕ) (h es : List Recorded) (k : ℕ) (o p : Option Stage) → AllByRecursion (λ (e : Recorded). is_of k e ≡ false) es → p ≡ o
    → Fits m u (seen k h) o → Fits m u (seen k (h ++ es)) p
others-fit m u h es k o p others same f =
    subst (λ (v : Seen). Fits m u v p) (sym (seen_others k h es others)) (subst (λ (q : Option Stage). Fits m u (seen k h) q) (sym same) f)

-- a session is closed
closed-one : (m : Meaning) (u turn n : ℕ) (h : List Recorded) (o : Option Stage) → Fits m u (seen n h) o → Fits m u (seen n (h ++ closed turn n ∷ [])) o
closed-one m u turn n h o f = subst (λ (v : Seen). Fits m u v o) (sym now) (by o f)
  where
    nil : {A : Type 0} (xs : List A) → xs ++ [] ≡ xs
    nil xs = append-nil xs

    after : Seen
    after = record {
      opening = opening_in n h;
      batches = batches_in n h;
      turns = turns_in n h;
      given = given_in n h;
      deeds = deeds_in n h;
      standing = option_map when_closed (standing_of n h);
    }

    now : seen n (h ++ closed turn n ∷ []) ≡ after
    now =
        seen_join n h (closed turn n ∷ [])
        ∙ (λ i. record {
          opening = first-none (opening_in n h) i;
          batches = nil (batches_in n h) i;
          turns = nil (turns_in n h) i;
          given = nil (given_in n h) i;
          deeds = nil (deeds_in n h) i;
          standing = chosen (eqb n n) (option_map when_closed (standing_of n h)) (standing_of n h) (eq-eqb n n refl) i;
        })

    by : (o : Option Stage) → Fits m u (seen n h) o → Fits m u after o
    by None k = record {
      opening = k.opening;
      batches = k.batches;
      turns = k.turns;
      given = k.given;
      deeds = k.deeds;
      standing = ap (option_map when_closed) k.standing;
    }
    by (Some st) k = record {
      opening = k.opening;
      batches = k.batches;
      given = k.given;
      standing = when_closed k.standing;
      is = ap (option_map when_closed) k.is;
      stands = closed_stands u (whole_of m st) st.lacking st.units (length st.batches) (turns_in n h) (deeds_in n h) k.standing k.stands;
    }

-- a session is opened
opened-one : (m : Meaning) → IsLawful m → (u n id seed moment : ℕ) (h : List Recorded) → HasNot (seen n h)
    → Has m u (seen n (h ++ opened (u + 1) n id seed moment ∷ [])) (begun seed moment)
opened-one m lawful u n id seed moment h k = subst (λ (v : Seen). Has m u v (begun seed moment)) (sym now) record {
  opening = refl;
  batches = refl;
  given = refl;
  standing = when_opened;
  is = refl;
  stands = opened_stands u (whole_of m (begun seed moment)) (lawful.costs seed moment [] []);
}
  where
    after : Seen
    after = record { opening = Some (seed, moment); batches = []; turns = (u + 1) ∷ []; given = []; deeds = []; standing = Some when_opened }

    yes : eqb n n ≡ true
    yes = eq-eqb n n refl

    now : seen n (h ++ opened (u + 1) n id seed moment ∷ []) ≡ after
    now =
        seen_join n h (opened (u + 1) n id seed moment ∷ [])
        ∙ (λ i. record {
          opening = first_of (k.opening i) (chosen (eqb n n) (Some (seed, moment)) None yes i);
          batches = (append-nil (batches_in n h) ∙ k.batches) i;
          turns = k.turns i ++ chosen (eqb n n) ((u + 1) ∷ []) [] yes i;
          given = (append-nil (given_in n h) ∙ k.given) i;
          deeds = (append-nil (deeds_in n h) ∙ k.deeds) i;
          standing = chosen (eqb n n) (Some when_opened) (standing_of n h) yes i;
        })

-- a batch is admitted
admitted-one : (m : Meaning) → IsLawful m → (u n : ℕ) (b : Contents) (h : List Recorded) (st : Stage) → IsReadyFor h n b.number
    → Has m u (seen n h) st → Has m u (seen n (h ++ admitted (u + 1) n b ∷ [])) (with_batch b st)
admitted-one m lawful u n b h st r k = subst (λ (v : Seen). Has m u v (with_batch b st)) (sym now) record {
  opening = k.opening;
  batches = ap (λ (bs : List Contents). bs ++ b ∷ []) k.batches;
  given = k.given;
  standing = when_admitted b.number k.standing;
  is = ap (option_map (when_admitted b.number)) k.is;
  stands =
      subst (λ (last : ℕ). Stands u (whole_of m (with_batch b st)) st.lacking 0 last (turns_in n h ++ (u + 1) ∷ []) (deeds_in n h) (when_admitted b.number k.standing))
      (sym (length-append st.batches (b ∷ [])))
      (admitted_stands u (whole_of m st) added.0 (whole_of m (with_batch b st)) st.lacking st.units (length st.batches) b.number (turns_in n h) (deeds_in n h) k.standing
      k.stands (lawful.last st.seed st.time st.batches st.given) added.1 added.2 (lawful.costs st.seed st.time (st.batches ++ b ∷ []) st.given)
      next.0 next.1 next.2);
}
  where
    yes : eqb n n ≡ true
    yes = eq-eqb n n refl

    now : seen n (h ++ admitted (u + 1) n b ∷ []) ≡ record {
      opening = opening_in n h;
      batches = batches_in n h ++ b ∷ [];
      turns = turns_in n h ++ (u + 1) ∷ [];
      given = given_in n h;
      deeds = deeds_in n h;
      standing = option_map (when_admitted b.number) (standing_of n h);
    }
    now =
        seen_join n h (admitted (u + 1) n b ∷ [])
        ∙ (λ i. record {
          opening = first-none (opening_in n h) i;
          batches = batches_in n h ++ chosen (eqb n n) (b ∷ []) [] yes i;
          turns = turns_in n h ++ chosen (eqb n n) ((u + 1) ∷ []) [] yes i;
          given = append-nil (given_in n h) i;
          deeds = append-nil (deeds_in n h) i;
          standing = chosen (eqb n n) (option_map (when_admitted b.number) (standing_of n h)) (standing_of n h) yes i;
        })

    added : (more : List Part) × (whole_of m (with_batch b st) ≡ whole_of m st ++ more) × AllByRecursion (λ (p : Part). p.batch ≡ length st.batches + 1) more
    added = lawful.adds st.seed st.time st.batches b st.given

    one : r.standing ≡ k.standing
    one = ap (λ (o : Option Standing). unwrap_or o r.standing) (sym r.stands ∙ k.is)

    next : ((let s = k.standing in s.ended) ≡ None) × ((let s = k.standing in s.done) ≡ Some (let s = k.standing in s.last)) × (b.number ≡ (let s = k.standing in s.last) + 1)
    next = (admits_next k.standing b.number).0 (subst (λ (s : Standing). batch_decision s b.number ≡ Admit) one r.admits)

-- ---- a decision

others-of-one : (k n : ℕ) → (n ≡ k → ⊥) → (eqb n k ≡ false) × ⊤
others-of-one k n ne = (ne_eqb n k ne, tt)

-- after what is decided in a turn each session fits its stage
pub decided_fit : (m : Meaning) → IsLawful m → (limit u moment : ℕ) (h : List Recorded) (stages : List Stage) (x : Handled) (d : Decision)
    → decide limit h x.asked x.drawn x.lack ≡ d → AllFit m u h stages
    → AllFit m u (h ++ decided_entries (u + 1) moment d) (decided_stages moment d stages)
decided_fit m lawful limit u moment h stages x (answers code body) e f =
    subst (λ (g : List Recorded). AllFit m u g stages) (sym (append-nil h)) f
decided_fit m lawful limit u moment h stages x (opens n id seed) e f = record {
  count = length-append stages (begun seed moment ∷ []) ∙ ap (λ (c : ℕ). c + 1) f.count
      ∙ sym (ap length (ids-join h es) ∙ length-append (identifiers_in h) (id ∷ []));
  each = λ k. by k (eqb n k) refl;
}
  where
    es : List Recorded
    es = opened (u + 1) n id seed moment ∷ []

    ordinal : n ≡ length stages + 1
    ordinal = (let new = opened_is_new limit h x.asked x.drawn x.lack n id seed e in new.ordinal) ∙ ap (λ (c : ℕ). c + 1) (sym f.count)

    absent : HasNot (seen n h)
    absent = subst (λ (o : Option Stage). Fits m u (seen n h) o) (stage-none stages n ordinal) (f.each n)

    here : Fits m u (seen n (h ++ es)) (stage_of n (stages ++ begun seed moment ∷ []))
    here =
        subst (λ (o : Option Stage). Fits m u (seen n (h ++ es)) o) (sym (stage-new stages (begun seed moment) n ordinal))
        (opened-one m lawful u n id seed moment h absent)

    by : (k : ℕ) (b : Bool) → eqb n k ≡ b → Fits m u (seen k (h ++ es)) (stage_of k (stages ++ begun seed moment ∷ []))
    by k true same = subst (λ (j : ℕ). Fits m u (seen j (h ++ es)) (stage_of j (stages ++ begun seed moment ∷ []))) (eqb-true n k same) here
    by k false other =
        others-fit m u h es k (stage_of k stages) (stage_of k (stages ++ begun seed moment ∷ [])) (others-of-one k n (eqb-false n k other))
        (stage-more stages (begun seed moment) k (λ same. eqb-false n k other (ordinal ∙ sym same))) (f.each k)
decided_fit m lawful limit u moment h stages x (admits n b) e f = at-stage (stage_of n stages) refl (f.each n)
  where
    es : List Recorded
    es = admitted (u + 1) n b ∷ []

    ready : IsReadyFor h n b.number
    ready = admitted_is_ready limit h x.asked x.drawn x.lack n b e

    at-stage : (o : Option Stage) → stage_of n stages ≡ o → Fits m u (seen n h) o → AllFit m u (h ++ es) (with_batch_at n b (stage_of n stages) stages)
    at-stage None is k = absurd (none_some ready.standing (sym k.standing ∙ ready.stands))
    at-stage (Some st) is k = subst (λ (o : Option Stage). AllFit m u (h ++ es) (with_batch_at n b o stages)) (sym is) record {
      count = stages_length n stages (with_batch b st) ∙ f.count ∙ sym (same_ids h es refl);
      each = λ j. by j (eqb n j) refl;
    }
      where
        here : Fits m u (seen n (h ++ es)) (stage_of n (with_stage n (with_batch b st) stages))
        here =
            subst (λ (o : Option Stage). Fits m u (seen n (h ++ es)) o) (sym (stage_set n stages st (with_batch b st) is))
            (admitted-one m lawful u n b h st ready k)

        by : (j : ℕ) (t : Bool) → eqb n j ≡ t → Fits m u (seen j (h ++ es)) (stage_of j (with_stage n (with_batch b st) stages))
        by j true same = subst (λ (i : ℕ). Fits m u (seen i (h ++ es)) (stage_of i (with_stage n (with_batch b st) stages))) (eqb-true n j same) here
        by j false other =
            others-fit m u h es j (stage_of j stages) (stage_of j (with_stage n (with_batch b st) stages)) (others-of-one j n (eqb-false n j other))
            (stage_set_other n j stages (with_batch b st) (eqb-false n j other)) (f.each j)
decided_fit m lawful limit u moment h stages x (closes n body) e f = record {
  count = f.count ∙ sym (same_ids h es refl);
  each = λ k. by k (eqb n k) refl;
}
  where
    es : List Recorded
    es = closed (u + 1) n ∷ []

    by : (k : ℕ) (b : Bool) → eqb n k ≡ b → Fits m u (seen k (h ++ es)) (stage_of k stages)
    by k true same =
        subst (λ (j : ℕ). Fits m u (seen j (h ++ es)) (stage_of j stages)) (eqb-true n k same)
        (closed-one m u (u + 1) n h (stage_of n stages) (f.each n))
    by k false other =
        others-fit m u h es k (stage_of k stages) (stage_of k stages) (others-of-one k n (eqb-false n k other)) refl (f.each k)

arrived-fit : (site : Site) → IsLawful site.meaning → (u moment c size : ℕ) (gone : Bool) (s : State) (a : Arrived) → AllFit site.meaning u s.history s.stages
    → (let x = after_arrived site (u + 1) moment c size gone s a in AllFit site.meaning u x.history x.stages)
arrived-fit site lawful u moment c size gone s (refused r) f = f
arrived-fit site lawful u moment c size gone s (message m x) f =
    decided_fit site.meaning lawful site.limit u moment s.history s.stages x (decide site.limit s.history x.asked x.drawn x.lack) refl f

-- after the requests of a turn each session fits its stage
pub handled_fit : (site : Site) → IsLawful site.meaning → (u moment : ℕ) (s : State) (hs : List Handling) → AllFit site.meaning u s.history s.stages
    → (let x = after_handlings site (u + 1) moment s hs in AllFit site.meaning u x.history x.stages)
handled_fit site lawful u moment s [] f = f
handled_fit site lawful u moment s (h ∷ hs) f =
    handled_fit site lawful u moment (after_handling site (u + 1) moment s h) hs
    (arrived-fit site lawful u moment h.connection h.size h.gone s h.arrived f)
