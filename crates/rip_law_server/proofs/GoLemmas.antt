-- A busy session goes on, and at a call it wants memory.
use Rattle.std.proofs.Common.{◌≡◌, ◌⊎◌, inl, inr, ℕ, suc, ◌+◌, ◌≤◌, ◌<◌, Bool, true, false, cond, ◌&&◌, ◌||◌, eqb, ltb, leb, List, [], ◌∷◌, ◌++◌, length, Option, Some, None, refl, sym, ap, ◌∙◌, subst, arith, append-nil, append_assoc}
use Rattle.std.specs.List.{AllByRecursion}
use Rattle.std.proofs.lemmas.Bool.{true≢false, false≢true, eqb-true, eqb-false, ltb-true, ltb-false, leb-true, leb-false, eq-eqb, lt-ltb, le-leb, ne_eqb, and_from, and_right, or_parts, or_from, or_left, or_right}
use Rattle.std.proofs.lemmas.List.Folds.{list_any-append}
use Rattle.rip_wire.specs.declared.ending.Ending.{Ending}
use Rattle.rip_wire.specs.declared.ending.Ending.TheVariants.{Memory}
use Rattle.rip_history.specs.Parts.{Fact, passes, serves, finishes, Given, IsLack, IsLawful, Lacking, Meaning, Part, before, behind, ends_batch, ends_session, has_ended, has_finished, is_before, lacking_part, served_count, serves_call, spent, tells_call, with_lack}
use Rattle.rip_history.specs.Services.{serving_of, servings_in}
use Rattle.rip_history.specs.Stages.{ComesNow, GoesLacking, GoesOn, IsProgress, Stage, come, has_come}
use Rattle.rip_history.specs.declared.sessions.Progress.{Progress}
use Rattle.rip_history.specs.declared.sessions.Progress.TheVariants.{Busy, Finished}
use Rattle.rip_history.proofs.ComeLemmas.{HasCome, come_all, come_bounds, come_splits, come_whole, left}
use Rattle.rip_law_history.proofs.FitLemmas.{whole_of}
use Rattle.rip_law_history.proofs.WholeMadeLemmas.{all-join, all-maps}
use Rattle.rip_law_history.proofs.StandLemmas.{IsNow}
use Rattle.rip_law_server.specs.Rising.{Follows, PartsRise, Rise}

-- ---- what has not come

-- the part is of a later batch, or costs more than was spent of its own
abbrev Late : ℕ → ℕ → Part → Type 0
Late last units p = (last < p.batch) ⊎ ((p.batch ≡ last) × (units < p.cost))

late-of : (last units : ℕ) (p : Part) → has_come last units p ≡ false → Late last units p
late-of last units p h =
    let both = or_parts (ltb p.batch last) (eqb p.batch last && leb p.cost units) h in
    by (eqb p.batch last) refl (ltb-false p.batch last both.0) both.1
  where
    by : (b : Bool) → eqb p.batch last ≡ b → last ≤ p.batch → (b && leb p.cost units) ≡ false → Late last units p
    by true e le k = inr (eqb-true p.batch last e, omega (arith, leb-false p.cost units k))
    by false e le k = inl (omega (arith, le, eqb-false p.batch last e))

late-on : (last units : ℕ) (p q : Part) → Late last units p → Follows p.batch p.item p.cost q → Late last units q
late-on last units p q (inl lt) (inl (b, one, call)) = inl (omega (arith, lt, b))
late-on last units p q (inl lt) (inr (same, item, le, call)) = inl (omega (arith, lt, same))
late-on last units p q (inr (same, dear)) (inl (b, one, call)) = inl (omega (arith, same, b))
late-on last units p q (inr (same, dear)) (inr (is, item, le, call)) = inr (is ∙ same, omega (arith, dear, le))

all-late : (last units : ℕ) (p : Part) (ps : List Part) → Late last units p → Rise p.batch p.item p.cost ps → AllByRecursion (Late last units) ps
all-late last units p [] late r = tt
all-late last units p (q ∷ ps) late r =
    let next = late-on last units p q late r.0 in (next, all-late last units q ps next r.1)

left-late : (last units b n c : ℕ) (ps : List Part) → Rise b n c ps → AllByRecursion (Late last units) (left last units ps)
left-late last units b n c [] r = tt
left-late last units b n c (p ∷ ps) r = by (has_come last units p) refl (left-late last units p.batch p.item p.cost ps r.1)
  where
    by : (t : Bool) → has_come last units p ≡ t → AllByRecursion (Late last units) (left last units ps)
        → AllByRecursion (Late last units) (cond t (left last units ps) (p ∷ ps))
    by true e h = h
    by false e h = let late = late-of last units p e in (late, all-late last units p ps late r.1)

now-of : (last units limit : ℕ) (p : Part) → Late last units p → has_come last limit p ≡ true → IsNow last units p
now-of last units limit p (inl lt) h = absurd (omega (arith, lt, come_bounds last limit p h))
now-of last units limit p (inr now) h = now

all-now : (last units limit : ℕ) (ps : List Part) → AllByRecursion (Late last units) ps → AllByRecursion (HasCome last limit) ps
    → AllByRecursion (IsNow last units) ps
all-now last units limit [] late h = tt
all-now last units limit (p ∷ ps) late h = (now-of last units limit p late.0 h.0, all-now last units limit ps late.1 h.1)

-- what has come stays with more units
come-more : (last units more : ℕ) (p : Part) → has_come last units p ≡ true → has_come last (units + more) p ≡ true
come-more last units more p h = by (ltb p.batch last) (eqb p.batch last) (leb p.cost units) refl h
  where
    by : (b c d : Bool) → leb p.cost units ≡ d → (b || (c && d)) ≡ true → (b || (c && leb p.cost (units + more))) ≡ true
    by true c d e h = refl
    by false true true e h = le-leb p.cost (units + more) (omega (arith, leb-true p.cost units e))
    by false true false e h = absurd (false≢true h)
    by false false d e h = h

-- ---- a call that comes

-- the part is of an earlier batch than this, or of an earlier item of the same
abbrev IsEarlier : ℕ → ℕ → Part → Type 0
IsEarlier batch item p = (batch < p.batch) ⊎ ((p.batch ≡ batch) × (item < p.item))

earlier : (b n c : ℕ) (xs : List Part) (p : Part) (ys : List Part) → Rise b n c (xs ++ p ∷ ys) → IsEarlier b n p
earlier b n c [] p ys (inl (lt, one, call), r) = inl lt
earlier b n c [] p ys (inr (same, item, le, call), r) = inr (same, item)
earlier b n c (x ∷ xs) p ys (f, r) = by f (earlier x.batch x.item x.cost xs p ys r)
  where
    by : Follows b n c x → IsEarlier x.batch x.item p → IsEarlier b n p
    by (inl (lt, one, call)) (inl far) = inl (omega (arith, lt, far))
    by (inl (lt, one, call)) (inr (is, near)) = inl (omega (arith, lt, is))
    by (inr (same, item, le, call)) (inl far) = inl (omega (arith, same, far))
    by (inr (same, item, le, call)) (inr (is, near)) = inr (is ∙ same, omega (arith, item, near))

abbrev lack_of : Part → Lacking
lack_of p = record { batch = p.batch; item = p.item; cost = p.cost }

is-earlier : (x p : Part) → IsEarlier x.batch x.item p → is_before (lack_of p) x ≡ true
is-earlier x p (inl lt) = or_left (ltb x.batch p.batch) (eqb x.batch p.batch && ltb x.item p.item) (lt-ltb x.batch p.batch lt)
is-earlier x p (inr (same, lt)) =
    or_right (ltb x.batch p.batch) (eqb x.batch p.batch && ltb x.item p.item)
    (and_from (eqb x.batch p.batch) (ltb x.item p.item) (eq-eqb x.batch p.batch (sym same)) (lt-ltb x.item p.item lt))

not-less : (n : ℕ) → ltb n n ≡ false
not-less n = by (ltb n n) refl
  where
    by : (b : Bool) → ltb n n ≡ b → b ≡ false
    by true e = absurd (omega (arith, ltb-true n n e))
    by false e = refl

not-earlier : (p : Part) → is_before (lack_of p) p ≡ false
not-earlier p = or_from (ltb p.batch p.batch) (eqb p.batch p.batch && ltb p.item p.item) (not-less p.batch) (and_right (eqb p.batch p.batch) (ltb p.item p.item) (not-less p.item))

-- the parts before it, and the others
before-call : (b n c : ℕ) (xs : List Part) (p : Part) (ys : List Part) → Rise b n c (xs ++ p ∷ ys)
    → (before (lack_of p) (xs ++ p ∷ ys) ≡ xs) × (behind (lack_of p) (xs ++ p ∷ ys) ≡ p ∷ ys)
before-call b n c [] p ys r = (
  ap (λ (t : Bool). cond t (p ∷ before (lack_of p) ys) []) (not-earlier p),
  ap (λ (t : Bool). cond t (behind (lack_of p) ys) (p ∷ ys)) (not-earlier p),
)
before-call b n c (x ∷ xs) p ys r =
    let rest = before-call x.batch x.item x.cost xs p ys r.1 in
    let here = is-earlier x p (earlier x.batch x.item x.cost xs p ys r.1) in
    let l = lack_of p in (
      ap (λ (t : Bool). cond t (x ∷ before l (xs ++ p ∷ ys)) []) here ∙ ap (λ (t : List Part). x ∷ t) rest.0,
      ap (λ (t : Bool). cond t (behind l (xs ++ p ∷ ys)) (x ∷ (xs ++ p ∷ ys))) here ∙ rest.1,
    )

-- what the batch of a call has spent before it is less than it costs
spent-below : (b n c units : ℕ) (xs : List Part) (p : Part) (ys : List Part) → Rise b n c (xs ++ p ∷ ys) → serves_call p.fact ≡ true
    → (b ≡ p.batch → units ≡ c) → (b < p.batch → units ≡ 1) → spent p.batch xs units < p.cost
spent-below b n c units [] p ys (inl (lt, one, call), r) calls own first = omega (arith, first lt, call calls)
spent-below b n c units [] p ys (inr (same, item, le, call), r) calls own first = omega (arith, own (sym same), call calls)
spent-below b n c units (x ∷ xs) p ys (f, r) calls own first =
    spent-below x.batch x.item x.cost (cond (eqb x.batch p.batch) x.cost units) xs p ys r calls
    (λ same. ap (λ (t : Bool). cond t x.cost units) (eq-eqb x.batch p.batch same))
    (λ lt. ap (λ (t : Bool). cond t x.cost units) (ne_eqb x.batch p.batch (λ e. omega (arith, lt, e))) ∙ first (below f lt))
  where
    below : Follows b n c x → x.batch < p.batch → b < p.batch
    below (inl (low, one, call)) lt = omega (arith, low, lt)
    below (inr (same, item, le, call)) lt = omega (arith, same, lt)

-- ---- up to a call

-- no call is served, and no batch is done
abbrev IsQuiet : Part → Type 0
IsQuiet p = p.fact ≡ passes

-- no call is served
abbrev pub IsSilent : Part → Type 0
IsSilent p = serves_call p.fact ≡ false

-- there is no part more; or the first does not come, is the end of a batch, or serves a call
abbrev Halts : ℕ → ℕ → List Part → Type 0
Halts last limit [] = Unit {0}
Halts last limit (p ∷ ps) =
    (has_come last limit p ≡ false) ⊎ ((has_come last limit p ≡ true) × (((how : Option Ending) × (p.fact ≡ finishes how)) ⊎ (serves_call p.fact ≡ true)))

record Reaches (last limit : ℕ) (ps : List Part) : Type 0 where
  pub passed : List Part
  pub others : List Part
  pub are : ps ≡ passed ++ others
  pub quiet : AllByRecursion IsQuiet passed
  pub come : AllByRecursion (HasCome last limit) passed
  pub halts : Halts last limit others

reaches-step : (last limit : ℕ) (p : Part) (ps : List Part) (b : Bool) → has_come last limit p ≡ b → (f : Fact) → p.fact ≡ f → Reaches last limit ps
    → Reaches last limit (p ∷ ps)
reaches-step last limit p ps false e f is r = record { passed = []; others = p ∷ ps; are = refl; quiet = tt; come = tt; halts = inl e }
reaches-step last limit p ps true e passes is r = record {
  passed = p ∷ r.passed;
  others = r.others;
  are = ap (λ (t : List Part). p ∷ t) r.are;
  quiet = (is, r.quiet);
  come = (e, r.come);
  halts = r.halts;
}
reaches-step last limit p ps true e (serves number name args) is r =
    record { passed = []; others = p ∷ ps; are = refl; quiet = tt; come = tt; halts = inr (e, inr (ap serves_call is)) }
reaches-step last limit p ps true e (finishes how) is r =
    record { passed = []; others = p ∷ ps; are = refl; quiet = tt; come = tt; halts = inr (e, inl (how, is)) }

reaches : (last limit : ℕ) (ps : List Part) → Reaches last limit ps
reaches last limit [] = record { passed = []; others = []; are = refl; quiet = tt; come = tt; halts = tt }
reaches last limit (p ∷ ps) = reaches-step last limit p ps (has_come last limit p) refl p.fact refl (reaches last limit ps)

-- ---- quiet parts

quiet-busy : (ps : List Part) → AllByRecursion IsQuiet ps → has_finished ps ≡ false
quiet-busy [] h = refl
quiet-busy (p ∷ ps) h = or_from (ends_batch p.fact) (has_finished ps) (ap ends_batch h.0) (quiet-busy ps h.1)

quiet-lives : (ps : List Part) → AllByRecursion IsQuiet ps → has_ended ps ≡ false
quiet-lives [] h = refl
quiet-lives (p ∷ ps) h = or_from (ends_session p.fact) (has_ended ps) (ap ends_session h.0) (quiet-lives ps h.1)

quiet-silent : (ps : List Part) → AllByRecursion IsQuiet ps → AllByRecursion IsSilent ps
quiet-silent ps h = all-maps IsQuiet IsSilent (λ p e. ap serves_call e) ps h

none-served : (ps : List Part) → AllByRecursion IsSilent ps → served_count ps ≡ 0
none-served [] h = refl
none-served (p ∷ ps) h = ap (λ (b : Bool). cond b (suc (served_count ps)) (served_count ps)) h.0 ∙ none-served ps h.1

pub no_servings : (ps : List Part) → AllByRecursion IsSilent ps → servings_in ps ≡ []
no_servings [] h = refl
no_servings (p ∷ ps) h = (λ i. none p.fact h.0 i ++ no_servings ps h.1 i)
  where
    none : (f : Fact) → serves_call f ≡ false → serving_of p.batch f ≡ []
    none passes e = refl
    none (serves number name args) e = absurd (true≢false e)
    none (finishes how) e = refl

-- ---- a session goes on

-- it goes on by 1,000 units, and no call is served
pub record GoesSilent (m : Meaning) (st : Stage) : Type 0 where
  pub parts : List Part
  pub next : Stage
  pub progress : Progress
  pub goes_on : GoesOn m st 1000 [] parts next
  pub silent : AllByRecursion IsSilent parts
  pub how_far : IsProgress progress parts

module _ (m : Meaning) (lawful : IsLawful m) (rises : PartsRise m) (st : Stage) (none : st.lacking ≡ None)
    (alive : has_ended (come (length st.batches) st.units (whole_of m st)) ≡ false) where
  abbrev last : ℕ
  last = length st.batches

  abbrev limit : ℕ
  limit = st.units + 1000

  abbrev whole : List Part
  whole = whole_of m st

  abbrev came : List Part
  came = come last st.units whole

  abbrev rest : List Part
  rest = left last st.units whole

  abbrev walk : Reaches last limit rest
  walk = reaches last limit rest

  abbrev passed : List Part
  passed = walk.passed

  splits : whole ≡ (came ++ passed) ++ walk.others
  splits = come_splits last st.units whole ∙ ap (λ (t : List Part). came ++ t) walk.are ∙ sym (append_assoc came passed walk.others)

  rising : Rise 0 0 1 whole
  rising = rises st.seed st.time st.batches st.given

  late : AllByRecursion (Late last st.units) rest
  late = left-late last st.units 0 0 1 whole (rises st.seed st.time st.batches st.given)

  have-come : AllByRecursion (HasCome last limit) (came ++ passed)
  have-come =
      all-join (HasCome last limit) came passed
      (all-maps (HasCome last st.units) (HasCome last limit) (λ p h. come-more last st.units 1000 p h) came (come_all last st.units whole)) walk.come

  going : (parts : List Part) (new : Option Lacking) (progress : Progress) → GoesLacking whole parts None new
      → come last limit (with_lack new whole) ≡ came ++ parts → AllByRecursion (IsNow last st.units) parts → AllByRecursion IsSilent parts
      → IsProgress progress parts → GoesSilent m st
  going parts new progress lacks comes now silent far = record {
    parts = parts;
    next = record st { units = limit; lacking = new };
    progress = progress;
    goes_on = record {
      seed = refl;
      time = refl;
      batches = refl;
      given = sym (append-nil st.given);
      units = refl;
      lacking = subst (λ (gs : List Given). GoesLacking (m st.seed st.time st.batches gs) parts st.lacking new) (sym (append-nil st.given))
          (subst (λ (o : Option Lacking). GoesLacking whole parts o new) (sym none) lacks);
      come = comes ∙ ap (λ (o : Option Lacking). come last st.units (with_lack o whole) ++ parts) (sym none);
      now = all-maps (IsNow last st.units) (ComesNow st) (λ p n. record { batch = n.0; above = n.1 }) parts now;
      each = none-served parts silent;
    };
    silent = silent;
    how_far = far;
  }

  late-split : (os : List Part) → walk.others ≡ os → AllByRecursion (Late last st.units) (passed ++ os)
  late-split os e = subst (λ (t : List Part). AllByRecursion (Late last st.units) t) (walk.are ∙ ap (λ (t : List Part). passed ++ t) e) late

  -- nothing more comes
  stops : (os : List Part) → walk.others ≡ os → come last limit os ≡ [] → GoesSilent m st
  stops os e nothing =
      going passed None Busy (inl refl)
      (ap (come last limit) (splits ∙ ap (λ (t : List Part). (came ++ passed) ++ t) e) ∙ come_whole last limit (came ++ passed) os have-come
      ∙ ap (λ (t : List Part). (came ++ passed) ++ t) nothing ∙ append-nil (came ++ passed))
      (all-now last st.units limit passed (left-all passed os (late-split os e)) walk.come) (quiet-silent passed walk.quiet) (quiet-busy passed walk.quiet)
    where
      left-all : (xs ys : List Part) → AllByRecursion (Late last st.units) (xs ++ ys) → AllByRecursion (Late last st.units) xs
      left-all [] ys h = tt
      left-all (x ∷ xs) ys h = (h.0, left-all xs ys h.1)

  -- the last batch is done
  ends : (p : Part) (os : List Part) → walk.others ≡ p ∷ os → has_come last limit p ≡ true → (how : Option Ending) → p.fact ≡ finishes how → GoesSilent m st
  ends p os e comes how fact =
      going (passed ++ p ∷ []) None (Finished how) (inl refl)
      (ap (come last limit) all ∙ come_whole last limit (came ++ (passed ++ p ∷ [])) [] each ∙ append-nil (came ++ (passed ++ p ∷ []))) now
      (all-join IsSilent passed (p ∷ []) (quiet-silent passed walk.quiet) (ap serves_call fact, tt))
      record { others = passed; last = p; are = refl; busy = quiet-busy passed walk.quiet; fact = fact }
    where
      now-all : AllByRecursion (IsNow last st.units) (passed ++ p ∷ [])
      now-all = firsts passed os (late-split (p ∷ os) e) walk.come
        where
          firsts : (xs ys : List Part) → AllByRecursion (Late last st.units) (xs ++ p ∷ ys) → AllByRecursion (HasCome last limit) xs
              → AllByRecursion (IsNow last st.units) (xs ++ p ∷ [])
          firsts [] ys h c = (now-of last st.units limit p h.0 comes, tt)
          firsts (x ∷ xs) ys h c = (now-of last st.units limit x h.0 c.0, firsts xs ys h.1 c.1)

      now : AllByRecursion (IsNow last st.units) (passed ++ p ∷ [])
      now = now-all

      split : whole ≡ (came ++ passed) ++ p ∷ os
      split = splits ∙ ap (λ (t : List Part). (came ++ passed) ++ t) e

      own : p.batch ≡ last
      own = (last-of passed now).0
        where
          last-of : (xs : List Part) → AllByRecursion (IsNow last st.units) (xs ++ p ∷ []) → IsNow last st.units p
          last-of [] h = h.0
          last-of (x ∷ xs) h = last-of xs h.1

      nothing : os ≡ []
      nothing = lawful.last st.seed st.time st.batches st.given (came ++ passed) p os split own (ap ends_batch fact)

      all : whole ≡ (came ++ (passed ++ p ∷ [])) ++ []
      all = split ∙ ap (λ (t : List Part). (came ++ passed) ++ p ∷ t) nothing ∙ append_assoc came passed (p ∷ []) ∙ sym (append-nil (came ++ (passed ++ p ∷ [])))

      each : AllByRecursion (HasCome last limit) (came ++ (passed ++ p ∷ []))
      each = subst (λ (t : List Part). AllByRecursion (HasCome last limit) t) (append_assoc came passed (p ∷ []))
          (all-join (HasCome last limit) (came ++ passed) (p ∷ []) have-come (comes, tt))

  -- a call comes, and memory is wanting
  lacks : (p : Part) (os : List Part) → walk.others ≡ p ∷ os → has_come last limit p ≡ true → serves_call p.fact ≡ true → GoesSilent m st
  lacks p os e comes call =
      going (passed ++ end ∷ []) (Some l) (Finished (Some (Memory p.item))) (inr record { lack = l; none = refl; some = refl; may = may; ends = over })
      (ap (λ (t : List Part). come last limit (t ++ end ∷ [])) cut.0 ∙ come_whole last limit (came ++ passed) (end ∷ []) have-come
      ∙ ap (λ (t : Bool). (came ++ passed) ++ cond t (end ∷ []) []) comes ∙ append_assoc came passed (end ∷ [])) now
      (all-join IsSilent passed (end ∷ []) (quiet-silent passed walk.quiet) (refl, tt))
      record { others = passed; last = end; are = refl; busy = quiet-busy passed walk.quiet; fact = refl }
    where
      l : Lacking
      l = lack_of p

      end : Part
      end = lacking_part l

      split : whole ≡ (came ++ passed) ++ p ∷ os
      split = splits ∙ ap (λ (t : List Part). (came ++ passed) ++ t) e

      rising-split : Rise 0 0 1 ((came ++ passed) ++ p ∷ os)
      rising-split = subst (λ (t : List Part). Rise 0 0 1 t) split rising

      cut : (before l whole ≡ came ++ passed) × (behind l whole ≡ p ∷ os)
      cut =
          let here = before-call 0 0 1 (came ++ passed) p os rising-split in
          (ap (before l) split ∙ here.0, ap (behind l) split ∙ here.1)

      tells : (f : Fact) → serves_call f ≡ true → tells_call f ≡ true
      tells passes e = absurd (false≢true e)
      tells (serves number name args) e = refl
      tells (finishes how) e = absurd (false≢true e)

      may : IsLack l whole
      may = record {
        part = p;
        others = os;
        comes = cut.1;
        batch = refl;
        item = refl;
        call = tells p.fact call;
        lives = ap has_ended cut.0 ∙ list_any-append (λ (q : Part). ends_session q.fact) came passed ∙ or_from (has_ended came) (has_ended passed) alive (quiet-lives passed walk.quiet);
        above = subst (λ (t : List Part). spent l.batch t 1 < l.cost) (sym cut.0)
            (spent-below 0 0 1 1 (came ++ passed) p os rising-split call (λ e. refl) (λ lt. refl));
        within = omega arith;
      }

      over : has_ended (passed ++ end ∷ []) ≡ true
      over = list_any-append (λ (q : Part). ends_session q.fact) passed (end ∷ []) ∙ or_right (has_ended passed) (has_ended (end ∷ [])) refl

      now : AllByRecursion (IsNow last st.units) (passed ++ end ∷ [])
      now = firsts passed os (late-split (p ∷ os) e) walk.come
        where
          firsts : (xs ys : List Part) → AllByRecursion (Late last st.units) (xs ++ p ∷ ys) → AllByRecursion (HasCome last limit) xs
              → AllByRecursion (IsNow last st.units) (xs ++ end ∷ [])
          firsts [] ys h c = (now-of last st.units limit p h.0 comes, tt)
          firsts (x ∷ xs) ys h c = (now-of last st.units limit x h.0 c.0, firsts xs ys h.1 c.1)

  by-halt : (os : List Part) → walk.others ≡ os → Halts last limit os → GoesSilent m st
  by-halt [] e h = stops [] e refl
  by-halt (p ∷ os) e (inl h) = stops (p ∷ os) e (ap (λ (t : Bool). cond t (p ∷ come last limit os) []) h)
  by-halt (p ∷ os) e (inr (h, inl (how, fact))) = ends p os e h how fact
  by-halt (p ∷ os) e (inr (h, inr call)) = lacks p os e h call

  pub goes_silent : GoesSilent m st
  goes_silent = by-halt walk.others refl walk.halts
