-- A session whose batches so far were told, and of which the last is done.
use Rattle.std.proofs.Common.{◌≡◌, ℕ, ◌+◌, ◌≤◌, Bool, true, false, cond, not, ◌&&◌, ◌||◌, eqb, List, [], ◌∷◌, ◌++◌, length, Option, Some, None, refl, sym, ap, ◌∙◌, arith, append-nil, length-append}
use Rattle.std.specs.List.{AllByRecursion, list_any}
use Rattle.std.proofs.lemmas.Bool.{true≢false, false≢true, eqb-true, and_parts, or_right}
use Rattle.rip_wire.specs.Batches.{Contents}
use Rattle.rip_log.specs.Entries.{Recorded}
use Rattle.rip_history.specs.Parts.{Meaning, Part, ends_batch, with_lack}
use Rattle.rip_history.specs.Sessions.{Deed, batches_in, deed_of, deeds_of, is_deed, turns_in}
use Rattle.rip_history.specs.Stages.{Stage, finishes_batch}
use Rattle.rip_history.specs.Standings.{has_done, is_busy, standing_of}
use Rattle.rip_history.specs.declared.standing.Standing.{Standing}
use Rattle.rip_history.specs.Run.{is_busy_in, stage_of}
use Rattle.rip_history.proofs.ComeLemmas.{HasCome, come_all, come_bounds}
use Rattle.rip_law_history.proofs.FitLemmas.{AllFit, Fits, whole_of}
use Rattle.rip_law_history.proofs.WholeMadeLemmas.{all-maps}
use Rattle.rip_law_history.proofs.StandLemmas.{at}
use Rattle.rip_law_history.proofs.ViewLemmas.{seen}
use Rattle.rip_law_server.specs.Paced.{was_done}

-- ---- what is done

or-keep : (x y z : Bool) → (y ≡ true → z ≡ true) → (x || y) ≡ true → (x || z) ≡ true
or-keep true y z f h = refl
or-keep false y z f h = f h

abbrev Ends : ℕ → Deed → Bool
Ends number d = eqb d.batch number && ends_batch d.fact

-- a deed that ends a batch is a part that does
deeds-finish : (turns : List ℕ) (number : ℕ) (ps : List Part) → list_any (Ends number) (deeds_of turns ps) ≡ true → finishes_batch number ps ≡ true
deeds-finish turns number [] e = e
deeds-finish turns number (p ∷ ps) e = by (is_deed p.fact) (deeds-finish turns number ps) e
  where
    by : (b : Bool) → (list_any (Ends number) (deeds_of turns ps) ≡ true → finishes_batch number ps ≡ true)
        → list_any (Ends number) (cond b (deed_of turns p ∷ deeds_of turns ps) (deeds_of turns ps)) ≡ true → finishes_batch number (p ∷ ps) ≡ true
    by true rest h = or-keep (eqb p.batch number && ends_batch p.fact) (list_any (Ends number) (deeds_of turns ps)) (finishes_batch number ps) rest h
    by false rest h = or_right (eqb p.batch number && ends_batch p.fact) (finishes_batch number ps) (rest h)

finish-within : (number last : ℕ) (ps : List Part) → AllByRecursion (λ (p : Part). p.batch ≤ last) ps → finishes_batch number ps ≡ true → number ≤ last
finish-within number last [] all e = absurd (false≢true e)
finish-within number last (p ∷ ps) all e = by (eqb p.batch number && ends_batch p.fact) refl (finish-within number last ps all.1) e
  where
    by : (b : Bool) → (eqb p.batch number && ends_batch p.fact) ≡ b → (finishes_batch number ps ≡ true → number ≤ last) → (b || finishes_batch number ps) ≡ true → number ≤ last
    by true is rest h =
        let both = and_parts (eqb p.batch number) (ends_batch p.fact) is in
        omega (arith, eqb-true p.batch number both.0, all.0)
    by false is rest h = rest h

was-last : (o : Option ℕ) (n : ℕ) → not (has_done o n) ≡ false → o ≡ Some n
was-last None n e = absurd (true≢false e)
was-last (Some m) n e = ap Some (eqb-true m n (back (eqb m n) e))
  where
    back : (b : Bool) → not b ≡ false → b ≡ true
    back true h = refl
    back false h = absurd (true≢false h)

-- ---- where a client's batches were told

-- so many batches were told, of which the session's are the first
pub record Told (m : Meaning) (u n : ℕ) (h : List Recorded) (stages : List Stage) (count : ℕ) (asked : List Contents) : Type 0 where
  pub fit : AllFit m u h stages
  pub size : length asked ≡ count
  pub more : List Contents
  pub front : asked ≡ batches_in n h ++ more

-- the session has all of them, and the last is done
pub record IsIdle (n : ℕ) (h : List Recorded) (count : ℕ) (asked : List Contents) : Type 0 where
  pub standing : Standing
  pub stands : standing_of n h ≡ Some standing
  pub done : standing.done ≡ Some standing.last
  pub last : standing.last ≡ count
  pub all : asked ≡ batches_in n h

empty : {A : Type 0} (xs : List A) → length xs ≡ 0 → xs ≡ []
empty [] e = refl
empty (x ∷ xs) e = absurd (omega (arith, e))

-- so it is where the last that was told is done
pub told_idle : (m : Meaning) (u n : ℕ) (h : List Recorded) (stages : List Stage) (count : ℕ) (asked : List Contents)
    → Told m u n h stages count asked → was_done n count h ≡ true → IsIdle n h count asked
told_idle m u n h stages count asked w done = by (stage_of n stages) (let f = w.fit in f.each n)
  where
    by : (o : Option Stage) → Fits m u (seen n h) o → IsIdle n h count asked
    by None k = absurd (false≢true (sym (ap (list_any (Ends count)) k.deeds) ∙ done))
    by (Some st) k = record {
      standing = k.standing;
      stands = k.is;
      done = was-last (let s = k.standing in s.done) (let s = k.standing in s.last) idle;
      last = number ∙ sym same;
      all = w.front ∙ ap (λ (more : List Contents). batches_in n h ++ more) none ∙ append-nil (batches_in n h);
    }
      where
        parts : List Part
        parts = at (whole_of m st) st.lacking st.units (length st.batches)

        number : (let s = k.standing in s.last) ≡ length st.batches
        number = (let x = k.stands in x.number)

        finished : finishes_batch count parts ≡ true
        finished = deeds-finish (turns_in n h) count parts (sym (ap (list_any (Ends count)) (let x = k.stands in x.deeds)) ∙ done)

        within : count ≤ length st.batches
        within =
            finish-within count (length st.batches) parts
            (all-maps (HasCome (length st.batches) st.units) (λ (p : Part). p.batch ≤ length st.batches) (come_bounds (length st.batches) st.units) parts
            (come_all (length st.batches) st.units (with_lack st.lacking (whole_of m st))))
            finished

        sizes : count ≡ length st.batches + length w.more
        sizes = sym w.size ∙ ap length w.front ∙ length-append (batches_in n h) w.more ∙ ap (λ (bs : List Contents). length bs + length w.more) k.batches

        same : count ≡ length st.batches
        same = omega (arith, within, sizes)

        none : w.more ≡ []
        none = empty w.more (omega (arith, within, sizes))

        idle : is_busy k.standing ≡ false
        idle = (let x = k.stands in x.busy) ∙ ap (λ (last : ℕ). not (finishes_batch last parts)) (sym same) ∙ ap not finished

-- the last batch of a busy session is not done
pub busy_undone : (m : Meaning) (u n : ℕ) (h : List Recorded) (st : Stage) → Fits m u (seen n h) (Some st) → is_busy_in (standing_of n h) ≡ true
    → was_done n (length st.batches) h ≡ false
busy_undone m u n h st k busy = by (was_done n (length st.batches) h) refl
  where
    parts : List Part
    parts = at (whole_of m st) st.lacking st.units (length st.batches)

    by : (b : Bool) → was_done n (length st.batches) h ≡ b → was_done n (length st.batches) h ≡ false
    by true is =
        let finished : finishes_batch (length st.batches) parts ≡ true =
        deeds-finish (turns_in n h) (length st.batches) parts (sym (ap (list_any (Ends (length st.batches))) (let x = k.stands in x.deeds)) ∙ is) in
        let idle : is_busy k.standing ≡ false = (let x = k.stands in x.busy) ∙ ap not finished in
        absurd (true≢false (sym busy ∙ ap is_busy_in k.is ∙ idle))
    by false is = is
