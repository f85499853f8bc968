-- A session that lives stands at its stage when it is opened, has one more batch, is closed or goes on.
use Rattle.std.proofs.Common.{◌≡◌, inl, inr, ℕ, ◌+◌, ◌≤◌, Bool, true, false, not, ◌&&◌, ◌||◌, eqb, List, [], ◌∷◌, ◌++◌, length, Option, Some, None, refl, sym, ap, ◌∙◌, subst, arith, length-append}
use Rattle.std.specs.Prelude.{is_some, option_map}
use Rattle.std.specs.List.{AllByRecursion}
use Rattle.std.proofs.lemmas.Bool.{true≢false, false≢true, eq-eqb, ne_eqb, and_from, and_left, and_right, or_parts, or_from, or_left, or_right, not-false, not-true}
use Rattle.std.proofs.lemmas.List.Folds.{list_any-append}
use Rattle.rip_wire.specs.Batches.{Contents}
use Rattle.rip_wire.specs.Reasons.{reason_of}
use Rattle.rip_wire.specs.declared.ending.Ending.{Ending}
use Rattle.rip_wire.specs.declared.ending.Reason.{Reason}
use Rattle.rip_history.specs.Parts.{Fact, passes, serves, finishes, Part, Given, Meaning, IsLawful, ends_batch, ends_session, has_finished, has_ended}
use Rattle.rip_history.specs.Stages.{Stage, begun, with_batch, MayAdmit, is_done, is_ended, parts_at, whole_parts, finishes_batch, ComesNow, GoesLacking, GoesOn, IsProgress, FinishesSo}
use Rattle.rip_history.specs.Standings.{when_opened, when_admitted, when_done, when_closed, has_done, is_busy}
use Rattle.rip_history.specs.declared.sessions.Progress.TheVariants.{Busy, Finished}
use Rattle.rip_history.specs.declared.standing.Standing.{Standing}
use Rattle.rip_history.proofs.ComeLemmas.{HasCome, come_all, come_bounds, all_right}
use Rattle.rip_history.proofs.KeepLemmas.{meanings_keep, all_maps}
use Rattle.rip_table.specs.Seats.{standing_in, IsThere, StandsAt}
use Rattle.rip_table.specs.declared.roll.seat.Seat.{Seat}

-- ---- standings

pub idle_done : (s : Standing) → s.done ≡ Some s.last → is_busy s ≡ false
idle_done s e = ap (λ (o : Option ℕ). not (has_done o s.last)) e ∙ ap not (eq-eqb s.last s.last refl)

pub busy_admitted : (s : Standing) (number : ℕ) → s.done ≡ Some s.last → number ≡ s.last + 1 → is_busy (when_admitted number s) ≡ true
busy_admitted s number e next =
    ap (λ (o : Option ℕ). not (has_done o number)) e ∙ ap not (ne_eqb s.last number (λ same. omega (arith, same, next)))

pub idle_finished : (s : Standing) (how : Option Reason) → is_busy (when_done s.last how s) ≡ false
idle_finished s how = ap not (eq-eqb s.last s.last refl)

-- ---- parts

fact-ends : (f : Fact) → ends_batch f ≡ false → ends_session f ≡ false
fact-ends passes e = refl
fact-ends (serves number name args) e = refl
fact-ends (finishes how) e = absurd (true≢false e)

-- parts in which no batch is done end no session, and no batch
unfinished-lives : (ps : List Part) → has_finished ps ≡ false → has_ended ps ≡ false
unfinished-lives [] h = refl
unfinished-lives (p ∷ ps) h =
    let both = or_parts (ends_batch p.fact) (has_finished ps) h in
    or_from (ends_session p.fact) (has_ended ps) (fact-ends p.fact both.0) (unfinished-lives ps both.1)

unfinished-busy : (last : ℕ) (ps : List Part) → has_finished ps ≡ false → finishes_batch last ps ≡ false
unfinished-busy last [] h = refl
unfinished-busy last (p ∷ ps) h =
    let both = or_parts (ends_batch p.fact) (has_finished ps) h in
    or_from (eqb p.batch last && ends_batch p.fact) (finishes_batch last ps) (and_right (eqb p.batch last) (ends_batch p.fact) both.0) (unfinished-busy last ps both.1)

none-of-next : (last : ℕ) (ps : List Part) → AllByRecursion (λ (p : Part). p.batch ≤ last) ps → finishes_batch (last + 1) ps ≡ false
none-of-next last [] h = refl
none-of-next last (p ∷ ps) h =
    or_from (eqb p.batch (last + 1) && ends_batch p.fact) (finishes_batch (last + 1) ps)
    (and_left (eqb p.batch (last + 1)) (ends_batch p.fact) (ne_eqb p.batch (last + 1) (λ e. omega (arith, h.0, e)))) (none-of-next last ps h.1)

-- the last of these parts ends its batch, of this number, and the session where it says so
finished-is : (last : ℕ) (how : Option Ending) (ps : List Part) → FinishesSo how ps → AllByRecursion (λ (p : Part). p.batch ≡ last) ps
    → (finishes_batch last ps ≡ true) × (has_ended ps ≡ is_some how)
finished-is last how ps f own = (
  ap (finishes_batch last) f.are
      ∙ list_any-append (λ (p : Part). eqb p.batch last && ends_batch p.fact) f.others (f.last ∷ [])
      ∙ or_right (finishes_batch last f.others) (finishes_batch last (f.last ∷ []))
      (or_left ((eqb (let p = f.last in p.batch) last) && ends_batch (let p = f.last in p.fact)) false
      (and_from (eqb (let p = f.last in p.batch) last) (ends_batch (let p = f.last in p.fact)) (eq-eqb (let p = f.last in p.batch) last of-batch) (ap ends_batch f.fact))),
  ap has_ended f.are ∙ list_any-append (λ (p : Part). ends_session p.fact) f.others (f.last ∷ [])
      ∙ ap (λ (b : Bool). b || has_ended (f.last ∷ [])) (unfinished-lives f.others f.busy)
      ∙ or-false (ends_session (let p = f.last in p.fact)) ∙ ap ends_session f.fact,
)
  where
    of-batch : (let p = f.last in p.batch) ≡ last
    of-batch = (all_right (λ (p : Part). p.batch ≡ last) f.others (f.last ∷ []) (subst (λ (qs : List Part). AllByRecursion (λ (p : Part). p.batch ≡ last) qs) f.are own)).0

    or-false : (b : Bool) → (b || false) ≡ b
    or-false true = refl
    or-false false = refl

ends-none : (how : Option Ending) → option_map reason_of how ≡ None → is_some how ≡ false
ends-none None e = refl
ends-none (Some ending) e = absurd (true≢false (ap (λ (o : Option Reason). is_some o) e))

-- ---- a session

module _ {T : Type 0} (stands : T → Stage → Type 0) (m : Meaning) where
  pub opened_stands : IsLawful m → (seat : Seat T) (seed time : ℕ) → standing_in seat ≡ when_opened → IsThere stands seat (begun seed time)
      → StandsAt stands m seat (begun seed time)
  opened_stands lawful seat seed time fresh there = record {
    number = ap (λ (s : Standing). s.last) fresh;
    busy = λ e. ap (λ (s : Standing). s.ended) fresh;
    lives = λ e. record {
      there = there;
      sound = refl;
      open_yet = ap has_ended none;
      progress = ap is_busy fresh ∙ sym (ap (λ (ps : List Part). not (finishes_batch 0 ps)) none);
    };
  }
    where
      none : parts_at m (begun seed time) ≡ []
      none = let keeps = meanings_keep m lawful in keeps.opens seed time

  -- a batch may be admitted where the session is idle and lives, and its number is the next
  pub may_admit : (seat : Seat T) (st : Stage) (b : Contents) → StandsAt stands m seat st
      → (standing_in seat).ended ≡ None → (standing_in seat).done ≡ Some (standing_in seat).last → b.number ≡ (standing_in seat).last + 1
      → MayAdmit m st b
  may_admit seat st b s alive idle next =
      let lives = s.lives alive in
      record {
        sound = lives.sound;
        done = not-false (is_done m st) (sym lives.progress ∙ idle_done (standing_in seat) idle);
        lives = lives.open_yet;
        next = omega (arith, next, s.number);
      }

  pub admitted_stands : IsLawful m → (seat new : Seat T) (st : Stage) (b : Contents) → StandsAt stands m seat st
      → (standing_in seat).ended ≡ None → (standing_in seat).done ≡ Some (standing_in seat).last → b.number ≡ (standing_in seat).last + 1
      → standing_in new ≡ when_admitted b.number (standing_in seat) → IsThere stands new (with_batch b st)
      → StandsAt stands m new (with_batch b st)
  admitted_stands lawful seat new st b s alive idle next is there = record {
    number = ap (λ (x : Standing). x.last) is ∙ omega (arith, next, s.number, size);
    busy = λ e. ap (λ (x : Standing). x.ended) is ∙ alive;
    lives = λ e. record {
      there = there;
      sound = (let lives = s.lives alive in lives.sound);
      open_yet = ap has_ended same ∙ (let lives = s.lives alive in lives.open_yet);
      progress =
          ap is_busy is ∙ busy_admitted (standing_in seat) b.number idle next
          ∙ ap not (sym ((λ i. finishes_batch (size i) (same i)) ∙ none-of-next (length st.batches) (parts_at m st) within));
    };
  }
    where
      size : length (st.batches ++ b ∷ []) ≡ length st.batches + 1
      size = length-append st.batches (b ∷ [])

      same : parts_at m (with_batch b st) ≡ parts_at m st
      same = let keeps = meanings_keep m lawful in keeps.admits st b (may_admit seat st b s alive idle next)

      within : AllByRecursion (λ (p : Part). p.batch ≤ length st.batches) (parts_at m st)
      within =
          all_maps (HasCome (length st.batches) st.units) (λ (p : Part). p.batch ≤ length st.batches) (come_bounds (length st.batches) st.units)
          (parts_at m st) (come_all (length st.batches) st.units (whole_parts m st))

  pub closed_stands : (seat new : Seat T) (st : Stage) → StandsAt stands m seat st → (standing_in seat).done ≡ Some (standing_in seat).last
      → standing_in new ≡ when_closed (standing_in seat) → StandsAt stands m new st
  closed_stands seat new st s idle is = record {
    number = ap (λ (x : Standing). x.last) is ∙ s.number;
    busy = λ e. absurd (false≢true (sym (idle_done (standing_in seat) idle) ∙ sym (ap is_busy is) ∙ e));
    lives = λ e. absurd (true≢false (ap (λ (o : Option Reason). is_some o) (sym (ap (λ (x : Standing). x.ended) is) ∙ e)));
  }

  -- the stage after some units is that of the session
  module _ (seat new : Seat T) (st next : Stage) (n : ℕ) (given : List Given) (parts : List Part) where
    unfold-ended : GoesOn m st n given parts next → is_ended m st ≡ false → is_ended m next ≡ has_ended parts
    unfold-ended g lives =
        ap has_ended g.come ∙ list_any-append (λ (p : Part). ends_session p.fact) (parts_at m st) parts ∙ ap (λ (b : Bool). b || has_ended parts) lives

    unfold-done : GoesOn m st n given parts next → is_done m st ≡ false → is_done m next ≡ finishes_batch (length st.batches) parts
    unfold-done g busy =
        (λ i. finishes_batch (length (g.batches i)) (g.come i))
        ∙ list_any-append (λ (p : Part). eqb p.batch (length st.batches) && ends_batch p.fact) (parts_at m st) parts
        ∙ ap (λ (b : Bool). b || finishes_batch (length st.batches) parts) busy

    still-sound : GoesOn m st n given parts next → st.lacking ≡ None → has_ended parts ≡ false → next.lacking ≡ None
    still-sound g sound lives = by g.lacking
      where
        by : GoesLacking (m st.seed st.time st.batches (st.given ++ given)) parts st.lacking next.lacking → next.lacking ≡ None
        by (inl same) = same ∙ sound
        by (inr k) = absurd (true≢false (sym k.ends ∙ lives))

    own : GoesOn m st n given parts next → AllByRecursion (λ (p : Part). p.batch ≡ length st.batches) parts
    own g = all_maps (ComesNow st) (λ (p : Part). p.batch ≡ length st.batches) (λ p c. c.batch) parts g.now

    -- the batch is not done
    pub busy_stands : StandsAt stands m seat st → is_busy (standing_in seat) ≡ true → GoesOn m st n given parts next → IsProgress Busy parts
        → standing_in new ≡ standing_in seat → IsThere stands new next → StandsAt stands m new next
    busy_stands s busy g unfinished is there = record {
      number = ap (λ (x : Standing). x.last) is ∙ s.number ∙ sym (ap length g.batches);
      busy = λ e. ap (λ (x : Standing). x.ended) is ∙ s.busy busy;
      lives = λ e.
          let lives = s.lives (s.busy busy) in
          let ends : has_ended parts ≡ false = unfinished-lives parts unfinished in
          let undone : is_done m st ≡ false = not-true (is_done m st) (sym lives.progress ∙ busy) in
          record {
            there = there;
            sound = still-sound g lives.sound ends;
            open_yet = unfold-ended g lives.open_yet ∙ ends;
            progress =
                ap is_busy is ∙ busy
                ∙ ap not (sym (unfold-done g undone ∙ unfinished-busy (length st.batches) parts unfinished));
          };
    }

    -- the batch is done
    pub done_stands : (how : Option Ending) → StandsAt stands m seat st → is_busy (standing_in seat) ≡ true → GoesOn m st n given parts next
        → IsProgress (Finished how) parts → standing_in new ≡ when_done (standing_in seat).last (option_map reason_of how) (standing_in seat)
        → (how ≡ None → IsThere stands new next) → StandsAt stands m new next
    done_stands how s busy g finished is there = record {
      number = ap (λ (x : Standing). x.last) is ∙ s.number ∙ sym (ap length g.batches);
      busy = λ e. absurd (false≢true (sym idle ∙ e));
      lives = λ e.
          let lives = s.lives (s.busy busy) in
          let alive : option_map reason_of how ≡ None = sym (ap (λ (x : Standing). x.ended) is) ∙ e in
          let facts = finished-is (length st.batches) how parts finished (own g) in
          let ends : has_ended parts ≡ false = facts.1 ∙ ends-none how alive in
          let undone : is_done m st ≡ false = not-true (is_done m st) (sym lives.progress ∙ busy) in
          record {
            there = there (no-ending how alive);
            sound = still-sound g lives.sound ends;
            open_yet = unfold-ended g lives.open_yet ∙ ends;
            progress = idle ∙ ap not (sym (unfold-done g undone ∙ facts.0));
          };
    }
      where
        idle : is_busy (standing_in new) ≡ false
        idle = ap is_busy is ∙ idle_finished (standing_in seat) (option_map reason_of how)

        no-ending : (how : Option Ending) → option_map reason_of how ≡ None → how ≡ None
        no-ending None e = refl
        no-ending (Some ending) e = absurd (true≢false (ap (λ (o : Option Reason). is_some o) e))
