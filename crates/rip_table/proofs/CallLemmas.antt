-- What each call makes of a roll.
use Rattle.std.proofs.Common.{◌≡◌, ◌⊎◌, inl, inr, ℕ, zero, suc, ◌+◌, ◌-◌, ◌<◌, Bool, true, false, cond, not, ◌&&◌, ◌||◌, eqb, List, [], ◌∷◌, ◌++◌, length, map, take, drop, Option, Some, None, refl, sym, ap, ◌∙◌, subst, arith, append-nil, length-append}
use Rattle.std.specs.Prelude.{is_none, is_some, option_map, slice_set}
use Rattle.std.specs.List.{AllByRecursion, zip}
use Rattle.std.proofs.lemmas.Bool.{false≢true, eq-eqb, ne_eqb, cases_eq, not-true}
use Rattle.std.proofs.lemmas.List.{map-append}
use Rattle.std.proofs.lemmas.Option.{same_Some}
use Rattle.rip_wire.specs.Batches.{Contents}
use Rattle.rip_wire.specs.Reasons.{reason_of}
use Rattle.rip_wire.specs.declared.ending.Ending.{Ending}
use Rattle.rip_wire.specs.declared.ending.Reason.{Reason}
use Rattle.rip_log.specs.Entries.{Recorded, opened, admitted, closed}
use Rattle.rip_table.specs.declared.table.Table.{Table}
use Rattle.rip_table.specs.Table.{IsTable, IsSame, Opens, Ends, ids, values, live_value, at_ordinal, with_value}
use Rattle.rip_history.specs.Parts.{Part, Given, Meaning, IsLawful}
use Rattle.rip_history.specs.Requests.{identifiers_in}
use Rattle.rip_history.specs.Run.{is_busy_in, stage_of, with_stage, with_batch_at, done_entries, called_so_far}
use Rattle.rip_history.specs.Sequences.{ordinals_in}
use Rattle.rip_history.specs.Services.{Called, Service, Serving, servings_in, served_entry, served_entries, answered_calls}
use Rattle.rip_history.specs.Stages.{Stage, begun, with_batch, is_done, MayAdmit, ComesNow, GoesOn, IsProgress}
use Rattle.rip_history.specs.Standings.{when_closed, is_busy, standing_of, entries_of}
use Rattle.rip_history.specs.declared.sessions.Progress.{Progress}
use Rattle.rip_history.specs.declared.sessions.Progress.TheVariants.{Busy, Finished}
use Rattle.rip_history.specs.declared.sessions.Slice.{Slice}
use Rattle.rip_history.specs.declared.standing.Standing.{Standing}
use Rattle.rip_history.specs.Decisions.{batch_decision, close_decision}
use Rattle.rip_history.specs.declared.decision.BatchDecision.TheVariants.{Admit}
use Rattle.rip_history.specs.declared.decision.CloseDecision.TheVariants.{Close}
use Rattle.rip_history.proofs.DecisionLemmas.{admits_next, closes_idle}
use Rattle.rip_history.proofs.KeepLemmas.{all_maps}
use Rattle.rip_table.specs.Ordinals.{get_at}
use Rattle.rip_table.specs.Rolls.{seats, IsChanged, IsKept, IsAtStage, IsRollOf, WentOn}
use Rattle.rip_table.specs.Seats.{Held, standing_in, IsSeat, IsKeptAt, has_ended, ends_session, is_unfinished, IsThere, Lives, StandsAt, IsOpened, IsAdmitted, IsClosed, IsAfter, IsGivenUp, LivingSlice, SliceOf, Leaves}
use Rattle.rip_table.specs.Walks.{all_in, among, Rises, IsAdded}
use Rattle.rip_table.specs.declared.roll.busy.Busy.{Busy as Busies}
use Rattle.rip_table.specs.declared.roll.roll.Roll.{Roll}
use Rattle.rip_table.specs.declared.roll.seat.Advanced.{Advanced}
use Rattle.rip_table.specs.declared.roll.seat.Legacy.{Legacy}
use Rattle.rip_table.specs.declared.roll.seat.Seat.{Seat}
use Rattle.rip_table.specs.declared.roll.seat.Seat.TheVariants.{Live}
use Rattle.rip_table.proofs.BusyLemmas.{AreLeftBusy, next_among, passed_busy}
use Rattle.rip_table.proofs.CountLemmas.{AreBusy, busy_same}
use Rattle.rip_table.proofs.ListLemmas.{none_some, at_within, at_new, at_more, at_none, at_set_same, set_same}
use Rattle.rip_table.proofs.OwnLemmas.{AreOthers, identifiers_join, ordinals_push, others_same, tell_same}
use Rattle.rip_table.proofs.RiseLemmas.{IsRemoved}
use Rattle.rip_table.proofs.RollLemmas.{stage_get, stages_length, no_standing, within_by, kept_busy, live_parts, seat_with, seat_live, AreOf, changed_kept, changed_stages, stage_with}
use Rattle.rip_table.proofs.SeatLemmas.{slice_others, slice_called, others_kept, opened_kept, admitted_kept, closed_standing, closed_kept, slice_stands, slice_kept, slice_leaves}
use Rattle.rip_table.proofs.StageLemmas.{idle_done, busy_admitted, idle_finished, may_admit, opened_stands, admitted_stands, closed_stands, busy_stands, done_stands}

-- ---- which are busy

pub standing_other : (n k : ℕ) (h es : List Recorded) → AreOthers k es → standing_of k (h ++ es) ≡ standing_of k h
standing_other n k h es others = let same = tell_same k (h ++ es) h (others_same k h es others) in same.standing

module _ (h es : List Recorded) (n : ℕ) (others : (k : ℕ) → (n ≡ k → ⊥) → AreOthers k es) where
  busy-other : (k : ℕ) → (n ≡ k → ⊥) → is_busy_in (standing_of k h) ≡ is_busy_in (standing_of k (h ++ es))
  busy-other k ne = ap is_busy_in (sym (standing_other n k h es (others k ne)))

  -- one more
  pub busy_added : (xs ys : List ℕ) → AreBusy h xs → IsAdded n xs ys → is_busy_in (standing_of n (h ++ es)) ≡ true → AreBusy (h ++ es) ys
  busy_added xs ys b a busy = record { rises = a.rises; among = λ k. a.among k ∙ by k (cases_eq n k) }
    where
      by : (k : ℕ) → (n ≡ k) ⊎ (n ≡ k → ⊥) → (eqb n k || among k xs) ≡ is_busy_in (standing_of k (h ++ es))
      by k (inl same) =
          ap (λ (t : Bool). t || among k xs) (eq-eqb n k same) ∙ sym (subst (λ (j : ℕ). is_busy_in (standing_of j (h ++ es)) ≡ true) same busy)
      by k (inr ne) = ap (λ (t : Bool). t || among k xs) (ne_eqb n k ne) ∙ b.among k ∙ busy-other k ne

  -- the same
  pub busy_kept : (xs : List ℕ) → AreBusy h xs → is_busy_in (standing_of n h) ≡ is_busy_in (standing_of n (h ++ es)) → AreBusy (h ++ es) xs
  busy_kept xs b same = record { rises = b.rises; among = λ k. b.among k ∙ by k (cases_eq n k) }
    where
      by : (k : ℕ) → (n ≡ k) ⊎ (n ≡ k → ⊥) → is_busy_in (standing_of k h) ≡ is_busy_in (standing_of k (h ++ es))
      by k (inl e) = subst (λ (j : ℕ). is_busy_in (standing_of j h) ≡ is_busy_in (standing_of j (h ++ es))) e same
      by k (inr ne) = busy-other k ne

  -- one less
  pub busy_removed : (xs ys : List ℕ) → AreBusy h xs → IsRemoved n xs ys → is_busy_in (standing_of n (h ++ es)) ≡ false → AreBusy (h ++ es) ys
  busy_removed xs ys b a idle = record { rises = a.rises; among = λ k. a.among k ∙ by k (cases_eq n k) }
    where
      by : (k : ℕ) → (n ≡ k) ⊎ (n ≡ k → ⊥) → (not (eqb n k) && among k xs) ≡ is_busy_in (standing_of k (h ++ es))
      by k (inl same) =
          ap (λ (t : Bool). not t && among k xs) (eq-eqb n k same) ∙ sym (subst (λ (j : ℕ). is_busy_in (standing_of j (h ++ es)) ≡ false) same idle)
      by k (inr ne) = ap (λ (t : Bool). not t && among k xs) (ne_eqb n k ne) ∙ b.among k ∙ busy-other k ne

-- ---- nothing changes

module _ {T : Type 0} where
  -- what a call that wants memory leaves
  pub record IsLeftSo (old new : Roll T) : Type 0 where
    pub table : IsSame old.table new.table
    pub busy : all_in new.busy ≡ all_in old.busy
    pub limit : new.limit ≡ old.limit

  pub same_kept : (limit : ℕ) (old new : Roll T) (h : List Recorded) → IsLeftSo old new → IsKept limit old h → IsKept limit new h
  same_kept limit old new h s k =
      let t = s.table in
      record {
        bound = s.limit ∙ k.bound;
        most = t.most_live ∙ k.most;
        identifiers = t.ids ∙ k.identifiers;
        ordinals = k.ordinals;
        each = λ n. subst (λ (xs : List (Seat T)). IsKeptAt h n (get_at n xs)) (sym t.values) (k.each n);
        ended = t.ended ∙ k.ended ∙ ap (map has_ended) (sym t.values);
        busy = s.busy ∙ k.busy;
      }

  pub same_roll : (stands : T → Stage → Type 0) (m : Meaning) (limit : ℕ) (old new : Roll T) (h : List Recorded) (stages : List Stage)
      → IsLeftSo old new → IsRollOf stands m limit old h stages → IsRollOf stands m limit new h stages
  same_roll stands m limit old new h stages s r =
      let t = s.table in
      record {
        kept = same_kept limit old new h s r.kept;
        count = r.count;
        each = λ n. subst (λ (xs : List (Seat T)). IsAtStage stands m (get_at n xs) (stage_of n stages)) (sym t.values) (r.each n);
      }

-- ---- a session is opened

module _ {T : Type 0} (stands : T → Stage → Type 0) (m : Meaning) (lawful : IsLawful m) where
  pub open_roll : (limit turn n id seed time : ℕ) (old new : Roll T) (h : List Recorded) (stages : List Stage) (seat : Seat T)
      → IsRollOf stands m limit old h stages → IsTable old.table → IsTable new.table → Opens old.table new.table id seat → n ≡ length (ids old.table) + 1
      → IsOpened id seed time seat → IsThere stands seat (begun seed time)
      → IsAdded n (all_in old.busy) (all_in new.busy) → new.limit ≡ old.limit
      → IsRollOf stands m limit new (h ++ opened turn n id seed time ∷ []) (stages ++ begun seed time ∷ [])
  open_roll limit turn n id seed time old new h stages seat r table after o next fresh there added same = record {
    kept = record {
      bound = same ∙ k.bound;
      most = o.most_live ∙ k.most;
      identifiers = identifiers;
      ordinals = ordinals_push n turn id seed time h k.ordinals (next ∙ ap (λ (t : List ℕ). length t + 1) k.identifiers);
      each = each;
      ended =
          o.ended ∙ ap (λ (t : List Bool). t ++ false ∷ []) k.ended
          ∙ ap (λ (b : Bool). map has_ended (seats old) ++ b ∷ []) (sym (ap (λ (s : Standing). not (is_none s.ended)) fresh.standing))
          ∙ sym (map-append has_ended (seats old) (seat ∷ [])) ∙ ap (map has_ended) (sym o.values);
      busy =
          busy_same (h ++ es) (all_in new.busy)
          (λ j. within_by (h ++ es) j (seats new) (get_at j (seats new)) refl (each j) (after.values_each ∙ ap length identifiers))
          (busy_added h es n others (all_in old.busy) (all_in new.busy) (kept_busy limit old h table k) added
          (ap is_busy_in kept.standing ∙ ap is_busy fresh.standing));
    };
    count =
        length-append stages (begun seed time ∷ []) ∙ ap (λ (c : ℕ). c + 1) r.count
        ∙ sym (ap length (identifiers_join h es) ∙ length-append (identifiers_in h) (id ∷ []));
    each = λ j. staged j (cases_eq n j);
  }
    where
      k : IsKept limit old h
      k = r.kept

      es : List Recorded
      es = opened turn n id seed time ∷ []

      size : n ≡ length (seats old) + 1
      size = next ∙ ap (λ (c : ℕ). c + 1) (sym table.values_each)

      others : (j : ℕ) → (n ≡ j → ⊥) → AreOthers j es
      others j ne = (ne_eqb n j ne, tt)

      identifiers : ids new.table ≡ identifiers_in (h ++ es)
      identifiers = o.ids ∙ ap (λ (t : List ℕ). t ++ id ∷ []) k.identifiers ∙ sym (identifiers_join h es)

      none : entries_of n h ≡ []
      none = subst (λ (x : Option (Seat T)). IsKeptAt h n x) (at_none (seats old) n size) (k.each n)

      kept : IsSeat (h ++ es) n seat
      kept = opened_kept h n turn id seed time seat none fresh

      here : get_at n (seats new) ≡ Some seat
      here = ap (get_at n) o.values ∙ at_new (seats old) seat n size

      there-still : (j : ℕ) → (n ≡ j → ⊥) → get_at j (seats new) ≡ get_at j (seats old)
      there-still j ne = ap (get_at j) o.values ∙ at_more (seats old) seat j (λ e. ne (size ∙ sym e))

      each : (j : ℕ) → IsKeptAt (h ++ es) j (get_at j (seats new))
      each j = by (cases_eq n j)
        where
          by : (n ≡ j) ⊎ (n ≡ j → ⊥) → IsKeptAt (h ++ es) j (get_at j (seats new))
          by (inl e) =
              subst (λ (i : ℕ). IsKeptAt (h ++ es) i (get_at i (seats new))) e (subst (λ (x : Option (Seat T)). IsKeptAt (h ++ es) n x) (sym here) kept)
          by (inr ne) =
              subst (λ (x : Option (Seat T)). IsKeptAt (h ++ es) j x) (sym (there-still j ne)) (others_kept h es j (get_at j (seats old)) (others j ne) (k.each j))

      at-end : n ≡ length stages + 1
      at-end = next ∙ ap (λ (c : ℕ). c + 1) (ap length k.identifiers ∙ sym r.count)

      staged : (j : ℕ) → (n ≡ j) ⊎ (n ≡ j → ⊥) → IsAtStage stands m (get_at j (seats new)) (stage_of j (stages ++ begun seed time ∷ []))
      staged j (inl e) =
          subst (λ (i : ℕ). IsAtStage stands m (get_at i (seats new)) (stage_of i (stages ++ begun seed time ∷ []))) e
          (subst (λ (x : Option (Seat T)). IsAtStage stands m x (stage_of n (stages ++ begun seed time ∷ []))) (sym here)
          (subst (λ (x : Option Stage). IsAtStage stands m (Some seat) x)
          (sym (stage_get n (stages ++ begun seed time ∷ []) ∙ at_new stages (begun seed time) n (at-end)))
          (opened_stands stands m lawful seat seed time fresh.standing there)))
      staged j (inr ne) =
          subst (λ (x : Option (Seat T)). IsAtStage stands m x (stage_of j (stages ++ begun seed time ∷ []))) (sym (there-still j ne))
          (subst (λ (x : Option Stage). IsAtStage stands m (get_at j (seats old)) x)
          (sym (stage_get j (stages ++ begun seed time ∷ []) ∙ at_more stages (begun seed time) j (λ e. ne (at-end ∙ sym e)) ∙ sym (stage_get j stages)))
          (r.each j))

  -- ---- a batch is admitted

  pub admit_roll : (limit turn n : ℕ) (b : Contents) (old new : Roll T) (h : List Recorded) (stages : List Stage) (seat next : Seat T) (st : Stage)
      → IsRollOf stands m limit old h stages → IsTable old.table → IsTable new.table
      → get_at n (seats old) ≡ Some seat → IsSeat h n seat → stage_of n stages ≡ Some st → StandsAt stands m seat st
      → (standing_in seat).ended ≡ None → (standing_in seat).done ≡ Some (standing_in seat).last → b.number ≡ (standing_in seat).last + 1
      → IsAdmitted b.number seat next → IsThere stands next (with_batch b st) → IsChanged n old.table new.table next false
      → IsAdded n (all_in old.busy) (all_in new.busy) → new.limit ≡ old.limit
      → IsRollOf stands m limit new (h ++ admitted turn n b ∷ []) (with_batch_at n b (stage_of n stages) stages)
  admit_roll limit turn n b old new h stages seat next st r table after at kept stage stood lives idle number a there c added same =
      subst (λ (x : Option Stage). IsRollOf stands m limit new (h ++ es) (with_batch_at n b x stages)) (sym stage) record {
        kept =
            changed_kept limit h es n old new seat next false r.kept at lives c
            (ap (λ (s : Standing). not (is_none s.ended)) a.standing ∙ ap (λ (o : Option Reason). not (is_none o)) lives) same of
            now after
            (busy_added h es n of.others (all_in old.busy) (all_in new.busy) (kept_busy limit old h table r.kept) added
            (ap is_busy_in now.standing ∙ ap is_busy a.standing ∙ busy_admitted (standing_in seat) b.number idle number));
        count = stages_length n stages (with_batch b st) ∙ r.count ∙ sym (ap length (identifiers_join h es) ∙ ap length (append-nil (identifiers_in h)));
        each =
            changed_stages stands m n old new stages seat next st (with_batch b st) false r.each at stage c
            (admitted_stands stands m lawful seat next st b stood lives idle number a.standing there);
      }
    where
      es : List Recorded
      es = admitted turn n b ∷ []

      of : AreOf n es
      of = record { others = λ j ne. (ne_eqb n j ne, tt); identifiers = refl; ordinals = refl }

      now : IsSeat (h ++ es) n next
      now = admitted_kept h n turn b seat next kept lives idle number a

  -- ---- a session is closed

  pub close_roll : (limit turn n : ℕ) (old new : Roll T) (h : List Recorded) (stages : List Stage) (seat next : Seat T) (st : Stage)
      → IsRollOf stands m limit old h stages → IsTable old.table → IsTable new.table
      → get_at n (seats old) ≡ Some seat → IsSeat h n seat → stage_of n stages ≡ Some st → StandsAt stands m seat st
      → (standing_in seat).ended ≡ None → (standing_in seat).done ≡ Some (standing_in seat).last
      → IsClosed seat next → IsChanged n old.table new.table next true
      → all_in new.busy ≡ all_in old.busy → new.limit ≡ old.limit
      → IsRollOf stands m limit new (h ++ closed turn n ∷ []) stages
  close_roll limit turn n old new h stages seat next st r table after at kept stage stood lives idle a c busy same = record {
    kept =
        changed_kept limit h es n old new seat next true r.kept at lives c (ap (λ (s : Standing). not (is_none s.ended)) is) same of now after
        (subst (λ (ns : List ℕ). AreBusy (h ++ es) ns) (sym busy)
        (busy_kept h es n of.others (all_in old.busy) (kept_busy limit old h table r.kept)
        (ap is_busy_in kept.standing ∙ sym (ap is_busy_in now.standing ∙ ap is_busy is))));
    count = r.count ∙ sym (ap length (identifiers_join h es) ∙ ap length (append-nil (identifiers_in h)));
    each = λ j.
        subst (λ (x : Option Stage). IsAtStage stands m (get_at j (seats new)) x) (stage-again j)
        (changed_stages stands m n old new stages seat next st st true r.each at stage c (closed_stands stands m seat next st stood idle is) j);
  }
    where
      es : List Recorded
      es = closed turn n ∷ []

      of : AreOf n es
      of = record { others = λ j ne. (ne_eqb n j ne, tt); identifiers = refl; ordinals = refl }

      now : IsSeat (h ++ es) n next
      now = closed_kept h n turn seat next kept idle a

      is : standing_in next ≡ when_closed (standing_in seat)
      is = closed_standing seat next idle a

      put-again : (j : ℕ) → stage_of j stages ≡ Some st → with_stage j st stages ≡ stages
      put-again zero e = refl
      put-again (suc i) e = set_same stages i st e

      stage-again : (j : ℕ) → stage_of j (with_stage n st stages) ≡ stage_of j stages
      stage-again j = ap (λ (xs : List Stage). stage_of j xs) (put-again n stage)

  -- ---- a busy session goes on

  ends-so : (how : Option Ending) → not (is_none (option_map reason_of how)) ≡ is_some how
  ends-so None = refl
  ends-so (Some ending) = refl

  still-there : (how : Option Ending) (number : ℕ) (held : Held T) (new : Seat T) → how ≡ None → IsGivenUp (Finished how) number (Live held) new
      → new ≡ Live held
  still-there None number held new e left = left
  still-there (Some ending) number held new e left = absurd (none_some ending (sym e))

  no-identifiers : (turn n number : ℕ) (xs : List (Serving × Given)) (p : Progress)
      → identifiers_in (map (served_entry turn n) xs ++ done_entries turn n number p) ≡ []
  no-identifiers turn n number [] Busy = refl
  no-identifiers turn n number [] (Finished how) = refl
  no-identifiers turn n number ((s, g) ∷ xs) p = no-identifiers turn n number xs p

  no-ordinals : (turn n number : ℕ) (xs : List (Serving × Given)) (p : Progress)
      → ordinals_in (map (served_entry turn n) xs ++ done_entries turn n number p) ≡ []
  no-ordinals turn n number [] Busy = refl
  no-ordinals turn n number [] (Finished how) = refl
  no-ordinals turn n number ((s, g) ∷ xs) p = no-ordinals turn n number xs p

  slice-of : (turn n number : ℕ) (parts : List Part) (given : List Given) (p : Progress)
      → AreOf n (served_entries turn n parts given ++ done_entries turn n number p)
  slice-of turn n number parts given p = record {
    others = λ j ne. slice_others turn n j ne parts given number p;
    identifiers = no-identifiers turn n number (zip (servings_in parts) given) p;
    ordinals = no-ordinals turn n number (zip (servings_in parts) given) p;
  }

  -- a session that was busy before a slice, at a stage
  pub record WasBusy (limit n : ℕ) (old : Roll T) (h : List Recorded) (stages : List Stage) (seat : Seat T) (st : Stage) : Type 0 where
    pub roll : IsRollOf stands m limit old h stages
    pub table : IsTable old.table
    pub at : get_at n (seats old) ≡ Some seat
    pub kept : IsSeat h n seat
    pub stage : stage_of n stages ≡ Some st
    pub stood : StandsAt stands m seat st
    pub busy : is_busy (standing_in seat) ≡ true

  module _ (limit turn n : ℕ) (old new : Roll T) (h : List Recorded) (stages : List Stage) (seat next : Seat T) (st after : Stage)
      (units : ℕ) (parts : List Part) (given : List Given) where
    own-parts : WasBusy limit n old h stages seat st → GoesOn m st units given parts after → AllByRecursion (λ (q : Part). q.batch ≡ (standing_in seat).last) parts
    own-parts w g =
        let stood = w.stood in
        all_maps (ComesNow st) (λ (q : Part). q.batch ≡ (standing_in seat).last) (λ q c. c.batch ∙ sym stood.number) parts g.now

    counted-still : WasBusy limit n old h stages seat st → (p : Progress)
        → length (with_stage n after stages)
        ≡ length (identifiers_in (h ++ (served_entries turn n parts given ++ done_entries turn n (standing_in seat).last p)))
    counted-still w p =
        let r = w.roll in
        let es = served_entries turn n parts given ++ done_entries turn n (let s = standing_in seat in s.last) p in
        stages_length n stages after ∙ r.count
        ∙ sym (ap length (identifiers_join h es
        ∙ ap (λ t. identifiers_in h ++ t) (no-identifiers turn n (let s = standing_in seat in s.last) (zip (servings_in parts) given) p)
        ∙ append-nil (identifiers_in h)))

    module _ (before held : Held T) (legacy : Option Legacy) (number : ℕ) where
      alive : WasBusy limit n old h stages seat st → (standing_in seat).ended ≡ None
      alive w = let stood = w.stood in stood.busy w.busy

      there-at : stands held.value.session after → next ≡ Live held → IsThere stands next after
      there-at at_stage live = record { held = held; live = live; at_stage = at_stage }

      pub slice_roll : (p : Progress) → WasBusy limit n old h stages seat st → IsTable new.table
          → GoesOn m st units given parts after → IsProgress p parts → seat ≡ Live before → number ≡ (standing_in seat).last
          → stands held.value.session after → IsAfter p (answered_calls parts given) legacy before.value held.value
          → IsGivenUp p number (Live held) next
          → IsChanged n old.table new.table next (ends_session p) → AreLeftBusy p n (all_in old.busy) (all_in new.busy) → new.limit ≡ old.limit
          → IsRollOf stands m limit new (h ++ (served_entries turn n parts given ++ done_entries turn n (standing_in seat).last p)) (with_stage n after stages)
      slice_roll Busy w table g how_far was numbered at_stage a left c busy same =
          let r = w.roll in
          let kept = w.kept in
          let es = served_entries turn n parts given ++ done_entries turn n (let s = standing_in seat in s.last) Busy in
          let lives = alive w in
          let of = slice-of turn n (let s = standing_in seat in s.last) parts given Busy in
          let is = slice_stands h n turn parts given seat next before held legacy number kept w.busy lives (own-parts w g) was numbered Busy a left in
          let now = slice_kept h n turn parts given seat next before held legacy number kept w.busy lives (own-parts w g) was numbered Busy a left in
          record {
            kept =
                changed_kept limit h es n old new seat next false r.kept w.at lives c
                (ap (λ (s : Standing). not (is_none s.ended)) is ∙ ap (λ (o : Option Reason). not (is_none o)) lives) same of now table
                (subst (λ (ns : List ℕ). AreBusy (h ++ es) ns) (sym busy)
                (busy_kept h es n of.others (all_in old.busy) (kept_busy limit old h w.table r.kept)
                (ap is_busy_in kept.standing ∙ sym (ap is_busy_in now.standing ∙ ap is_busy is))));
            count = counted-still w Busy;
            each =
                changed_stages stands m n old new stages seat next st after false r.each w.at w.stage c
                (busy_stands stands m seat next st after units given parts w.stood w.busy g how_far is (there-at at_stage left));
          }
      slice_roll (Finished how) w table g how_far was numbered at_stage a left c busy same =
          let r = w.roll in
          let es = served_entries turn n parts given ++ done_entries turn n (let s = standing_in seat in s.last) (Finished how) in
          let lives = alive w in
          let of = slice-of turn n (let s = standing_in seat in s.last) parts given (Finished how) in
          let is = slice_stands h n turn parts given seat next before held legacy number w.kept w.busy lives (own-parts w g) was numbered (Finished how) a left in
          let now = slice_kept h n turn parts given seat next before held legacy number w.kept w.busy lives (own-parts w g) was numbered (Finished how) a left in
          record {
            kept =
                changed_kept limit h es n old new seat next (is_some how) r.kept w.at lives c
                (ap (λ (s : Standing). not (is_none s.ended)) is ∙ ends-so how) same of now table
                (busy_removed h es n of.others (all_in old.busy) (all_in new.busy) (kept_busy limit old h w.table r.kept) busy
                (ap is_busy_in now.standing ∙ ap is_busy is ∙ idle_finished (standing_in seat) (option_map reason_of how)));
            count = counted-still w (Finished how);
            each =
                changed_stages stands m n old new stages seat next st after (is_some how) r.each w.at w.stage c
                (done_stands stands m seat next st after units given parts how w.stood w.busy g how_far is
                (λ e. there-at at_stage (still-there how number held next e left)));
          }

  -- what a slice makes of the roll
  pub advance_roll : (limit n : ℕ) (old new : Roll T) (h : List Recorded) (stages : List Stage) (seat next : Seat T) (st : Stage)
      (meant : Service) (slice : Slice) (advanced : Advanced) (Replies : List Called → Type 0)
      → WasBusy limit n old h stages seat st → IsTable new.table → slice.session ≡ n → slice.units ≡ 1000
      → SliceOf m st meant (called_so_far h) slice seat next advanced stands Replies
      → IsChanged n old.table new.table next (ends_session advanced.progress)
      → AreLeftBusy advanced.progress n (all_in old.busy) (all_in new.busy) → new.limit ≡ old.limit
      → WentOn m meant slice.turn slice.time n h stages advanced (IsRollOf stands m limit new) Replies
  advance_roll limit n old new h stages seat next st meant slice advanced Replies w table is units s c busy same = record {
    stage = st;
    parts = x.parts;
    given = x.given;
    next = x.next;
    stands = w.stage;
    goes_on = subst (λ (u : ℕ). GoesOn m st u x.given x.parts x.next) units x.goes_on;
    replied = x.replied;
    how_far = x.how_far;
    batch = numbered ∙ number;
    entries = x.entries ∙ ap (λ (k : ℕ). served_entries slice.turn k x.parts x.given) is;
    leaves =
        subst (λ (k : ℕ). Leaves advanced.progress advanced.legacy n k (h ++ (served_entries slice.turn n x.parts x.given ++ done_entries slice.turn n k advanced.progress))) number
        (slice_leaves h n slice.turn x.parts x.given seat next s.before s.held advanced.legacy advanced.batch w.kept w.busy alive own s.was numbered advanced.progress x.after);
    after =
        subst (λ (k : ℕ). IsRollOf stands m limit new (h ++ (served_entries slice.turn n x.parts x.given ++ done_entries slice.turn n k advanced.progress)) (with_stage n x.next stages)) number
        (slice_roll limit slice.turn n old new h stages seat next st x.next slice.units x.parts x.given s.before s.held advanced.legacy advanced.batch
        advanced.progress w table x.goes_on x.how_far s.was numbered x.at_stage x.after s.left c busy same);
    replies =
        subst Replies
        (sym (slice_called slice.turn n h x.parts x.given (length (let y = x.next in y.batches)) advanced.progress (let g = x.goes_on in g.each))) x.replies;
  }
    where
      x : LivingSlice m st meant (called_so_far h) slice (let y = s.before in y.value) (let y = s.held in y.value) advanced stands Replies
      x = s.went_on

      number : (standing_in seat).last ≡ length (let y = x.next in y.batches)
      number = (let stood = w.stood in stood.number) ∙ sym (let g = x.goes_on in ap length g.batches)

      numbered : advanced.batch ≡ (standing_in seat).last
      numbered = x.batch ∙ sym (ap (λ (y : Seat T). (standing_in y).last) s.was)

      alive : (standing_in seat).ended ≡ None
      alive = let stood = w.stood in stood.busy w.busy

      own : AllByRecursion (λ (q : Part). q.batch ≡ (standing_in seat).last) (let y = x in y.parts)
      own = own-parts limit slice.turn n old new h stages seat next st x.next slice.units x.parts x.given w x.goes_on

-- ---- calls

busy-some : (o : Option Standing) → is_busy_in o ≡ true → (s : Standing) × (o ≡ Some s) × (is_busy s ≡ true)
busy-some None e = absurd (false≢true e)
busy-some (Some s) e = (s, refl, e)

pub same_busy : (old new : Busies) → new.list.items ≡ old.list.items → new.next ≡ old.next → new.kept ≡ old.kept → all_in new ≡ all_in old
same_busy old new items next kept = (λ i. take (kept i) (items i) ++ drop (next i) (items i))

module _ {T : Type 0} where
  -- the seat is the one that was lent
  pub lent_seat : (seat other : Seat T) (o : Option (Seat T)) → Some seat ≡ o → o ≡ Some other → seat ≡ other
  lent_seat seat other o e f = same_Some seat other (e ∙ f)

  pub put_changed : (n : ℕ) (t : Table (Seat T)) (seat : Seat T) → IsChanged n t (with_value t (n - 1) seat) seat false
  put_changed n t seat = record { ids = refl; most = refl; seats = refl; ended = refl }

  pub end_changed : (n : ℕ) (t new : Table (Seat T)) (seat : Seat T) → Ends (with_value t (n - 1) seat) new (n - 1) → IsChanged n t new seat true
  end_changed n t new seat e = record { ids = e.ids; most = e.most_live; seats = e.values; ended = e.ended }

  -- the same seat is put again
  pub same_put : (n : ℕ) (t : Table (Seat T)) (seat new : Seat T) → Some seat ≡ at_ordinal (live_value t) n → new ≡ seat
      → IsSame t (with_value t (n - 1) new)
  same_put n t seat new e same = record {
    ids = refl;
    values = ap (λ (x : Seat T). slice_set (values t) (n - 1) x) same ∙ at_set_same n (values t) seat (live_parts t n seat (sym e)).0;
    ended = refl;
    most_live = refl;
  }

  module _ (stands : T → Stage → Type 0) (m : Meaning) (lawful : IsLawful m) where
    pub opened_call : (limit turn n id seed time : ℕ) (old new : Roll T) (h : List Recorded) (stages : List Stage) (seat : Seat T)
        → IsRollOf stands m limit old h stages → IsTable old.table → IsTable new.table → Opens old.table new.table id seat → n ≡ length (ids old.table) + 1
        → IsOpened id seed time seat → IsThere stands seat (begun seed time)
        → (Rises 0 (all_in old.busy) → among n (all_in old.busy) ≡ false → 0 < n → IsAdded n (all_in old.busy) (all_in new.busy))
        → new.limit ≡ old.limit
        → (n ≡ length (identifiers_in h) + 1)
        × IsRollOf stands m limit new (h ++ opened turn n id seed time ∷ []) (stages ++ begun seed time ∷ [])
    opened_call limit turn n id seed time old new h stages seat r table after o next fresh there added same = (
      next ∙ ap (λ (xs : List ℕ). length xs + 1) kept.identifiers,
      open_roll stands m lawful limit turn n id seed time old new h stages seat r table after o next fresh there
          (added exact.rises absent (omega (arith, next))) same,
    )
      where
        kept : IsKept limit old h
        kept = r.kept

        exact : AreBusy h (all_in old.busy)
        exact = kept_busy limit old h table kept

        none : entries_of n h ≡ []
        none = subst (λ (x : Option (Seat T)). IsKeptAt h n x) (at_none (seats old) n (next ∙ ap (λ (c : ℕ). c + 1) (sym table.values_each))) (kept.each n)

        absent : among n (all_in old.busy) ≡ false
        absent = exact.among n ∙ ap is_busy_in (no_standing n h none)

    pub admitted_call : (limit turn n : ℕ) (b : Contents) (old new : Roll T) (h : List Recorded) (stages : List Stage) (s : Standing)
        → IsRollOf stands m limit old h stages → standing_of n h ≡ Some s → batch_decision s b.number ≡ Admit
        → IsTable old.table → IsTable new.table → new.limit ≡ old.limit
        → ((st : Stage) (seat : Seat T) → at_ordinal (live_value old.table) n ≡ Some seat → IsThere stands seat st → MayAdmit m st b
        → (next : Seat T) × IsAdmitted b.number seat next × IsThere stands next (with_batch b st) × IsChanged n old.table new.table next false)
        → (Rises 0 (all_in old.busy) → among n (all_in old.busy) ≡ false → 0 < n → IsAdded n (all_in old.busy) (all_in new.busy))
        → IsRollOf stands m limit new (h ++ admitted turn n b ∷ []) (with_batch_at n b (stage_of n stages) stages)
    admitted_call limit turn n b old new h stages s r standing admits table after same did added =
        admit_roll stands m lawful limit turn n b old new h stages w.0 d.0 g.0 r table after w.1 w.3 g.1 g.2 alive idle next d.1 d.2 d.3
        (added exact.rises absent positive) same
      where
        a : (s.ended ≡ None) × (s.done ≡ Some s.last) × (b.number ≡ s.last + 1)
        a = (admits_next s b.number).0 admits

        w : (seat : Seat T) × (get_at n (seats old) ≡ Some seat) × (standing_in seat ≡ s) × IsSeat h n seat
        w = seat_with limit old h n s r.kept standing

        alive : (standing_in w.0).ended ≡ None
        alive = ap (λ (x : Standing). x.ended) w.2 ∙ a.0

        idle : (standing_in w.0).done ≡ Some (standing_in w.0).last
        idle = ap (λ (x : Standing). x.done) w.2 ∙ a.1 ∙ ap (λ (x : Standing). Some x.last) (sym w.2)

        next : b.number ≡ (standing_in w.0).last + 1
        next = a.2 ∙ ap (λ (x : Standing). x.last + 1) (sym w.2)

        g : (stage : Stage) × (stage_of n stages ≡ Some stage) × StandsAt stands m w.0 stage
        g = stage_with stands m limit old h stages n w.0 r w.1

        lives : Lives stands m w.0 g.0
        lives = (let stood = g.2 in stood.lives alive)

        d : (next : Seat T) × IsAdmitted b.number w.0 next × IsThere stands next (with_batch b g.0) × IsChanged n old.table new.table next false
        d = did g.0 w.0 (seat_live limit old h n w.0 r.kept w.1 alive) lives.there (may_admit stands m w.0 g.0 b g.2 alive idle next)

        exact : AreBusy h (all_in old.busy)
        exact = kept_busy limit old h table r.kept

        absent : among n (all_in old.busy) ≡ false
        absent = exact.among n ∙ ap is_busy_in (let k = w.3 in k.standing) ∙ idle_done (standing_in w.0) idle

        positive : 0 < n
        positive = let i = at_within n (seats old) w.0 w.1 in omega (arith, i.1)

    pub closed_call : (limit turn n : ℕ) (old new : Roll T) (h : List Recorded) (stages : List Stage) (s : Standing)
        → IsRollOf stands m limit old h stages → standing_of n h ≡ Some s → close_decision s ≡ Close
        → IsTable old.table → IsTable new.table → new.limit ≡ old.limit → new.busy ≡ old.busy
        → ((seat : Seat T) → at_ordinal (live_value old.table) n ≡ Some seat → (next : Seat T) × IsClosed seat next × IsChanged n old.table new.table next true)
        → IsRollOf stands m limit new (h ++ closed turn n ∷ []) stages
    closed_call limit turn n old new h stages s r standing closes table after same busy did =
        close_roll stands m lawful limit turn n old new h stages w.0 d.0 g.0 r table after w.1 w.3 g.1 g.2 alive idle d.1 d.2 (ap all_in busy) same
      where
        a : (s.ended ≡ None) × (s.done ≡ Some s.last)
        a = (closes_idle s).0 closes

        w : (seat : Seat T) × (get_at n (seats old) ≡ Some seat) × (standing_in seat ≡ s) × IsSeat h n seat
        w = seat_with limit old h n s r.kept standing

        alive : (standing_in w.0).ended ≡ None
        alive = ap (λ (x : Standing). x.ended) w.2 ∙ a.0

        idle : (standing_in w.0).done ≡ Some (standing_in w.0).last
        idle = ap (λ (x : Standing). x.done) w.2 ∙ a.1 ∙ ap (λ (x : Standing). Some x.last) (sym w.2)

        g : (stage : Stage) × (stage_of n stages ≡ Some stage) × StandsAt stands m w.0 stage
        g = stage_with stands m limit old h stages n w.0 r w.1

        d : (next : Seat T) × IsClosed w.0 next × IsChanged n old.table new.table next true
        d = did w.0 (seat_live limit old h n w.0 r.kept w.1 alive)

    pub advanced_call : (limit n : ℕ) (before rest passed : List ℕ) (old new : Roll T) (h : List Recorded) (stages : List Stage)
        (meant : Service) (slice : Slice) (advanced : Advanced) (Old : List Called → Type 0) (Replies : List Called → Type 0)
        → IsRollOf stands m limit old h stages → IsTable old.table → IsTable new.table → slice.session ≡ n → slice.units ≡ 1000
        → Old (called_so_far h)
        → all_in old.busy ≡ before ++ n ∷ rest → all_in new.busy ≡ passed ++ rest
        → passed ≡ cond (is_unfinished advanced.progress) (before ++ n ∷ []) before → new.limit ≡ old.limit
        → ((st : Stage) (calls : List Called) (seat : Seat T) → at_ordinal (live_value old.table) n ≡ Some seat → IsThere stands seat st
        → is_done m st ≡ false → Old calls
        → (next : Seat T) × SliceOf m st meant calls slice seat next advanced stands Replies
        × IsChanged n old.table new.table next (ends_session advanced.progress))
        → WentOn m meant slice.turn slice.time n h stages advanced (IsRollOf stands m limit new) Replies
    advanced_call limit n before rest passed old new h stages meant slice advanced Old Replies r table after is units replied was now went same did =
        advance_roll stands m lawful limit n old new h stages w.0 d.0 g.0 meant slice advanced Replies
        (record { roll = r; table = table; at = w.1; kept = w.3; stage = g.1; stood = g.2; busy = busy }) after is units d.1 d.2 left same
      where
        exact : AreBusy h (all_in old.busy)
        exact = kept_busy limit old h table r.kept

        found : is_busy_in (standing_of n h) ≡ true
        found = sym (exact.among n) ∙ ap (among n) was ∙ next_among n before rest

        s : (x : Standing) × (standing_of n h ≡ Some x) × (is_busy x ≡ true)
        s = busy-some (standing_of n h) found

        w : (seat : Seat T) × (get_at n (seats old) ≡ Some seat) × (standing_in seat ≡ s.0) × IsSeat h n seat
        w = seat_with limit old h n s.0 r.kept s.1

        busy : is_busy (standing_in w.0) ≡ true
        busy = ap is_busy w.2 ∙ s.2

        g : (stage : Stage) × (stage_of n stages ≡ Some stage) × StandsAt stands m w.0 stage
        g = stage_with stands m limit old h stages n w.0 r w.1

        alive : (standing_in w.0).ended ≡ None
        alive = let stood = g.2 in stood.busy busy

        lives : Lives stands m w.0 g.0
        lives = let stood = g.2 in stood.lives alive

        d : (next : Seat T) × SliceOf m g.0 meant (called_so_far h) slice w.0 next advanced stands Replies
            × IsChanged n old.table new.table next (ends_session advanced.progress)
        d =
            did g.0 (called_so_far h) w.0 (seat_live limit old h n w.0 r.kept w.1 alive) lives.there
            (not-true (is_done m g.0) (sym lives.progress ∙ busy)) replied

        left : AreLeftBusy advanced.progress n (all_in old.busy) (all_in new.busy)
        left =
            subst (λ (xs : List ℕ). AreLeftBusy advanced.progress n xs (all_in new.busy)) (sym was)
            (subst (λ (ys : List ℕ). AreLeftBusy advanced.progress n (before ++ n ∷ rest) ys) (sym now)
            (passed_busy advanced.progress n before passed rest (subst (λ (xs : List ℕ). Rises 0 xs) was exact.rises) went))
