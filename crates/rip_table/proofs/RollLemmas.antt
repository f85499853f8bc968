-- A roll is that of its history and its stages when a session is opened, has one more batch, is closed or goes on.
use Rattle.std.proofs.Common.{◌≡◌, ◌⊎◌, inl, inr, ℕ, zero, suc, ◌-◌, ◌<◌, Bool, true, false, cond, not, List, [], ◌∷◌, ◌++◌, length, map, Option, Some, None, refl, sym, ap, ◌∙◌, subst, arith, append-nil}
use Rattle.std.specs.Prelude.{is_none, option_map, slice_get, slice_set, unwrap_or, nat_eq}
use Rattle.std.proofs.lemmas.Bool.{false≢true, ne_eqb, cases_eq}
use Rattle.std.proofs.lemmas.Option.{slice_get-map, slice_get_within, same_Some}
use Rattle.rip_log.specs.Entries.{Recorded}
use Rattle.rip_wire.specs.declared.ending.Reason.{Reason}
use Rattle.rip_table.specs.declared.table.Table.{Table}
use Rattle.rip_table.specs.Table.{IsTable, ids, values, ended, is_live_at, live_value, at_ordinal}
use Rattle.rip_history.specs.Requests.{identifiers_in, lives, live_count}
use Rattle.rip_history.specs.Run.{is_busy_in, stage_of, with_stage}
use Rattle.rip_history.specs.Sequences.{counted, ordinals_in}
use Rattle.rip_history.specs.Stages.{Stage}
use Rattle.rip_history.specs.Standings.{standing_of, entries_of}
use Rattle.rip_history.specs.declared.standing.Standing.{Standing}
use Rattle.rip_history.specs.Parts.{Meaning}
use Rattle.rip_table.specs.Ordinals.{get_at}
use Rattle.rip_table.specs.Rolls.{seats, IsChanged, IsKept, IsAtStage, IsRollOf}
use Rattle.rip_table.specs.Seats.{standing_in, IsSeat, IsKeptAt, has_ended, StandsAt}
use Rattle.rip_table.specs.Walks.{all_in}
use Rattle.rip_table.specs.declared.roll.roll.Roll.{Roll}
use Rattle.rip_table.specs.declared.roll.seat.Seat.{Seat}
use Rattle.rip_table.proofs.CountLemmas.{live_is, AreWithin, AreBusy, busy_exact, busy_same}
use Rattle.rip_table.proofs.ListLemmas.{none_some, at_within, at_set, at_set_other, get_set, get_set_other, length_set, map_set, map_set_kept}
use Rattle.rip_table.proofs.OwnLemmas.{AreOthers, identifiers_join, ordinals_join, tell_same}
use Rattle.rip_table.proofs.SeatLemmas.{others_kept}

-- ---- ordinals

module _ {X : Type 0} where
  -- what the table has at an ordinal
  pub ordinal_is : (xs : List X) (n : ℕ) → at_ordinal (slice_get xs) n ≡ get_at n xs
  ordinal_is xs zero = refl
  ordinal_is xs (suc i) =
      let before : suc i - 1 ≡ i = omega arith in
      ap (λ (b : Bool). cond b None (slice_get xs (suc i - 1))) (ne_eqb (suc i) 0 (λ e. omega (arith, e))) ∙ ap (slice_get xs) before

  at-map : {Y : Type 0} (f : X → Y) (n : ℕ) (xs : List X) → get_at n (map f xs) ≡ option_map f (get_at n xs)
  at-map f zero xs = refl
  at-map f (suc i) xs = slice_get-map f xs i

flag-is : (o : Option Bool) → not (unwrap_or o true) ≡ true → o ≡ Some false
flag-is None e = absurd (false≢true e)
flag-is (Some true) e = absurd (false≢true e)
flag-is (Some false) e = refl

module _ {T : Type 0} where
  value-if : (b : Bool) (o : Option T) (v : T) → cond b o None ≡ Some v → (b ≡ true) × (o ≡ Some v)
  value-if true o v e = (refl, e)
  value-if false o v e = absurd (none_some v e)

  live-part : (t : Table T) (n : ℕ) (b : Bool) (v : T) → nat_eq n 0 ≡ b → cond b None (live_value t (n - 1)) ≡ Some v
      → (at_ordinal (slice_get (values t)) n ≡ Some v) × (at_ordinal (slice_get (ended t)) n ≡ Some false)
  live-part t n true v is e = absurd (none_some v e)
  live-part t n false v is e =
      let parts = value-if (is_live_at t (n - 1)) (slice_get (values t) (n - 1)) v e in (
        ap (λ (b : Bool). cond b None (slice_get (values t) (n - 1))) is ∙ parts.1,
        ap (λ (b : Bool). cond b None (slice_get (ended t) (n - 1))) is ∙ flag-is (slice_get (ended t) (n - 1)) parts.0,
      )

  -- a live value is the one at its ordinal, and has not ended
  pub live_parts : (t : Table T) (n : ℕ) (v : T) → at_ordinal (live_value t) n ≡ Some v → (get_at n (values t) ≡ Some v) × (get_at n (ended t) ≡ Some false)
  live_parts t n v e =
      let parts = live-part t n (nat_eq n 0) v refl e in
      (sym (ordinal_is (values t) n) ∙ parts.0, sym (ordinal_is (ended t) n) ∙ parts.1)

  pub live_from : (t : Table T) (n : ℕ) (v : T) → get_at n (values t) ≡ Some v → get_at n (ended t) ≡ Some false → at_ordinal (live_value t) n ≡ Some v
  live_from t zero v e f = absurd (none_some v e)
  live_from t (suc i) v e f =
      let before : suc i - 1 ≡ i = omega arith in
      ap (λ (b : Bool). cond b None (live_value t (suc i - 1))) (ne_eqb (suc i) 0 (λ e. omega (arith, e)))
      ∙ ap (live_value t) before
      ∙ ap (λ (o : Option Bool). cond (not (unwrap_or o true)) (slice_get (values t) i) None) f ∙ e

-- ---- stages

pub stage_get : (n : ℕ) (stages : List Stage) → stage_of n stages ≡ get_at n stages
stage_get zero stages = refl
stage_get (suc i) stages = refl

stage-set : (n : ℕ) (stages : List Stage) (st x : Stage) → stage_of n stages ≡ Some st → stage_of n (with_stage n x stages) ≡ Some x
stage-set zero stages st x e = absurd (none_some st e)
stage-set (suc i) stages st x e = get_set stages i x (slice_get_within stages i st e)

stage-set-other : (n k : ℕ) (stages : List Stage) (x : Stage) → (n ≡ k → ⊥) → stage_of k (with_stage n x stages) ≡ stage_of k stages
stage-set-other zero k stages x ne = refl
stage-set-other (suc i) zero stages x ne = refl
stage-set-other (suc i) (suc j) stages x ne = get_set_other stages i j x (λ e. ne (ap suc e))

pub stages_length : (n : ℕ) (stages : List Stage) (x : Stage) → length (with_stage n x stages) ≡ length stages
stages_length zero stages x = refl
stages_length (suc i) stages x = length_set stages i x

-- ---- what a roll that is kept has

pub no_standing : (n : ℕ) (h : List Recorded) → entries_of n h ≡ [] → standing_of n h ≡ None
no_standing n h e = let same = tell_same n h [] e in same.standing

module _ {T : Type 0} where
  seat-by : (h : List Recorded) (n : ℕ) (s : Standing) (o : Option (Seat T)) → IsKeptAt h n o → standing_of n h ≡ Some s
      → (seat : Seat T) × (o ≡ Some seat) × (standing_in seat ≡ s) × IsSeat h n seat
  seat-by h n s None k e = absurd (none_some s (sym (no_standing n h k) ∙ e))
  seat-by h n s (Some seat) k e = (seat, refl, same_Some (standing_in seat) s (sym k.standing ∙ e), k)

  -- the seat of a session that was opened
  pub seat_with : (limit : ℕ) (roll : Roll T) (h : List Recorded) (n : ℕ) (s : Standing) → IsKept limit roll h → standing_of n h ≡ Some s
      → (seat : Seat T) × (get_at n (seats roll) ≡ Some seat) × (standing_in seat ≡ s) × IsSeat h n seat
  seat_with limit roll h n s k e = seat-by h n s (get_at n (seats roll)) (k.each n) e

  -- one that lives is live in the table
  pub seat_live : (limit : ℕ) (roll : Roll T) (h : List Recorded) (n : ℕ) (seat : Seat T) → IsKept limit roll h → get_at n (seats roll) ≡ Some seat
      → (standing_in seat).ended ≡ None → at_ordinal (live_value roll.table) n ≡ Some seat
  seat_live limit roll h n seat k at lives =
      live_from roll.table n seat at
      (ap (get_at n) k.ended ∙ at-map has_ended n (seats roll) ∙ ap (option_map has_ended) at
      ∙ ap (λ (o : Option Reason). Some (not (is_none o))) lives)

  pub within_by : (h : List Recorded) (n : ℕ) (xs : List (Seat T)) (o : Option (Seat T)) → get_at n xs ≡ o → IsKeptAt h n o → length xs ≡ length (identifiers_in h)
      → ((i : ℕ) × (n ≡ suc i) × (i < length (identifiers_in h))) ⊎ (is_busy_in (standing_of n h) ≡ false)
  within_by h n xs None is k size = inr (ap is_busy_in (no_standing n h k))
  within_by h n xs (Some seat) is k size =
      let w = at_within n xs seat is in
      inl (w.0, w.1, omega (arith, w.2, size))

  pub are_within : (limit : ℕ) (roll : Roll T) (h : List Recorded) → IsTable roll.table → IsKept limit roll h → AreWithin h
  are_within limit roll h table k n =
      within_by h n (seats roll) (get_at n (seats roll)) refl (k.each n) (table.values_each ∙ ap length k.identifiers)

  -- those that are busy are exactly the busy ones
  pub kept_busy : (limit : ℕ) (roll : Roll T) (h : List Recorded) → IsTable roll.table → IsKept limit roll h → AreBusy h (all_in roll.busy)
  kept_busy limit roll h table k =
      subst (λ (ns : List ℕ). AreBusy h ns) (sym k.busy) (busy_exact h (are_within limit roll h table k))

  pub flag_by : (h : List Recorded) (i : ℕ) (xs : List (Seat T)) (o : Option (Seat T)) → slice_get xs i ≡ o → i < length xs → IsKeptAt h (suc i) o
      → option_map has_ended o ≡ Some (not (lives (standing_of (suc i) h)))
  flag_by h i xs None is lt k = absurd (none-within xs i lt is)
    where
      none-within : (xs : List (Seat T)) (i : ℕ) → i < length xs → slice_get xs i ≡ None → ⊥
      none-within [] i lt e = omega (arith, lt)
      none-within (x ∷ xs) zero lt e = none_some x (sym e)
      none-within (x ∷ xs) (suc i) lt e = none-within xs i (omega (arith, lt)) e
  flag_by h i xs (Some seat) is lt k = ap (λ (o : Option Standing). Some (not (lives o))) (sym k.standing)

  -- as many live as the table counts
  pub kept_live : (limit : ℕ) (roll : Roll T) (h : List Recorded) → IsTable roll.table → IsKept limit roll h → live_count h ≡ roll.table.live
  kept_live limit roll h table k =
      live_is h (ended roll.table)
      (λ i lt.
      ap (λ (bs : List Bool). slice_get bs i) k.ended ∙ slice_get-map has_ended (seats roll) i
      ∙ flag_by h i (seats roll) (slice_get (seats roll) i) refl (omega (arith, lt, table.ended_each, table.values_each)) (k.each (suc i)))
      (table.ended_each ∙ ap length k.identifiers)
      ∙ sym table.live

-- ---- one seat changes

nothing-more : (h es : List Recorded) → identifiers_in es ≡ [] → identifiers_in (h ++ es) ≡ identifiers_in h
nothing-more h es e = identifiers_join h es ∙ ap (λ t. identifiers_in h ++ t) e ∙ append-nil (identifiers_in h)

no-ordinal : (h es : List Recorded) → ordinals_in es ≡ [] → ordinals_in (h ++ es) ≡ ordinals_in h
no-ordinal h es e = ordinals_join h es ∙ ap (λ t. ordinals_in h ++ t) e ∙ append-nil (ordinals_in h)

-- these entries are of the session of an ordinal that was opened
pub record AreOf (n : ℕ) (es : List Recorded) : Type 0 where
  pub others : (k : ℕ) → (n ≡ k → ⊥) → AreOthers k es
  pub identifiers : identifiers_in es ≡ []
  pub ordinals : ordinals_in es ≡ []

module _ {T : Type 0} where
  -- the seat at an ordinal is another
  changed-each : (h es : List Recorded) (n : ℕ) (old new : Roll T) (seat next : Seat T) (ends : Bool) → ((k : ℕ) → IsKeptAt h k (get_at k (seats old)))
      → get_at n (seats old) ≡ Some seat → IsChanged n old.table new.table next ends → AreOf n es → IsSeat (h ++ es) n next
      → (k : ℕ) → (n ≡ k) ⊎ (n ≡ k → ⊥) → IsKeptAt (h ++ es) k (get_at k (seats new))
  changed-each h es n old new seat next ends each at c of kept k (inl same) =
      subst (λ (j : ℕ). IsKeptAt (h ++ es) j (get_at j (seats new))) same
      (subst (λ (o : Option (Seat T)). IsKeptAt (h ++ es) n o) (sym (ap (get_at n) c.seats ∙ at_set n (seats old) seat next at)) kept)
  changed-each h es n old new seat next ends each at c of kept k (inr ne) =
      subst (λ (o : Option (Seat T)). IsKeptAt (h ++ es) k o) (sym (ap (get_at k) c.seats ∙ at_set_other n k (seats old) seat next at ne))
      (others_kept h es k (get_at k (seats old)) (of.others k ne) (each k))

  changed-ended : (n : ℕ) (old new : Roll T) (seat next : Seat T) (ends : Bool) → ended old.table ≡ map has_ended (seats old)
      → get_at n (seats old) ≡ Some seat → IsChanged n old.table new.table next ends → has_ended seat ≡ false → has_ended next ≡ ends
      → ended new.table ≡ map has_ended (seats new)
  changed-ended n old new seat next true flags at c live is =
      c.ended ∙ ap (λ (bs : List Bool). slice_set bs (n - 1) true) flags
      ∙ ap (slice_set (map has_ended (seats old)) (n - 1)) (sym is)
      ∙ sym (map_set has_ended (seats old) (n - 1) next) ∙ ap (map has_ended) (sym c.seats)
  changed-ended n old new seat next false flags at c live is =
      c.ended ∙ flags ∙ sym (map_set_kept has_ended n (seats old) seat next at (is ∙ sym live)) ∙ ap (map has_ended) (sym c.seats)

  -- a roll with another seat is kept, with the entries that tell of it
  pub changed_kept : (limit : ℕ) (h es : List Recorded) (n : ℕ) (old new : Roll T) (seat next : Seat T) (ends : Bool)
      → IsKept limit old h → get_at n (seats old) ≡ Some seat → (standing_in seat).ended ≡ None
      → IsChanged n old.table new.table next ends → has_ended next ≡ ends → new.limit ≡ old.limit
      → AreOf n es → IsSeat (h ++ es) n next → IsTable new.table → AreBusy (h ++ es) (all_in new.busy)
      → IsKept limit new (h ++ es)
  changed_kept limit h es n old new seat next ends k at live c is same of kept table busy = record {
    bound = same ∙ k.bound;
    most = c.most ∙ k.most;
    identifiers = identifiers;
    ordinals = no-ordinal h es of.ordinals ∙ k.ordinals ∙ ap (λ (t : List ℕ). counted 1 (length t)) (sym (nothing-more h es of.identifiers));
    each = each;
    ended = changed-ended n old new seat next ends k.ended at c (ap (λ (o : Option Reason). not (is_none o)) live) is;
    busy = busy_same (h ++ es) (all_in new.busy) (λ j. within_by (h ++ es) j (seats new) (get_at j (seats new)) refl (each j) (table.values_each ∙ ap length identifiers)) busy;
  }
    where
      identifiers : ids new.table ≡ identifiers_in (h ++ es)
      identifiers = c.ids ∙ k.identifiers ∙ sym (nothing-more h es of.identifiers)

      each : (j : ℕ) → IsKeptAt (h ++ es) j (get_at j (seats new))
      each j = changed-each h es n old new seat next ends k.each at c of kept j (cases_eq n j)

  module _ (stands : T → Stage → Type 0) (m : Meaning) where
    stage-by : (o : Option (Seat T)) (seat : Seat T) (st : Option Stage) → o ≡ Some seat → IsAtStage stands m o st
        → (stage : Stage) × (st ≡ Some stage) × StandsAt stands m seat stage
    stage-by None seat st e k = absurd (none_some seat e)
    stage-by (Some other) seat None e k = absurd k
    stage-by (Some other) seat (Some st) e k = (st, refl, subst (λ (x : Seat T). StandsAt stands m x st) (same_Some other seat e) k)

    -- the stage of a session
    pub stage_with : (limit : ℕ) (roll : Roll T) (h : List Recorded) (stages : List Stage) (n : ℕ) (seat : Seat T) → IsRollOf stands m limit roll h stages
        → get_at n (seats roll) ≡ Some seat → (stage : Stage) × (stage_of n stages ≡ Some stage) × StandsAt stands m seat stage
    stage_with limit roll h stages n seat r at = stage-by (get_at n (seats roll)) seat (stage_of n stages) at (r.each n)

    -- a roll with another seat, at another stage
    pub changed_stages : (n : ℕ) (old new : Roll T) (stages : List Stage) (seat next : Seat T) (st after : Stage) (ends : Bool)
        → ((k : ℕ) → IsAtStage stands m (get_at k (seats old)) (stage_of k stages))
        → get_at n (seats old) ≡ Some seat → stage_of n stages ≡ Some st → IsChanged n old.table new.table next ends → StandsAt stands m next after
        → (k : ℕ) → IsAtStage stands m (get_at k (seats new)) (stage_of k (with_stage n after stages))
    changed_stages n old new stages seat next st after ends each at is c s k = by (cases_eq n k)
      where
        by : (n ≡ k) ⊎ (n ≡ k → ⊥) → IsAtStage stands m (get_at k (seats new)) (stage_of k (with_stage n after stages))
        by (inl same) =
            subst (λ (j : ℕ). IsAtStage stands m (get_at j (seats new)) (stage_of j (with_stage n after stages))) same
            (subst (λ (o : Option Stage). IsAtStage stands m (get_at n (seats new)) o) (sym (stage-set n stages st after is))
            (subst (λ (o : Option (Seat T)). IsAtStage stands m o (Some after)) (sym (ap (get_at n) c.seats ∙ at_set n (seats old) seat next at)) s))
        by (inr ne) =
            subst (λ (o : Option Stage). IsAtStage stands m (get_at k (seats new)) o) (sym (stage-set-other n k stages after ne))
            (subst (λ (o : Option (Seat T)). IsAtStage stands m o (stage_of k stages)) (sym (ap (get_at k) c.seats ∙ at_set_other n k (seats old) seat next at ne)) (each k))
