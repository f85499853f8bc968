-- What is kept of a session is what the history tells, when entries are added.
use Rattle.std.proofs.Common.{◌≡◌, ℕ, suc, ◌+◌, ◌<◌, Bool, true, cond, not, eqb, List, [], ◌∷◌, ◌++◌, length, map, Option, Some, None, refl, sym, ap, ◌∙◌, subst, arith, append-nil}
use Rattle.std.specs.Prelude.{is_none, is_some, option_map}
use Rattle.std.specs.List.{AllByRecursion, zip}
use Rattle.std.proofs.lemmas.Bool.{false≢true, eq-eqb, ne_eqb, and_from, and_right}
use Rattle.std.proofs.lemmas.Option.{same_Some}
use Rattle.rip_wire.specs.Answers.{Served, served_of}
use Rattle.rip_wire.specs.Batches.{Contents}
use Rattle.rip_wire.specs.declared.answer.ServedCall.{ServedCall}
use Rattle.rip_wire.specs.declared.ending.Reason.{Reason}
use Rattle.rip_wire.specs.declared.ending.Reason.TheVariants.{Closed}
use Rattle.rip_wire.specs.Reasons.{reason_of}
use Rattle.rip_log.specs.Entries.{Recorded, opened, admitted, closed}
use Rattle.rip_http.specs.declared.answer.Opening.{Opening}
use Rattle.rip_history.specs.Answering.{opening_told}
use Rattle.rip_history.specs.Parts.{Fact, passes, serves, finishes, Part, Given, serves_call, served_count}
use Rattle.rip_history.specs.Requests.{served_in}
use Rattle.rip_history.specs.Run.{called_so_far, done_entries}
use Rattle.rip_history.specs.Services.{Serving, serving_of, servings_in, called_in, served_entry, served_entries, answered_call, answered_calls}
use Rattle.rip_history.specs.Standings.{when_opened, when_admitted, when_done, when_closed, has_done, is_busy, is_live, standing_of, standing_from, entries_of}
use Rattle.rip_history.specs.declared.sessions.Progress.{Progress}
use Rattle.rip_history.specs.declared.sessions.Progress.TheVariants.{Busy, Finished}
use Rattle.rip_history.specs.declared.standing.Standing.{Standing}
use Rattle.rip_history.proofs.StandingLemmas.{standings_follow}
use Rattle.rip_table.specs.Seats.{Held, standing_in, notes_in, AreNotes, IsSeat, IsKeptAt, IsOpened, IsAdmitted, IsClosed, IsAfter, IsGivenUp, Leaves}
use Rattle.rip_table.specs.declared.roll.seat.Legacy.{Legacy}
use Rattle.rip_table.specs.declared.roll.seat.Notes.{Notes}
use Rattle.rip_table.specs.declared.roll.seat.Seat.{Seat}
use Rattle.rip_table.specs.declared.roll.seat.Seat.TheVariants.{Live}
use Rattle.rip_table.proofs.OwnLemmas.{served_join, called_join, standing_join, opening_stays, tell_same, others_same, AreOthers, opened_opening}
use Rattle.rip_table.proofs.StageLemmas.{idle_done, busy_admitted, idle_finished}

-- ---- entries of a slice

-- the standing after a slice
abbrev pub after_progress : ℕ → Progress → Standing → Standing
after_progress number Busy s = s
after_progress number (Finished how) s = when_done number (option_map reason_of how) s

module _ (turn n : ℕ) where
  served-others : (k : ℕ) → (n ≡ k → ⊥) → (xs : List (Serving × Given)) → AreOthers k (map (served_entry turn n) xs)
  served-others k ne [] = tt
  served-others k ne ((s, g) ∷ xs) = (ne_eqb n k ne, served-others k ne xs)

  done-others : (k : ℕ) → (n ≡ k → ⊥) → (number : ℕ) (p : Progress) → AreOthers k (done_entries turn n number p)
  done-others k ne number Busy = tt
  done-others k ne number (Finished how) = (ne_eqb n k ne, tt)

  others-join : (k : ℕ) (xs ys : List Recorded) → AreOthers k xs → AreOthers k ys → AreOthers k (xs ++ ys)
  others-join k [] ys p q = q
  others-join k (x ∷ xs) ys p q = (p.0, others-join k xs ys p.1 q)

  -- they are of no other session
  pub slice_others : (k : ℕ) → (n ≡ k → ⊥) → (parts : List Part) (given : List Given) (number : ℕ) (p : Progress)
      → AreOthers k (served_entries turn n parts given ++ done_entries turn n number p)
  slice_others k ne parts given number p =
      others-join k (served_entries turn n parts given) (done_entries turn n number p)
      (served-others k ne (zip (servings_in parts) given)) (done-others k ne number p)

  served-standing : (k : ℕ) (s : Option Standing) (xs : List (Serving × Given)) → standing_from k s (map (served_entry turn n) xs) ≡ s
  served-standing k s [] = refl
  served-standing k s ((x, g) ∷ xs) = served-standing k s xs

  done-standing : (s : Standing) (number : ℕ) (p : Progress)
      → standing_from n (Some s) (done_entries turn n number p) ≡ Some (after_progress number p s)
  done-standing s number Busy = refl
  done-standing s number (Finished how) =
      ap (λ (b : Bool). cond b (Some (when_done number (option_map reason_of how) s)) (Some s)) (eq-eqb n n refl)

  pub slice_standing : (h : List Recorded) (s : Standing) (parts : List Part) (given : List Given) (number : ℕ) (p : Progress)
      → standing_of n h ≡ Some s
      → standing_of n (h ++ (served_entries turn n parts given ++ done_entries turn n number p)) ≡ Some (after_progress number p s)
  slice_standing h s parts given number p stands =
      let made = served_entries turn n parts given in
      let last = done_entries turn n number p in
      standing_join n None h (made ++ last)
      ∙ standing_join n (standing_of n h) made last
      ∙ ap (λ (o : Option Standing). standing_from n o last) (served-standing n (standing_of n h) (zip (servings_in parts) given) ∙ stands)
      ∙ done-standing s number p

  -- the calls that it served are of its batch
  abbrev pub AreOf : ℕ → List Serving → Type 0
  AreOf number ss = AllByRecursion (λ (s : Serving). s.batch ≡ number) ss

  served-own : (number : ℕ) (ss : List Serving) (gs : List Given) → AreOf number ss
      → served_in n number (map (served_entry turn n) (zip ss gs)) ≡ map answered_call (zip ss gs)
  served-own number [] gs own = refl
  served-own number (s ∷ ss) [] own = refl
  served-own number (s ∷ ss) (g ∷ gs) own =
      let x : Served = record { number = s.number; time = g.time; reply = g.reply } in
      ap (λ (b : Bool). cond b (x ∷ served_in n number (map (served_entry turn n) (zip ss gs))) (served_in n number (map (served_entry turn n) (zip ss gs))))
      (and_from (eqb n n) (eqb s.batch number) (eq-eqb n n refl) (eq-eqb s.batch number own.0))
      ∙ ap (λ t. x ∷ t) (served-own number ss gs own.1)

  served-other : (k number : ℕ) → (number ≡ k → ⊥) → (ss : List Serving) (gs : List Given) → AreOf number ss
      → served_in n k (map (served_entry turn n) (zip ss gs)) ≡ []
  served-other k number ne [] gs own = refl
  served-other k number ne (s ∷ ss) [] own = refl
  served-other k number ne (s ∷ ss) (g ∷ gs) own =
      let x : Served = record { number = s.number; time = g.time; reply = g.reply } in
      ap (λ (b : Bool). cond b (x ∷ served_in n k (map (served_entry turn n) (zip ss gs))) (served_in n k (map (served_entry turn n) (zip ss gs))))
      (and_right (eqb n n) (eqb s.batch k) (ne_eqb s.batch k (λ e. ne (sym own.0 ∙ e))))
      ∙ served-other k number ne ss gs own.1

  done-served : (k number : ℕ) (p : Progress) → served_in n k (done_entries turn n number p) ≡ []
  done-served k number Busy = refl
  done-served k number (Finished how) = refl

  of-fact : (number batch : ℕ) (f : Fact) → batch ≡ number → (more : List Serving) → AreOf number more → AreOf number (serving_of batch f ++ more)
  of-fact number batch passes e more own = own
  of-fact number batch (serves k name args) e more own = (e, own)
  of-fact number batch (finishes how) e more own = own

  are-of : (number : ℕ) (parts : List Part) → AllByRecursion (λ (p : Part). p.batch ≡ number) parts → AreOf number (servings_in parts)
  are-of number [] own = tt
  are-of number (p ∷ ps) own = of-fact number p.batch p.fact own.0 (servings_in ps) (are-of number ps own.1)

  -- what its batch served after a slice, and the others
  pub slice_served : (h : List Recorded) (parts : List Part) (given : List Given) (number : ℕ) (p : Progress)
      → AllByRecursion (λ (q : Part). q.batch ≡ number) parts
      → served_in n number (h ++ (served_entries turn n parts given ++ done_entries turn n number p)) ≡ served_in n number h ++ answered_calls parts given
  slice_served h parts given number p own =
      let made = served_entries turn n parts given in
      let last = done_entries turn n number p in
      served_join n number h (made ++ last)
      ∙ ap (λ t. served_in n number h ++ t)
      (served_join n number made last
      ∙ ap (λ t. served_in n number made ++ t) (done-served number number p) ∙ append-nil (served_in n number made)
      ∙ served-own number (servings_in parts) given (are-of number parts own))

  pub slice_unserved : (h : List Recorded) (parts : List Part) (given : List Given) (k number : ℕ) (p : Progress) → (number ≡ k → ⊥)
      → AllByRecursion (λ (q : Part). q.batch ≡ number) parts
      → served_in n k (h ++ (served_entries turn n parts given ++ done_entries turn n number p)) ≡ served_in n k h
  slice_unserved h parts given k number p ne own =
      let made = served_entries turn n parts given in
      let last = done_entries turn n number p in
      served_join n k h (made ++ last)
      ∙ ap (λ t. served_in n k h ++ t)
      (served_join n k made last
      ∙ ap (λ t. served_in n k made ++ t) (done-served k number p) ∙ append-nil (served_in n k made)
      ∙ served-other k number ne (servings_in parts) given (are-of number parts own))
      ∙ append-nil (served_in n k h)

  called-each : (ss : List Serving) (gs : List Given) → length ss ≡ length gs
      → called_so_far (map (served_entry turn n) (zip ss gs)) ≡ map (λ (s : Serving). (s.name, s.args)) ss
  called-each [] gs same = refl
  called-each (s ∷ ss) [] same = absurd (omega (arith, same))
  called-each (s ∷ ss) (g ∷ gs) same = ap (λ t. (s.name, s.args) ∷ t) (called-each ss gs (omega (arith, same)))

  count-fact : (batch : ℕ) (f : Fact) (more : List Serving) (c : ℕ) → length more ≡ c → length (serving_of batch f ++ more) ≡ cond (serves_call f) (suc c) c
  count-fact batch passes more c e = e
  count-fact batch (serves k name args) more c e = ap suc e
  count-fact batch (finishes how) more c e = e

  count-each : (parts : List Part) → length (servings_in parts) ≡ served_count parts
  count-each [] = refl
  count-each (p ∷ ps) = count-fact p.batch p.fact (servings_in ps) (served_count ps) (count-each ps)

  done-called : (number : ℕ) (p : Progress) → called_so_far (done_entries turn n number p) ≡ []
  done-called number Busy = refl
  done-called number (Finished how) = refl

  -- the calls that were served
  pub slice_called : (h : List Recorded) (parts : List Part) (given : List Given) (number : ℕ) (p : Progress) → served_count parts ≡ length given
      → called_so_far (h ++ (served_entries turn n parts given ++ done_entries turn n number p)) ≡ called_so_far h ++ called_in parts
  slice_called h parts given number p each =
      let made = served_entries turn n parts given in
      let last = done_entries turn n number p in
      called_join h (made ++ last)
      ∙ ap (λ t. called_so_far h ++ t)
      (called_join made last ∙ ap (λ t. called_so_far made ++ t) (done-called number p) ∙ append-nil (called_so_far made)
      ∙ called-each (servings_in parts) given (count-each parts ∙ each))

-- ---- seats

not-some : {A : Type 0} (x : A) → None ≡ Some x → ⊥
not-some x e = false≢true (ap (λ (o : Option _). is_some o) e)

own-last : (n : ℕ) (t f : Option Standing) → cond (eqb n n) t f ≡ t
own-last n t f = ap (λ (b : Bool). cond b t f) (eq-eqb n n refl)

module _ {T : Type 0} where
  -- entries of others change nothing
  pub others_kept : (h es : List Recorded) (n : ℕ) (o : Option (Seat T)) → AreOthers n es → IsKeptAt h n o → IsKeptAt (h ++ es) n o
  others_kept h es n None others k = others_same n h es others ∙ k
  others_kept h es n (Some seat) others k =
      let same = tell_same n (h ++ es) h (others_same n h es others) in
      record {
        standing = same.standing ∙ k.standing;
        lives = k.lives;
        notes = λ notes has.
            let was = k.notes notes has in
            record {
              opening = same.opening ∙ was.opening;
              told = λ number e. was.told number e ∙ sym (same.served number);
              making = λ e. was.making e ∙ sym (same.served (let s = standing_in seat in s.last));
              none = was.none;
            };
        ahead = λ number lt. same.served number ∙ k.ahead number lt;
      }

  pub opened_kept : (h : List Recorded) (n turn id seed time : ℕ) (seat : Seat T) → entries_of n h ≡ [] → IsOpened id seed time seat
      → IsSeat (h ++ opened turn n id seed time ∷ []) n seat
  opened_kept h n turn id seed time seat none k = record {
    standing = standings_follow n h e ∙ own-last n (Some when_opened) (standing_of n h) ∙ ap (λ (s : Standing). Some s) (sym k.standing);
    lives = ap (λ (o : Option Notes). is_some o) k.notes ∙ sym (ap is_live k.standing);
    notes = λ notes has.
        subst (λ (x : Notes). AreNotes (h ++ e ∷ []) n (standing_in seat) x) (same_Some k.noted notes (sym k.notes ∙ has)) noted;
    ahead = λ number lt. unserved number;
  }
    where
      e : Recorded
      e = opened turn n id seed time

      unserved : (number : ℕ) → served_in n number (h ++ e ∷ []) ≡ []
      unserved number =
          served_join n number h (e ∷ []) ∙ append-nil (served_in n number h)
          ∙ (let same = tell_same n h [] none in same.served number)

      noted : AreNotes (h ++ e ∷ []) n (standing_in seat) k.noted
      noted = record {
        opening = opened_opening n turn id seed time h none ∙ ap (λ (o : Opening). Some o) (sym k.opening);
        told = λ number f. absurd (not-some number (sym (ap (λ (s : Standing). s.done) k.standing) ∙ f));
        making = λ f. ap (map served_of) k.making ∙ sym (unserved (let s = standing_in seat in s.last));
        none = λ f. k.making;
      }

  pub admitted_kept : (h : List Recorded) (n turn : ℕ) (b : Contents) (old new : Seat T) → IsSeat h n old
      → (standing_in old).ended ≡ None → (standing_in old).done ≡ Some (standing_in old).last → b.number ≡ (standing_in old).last + 1 → IsAdmitted b.number old new
      → IsSeat (h ++ admitted turn n b ∷ []) n new
  admitted_kept h n turn b old new k alive idle next a = record {
    standing =
        standings_follow n h e ∙ own-last n (option_map (when_admitted b.number) (standing_of n h)) (standing_of n h)
        ∙ ap (option_map (when_admitted b.number)) k.standing ∙ ap (λ (s : Standing). Some s) (sym a.standing);
    lives = ap (λ (o : Option Notes). is_some o) a.notes ∙ k.lives ∙ sym (ap is_live a.standing);
    notes = λ notes has. noted notes (k.notes notes (sym a.notes ∙ has));
    ahead = λ number lt.
        let is : (standing_in new).last ≡ b.number = ap (λ (s : Standing). s.last) a.standing in
        same number ∙ k.ahead number (omega (arith, lt, is, next));
  }
    where
      e : Recorded
      e = admitted turn n b

      same : (number : ℕ) → served_in n number (h ++ e ∷ []) ≡ served_in n number h
      same number = served_join n number h (e ∷ []) ∙ append-nil (served_in n number h)

      noted : (notes : Notes) → AreNotes h n (standing_in old) notes → AreNotes (h ++ e ∷ []) n (standing_in new) notes
      noted notes was = record {
        opening = opening_stays n h (e ∷ []) notes.opening was.opening;
        told = λ number f. was.told number (sym (ap (λ (s : Standing). s.done) a.standing) ∙ f) ∙ sym (same number);
        making = λ f.
            ap (map served_of) (was.none (idle_done (standing_in old) idle))
            ∙ sym (ap (λ (s : Standing). served_in n s.last (h ++ e ∷ [])) a.standing ∙ same b.number ∙ k.ahead b.number (omega (arith, next)));
        none = λ f. absurd (false≢true (sym f ∙ ap is_busy a.standing ∙ busy_admitted (standing_in old) b.number idle next));
      }

  pub closed_standing : (old new : Seat T) → (standing_in old).done ≡ Some (standing_in old).last → IsClosed old new
      → standing_in new ≡ when_closed (standing_in old)
  closed_standing old new idle a =
      ap standing_in a
      ∙ ap (λ (d : Option ℕ). let s : Standing = record { last = (standing_in old).last; done = d; ended = Some Closed } in s) (sym idle)

  pub closed_kept : (h : List Recorded) (n turn : ℕ) (old new : Seat T) → IsSeat h n old → (standing_in old).done ≡ Some (standing_in old).last
      → IsClosed old new → IsSeat (h ++ closed turn n ∷ []) n new
  closed_kept h n turn old new k idle a = record {
    standing =
        standings_follow n h e ∙ own-last n (option_map when_closed (standing_of n h)) (standing_of n h)
        ∙ ap (option_map when_closed) k.standing ∙ ap (λ (s : Standing). Some s) (sym is);
    lives = ap (λ (x : Seat T). is_some (notes_in x)) a ∙ sym (ap (λ (x : Seat T). is_live (standing_in x)) a);
    notes = λ notes has. absurd (not-some notes (sym (ap notes_in a) ∙ has));
    ahead = λ number lt.
        let at : (standing_in new).last ≡ (standing_in old).last = ap (λ (s : Standing). s.last) is in
        served_join n number h (e ∷ []) ∙ append-nil (served_in n number h) ∙ k.ahead number (omega (arith, lt, at));
  }
    where
      e : Recorded
      e = closed turn n

      is : standing_in new ≡ when_closed (standing_in old)
      is = closed_standing old new idle a

  -- ---- a busy session after a slice

  module _ (h : List Recorded) (n turn : ℕ) (parts : List Part) (given : List Given) (old new : Seat T) (before held : Held T) (legacy : Option Legacy)
      (number : ℕ) (k : IsSeat h n old) (busy : is_busy (standing_in old) ≡ true) (alive : (standing_in old).ended ≡ None)
      (own : AllByRecursion (λ (q : Part). q.batch ≡ (standing_in old).last) parts) (was : old ≡ Live before)
      (numbered : number ≡ (standing_in old).last) where
    abbrev last : ℕ
    last = (standing_in old).last

    abbrev more : Progress → List Recorded
    more p = h ++ (served_entries turn n parts given ++ done_entries turn n last p)

    stood : standing_in old ≡ before.value.standing
    stood = ap standing_in was

    noted : AreNotes h n (standing_in old) before.value.notes
    noted = k.notes before.value.notes (ap notes_in was)

    opening : (p : Progress) → opening_told n (more p) ≡ Some before.value.notes.opening
    opening p = opening_stays n h (served_entries turn n parts given ++ done_entries turn n last p) before.value.notes.opening noted.opening

    made : (p : Progress) (xs : List ServedCall) → map served_of xs ≡ map served_of before.value.notes.making.items ++ answered_calls parts given
        → map served_of xs ≡ served_in n last (more p)
    made p xs is = is ∙ ap (λ t. t ++ answered_calls parts given) (noted.making busy) ∙ sym (slice_served turn n h parts given last p own)

    not-done : (j : ℕ) → (standing_in old).done ≡ Some j → last ≡ j → ⊥
    not-done j e same = false≢true (sym (ap (λ (o : Option ℕ). not (has_done o last)) e ∙ ap not (eq-eqb j last (sym same))) ∙ busy)

    ahead : (p : Progress) → (standing_in new).last ≡ last → (j : ℕ) → (standing_in new).last < j → served_in n j (more p) ≡ []
    ahead p at j lt = slice_unserved turn n h parts given j last p (λ e. omega (arith, e, lt, at)) own ∙ k.ahead j (omega (arith, lt, at))

    -- how it stands then
    pub slice_stands : (p : Progress) → IsAfter p (answered_calls parts given) legacy before.value held.value → IsGivenUp p number (Live held) new
        → standing_in new ≡ after_progress (standing_in old).last p (standing_in old)
    slice_stands Busy (none, is, m) left = ap standing_in left ∙ is ∙ sym stood
    slice_stands (Finished None) (none, is, m) left = ap standing_in left ∙ is ∙ ap (λ (s : Standing). when_done s.last None s) (sym stood)
    slice_stands (Finished (Some ending)) l left =
        ap standing_in left
        ∙ ap (λ (j : ℕ). let s : Standing = record { last = j; done = Some j; ended = Some (reason_of ending) } in s) numbered

    -- what is kept of it
    pub slice_kept : (p : Progress) → IsAfter p (answered_calls parts given) legacy before.value held.value → IsGivenUp p number (Live held) new
        → IsSeat (h ++ (served_entries turn n parts given ++ done_entries turn n (standing_in old).last p)) n new
    slice_kept Busy (none, is, m) left =
        let at = slice_stands Busy (none, is, m) left in
        let has : notes_in new ≡ Some held.value.notes = ap notes_in left in
        record {
          standing = slice_standing turn n h (standing_in old) parts given last Busy k.standing ∙ ap (λ (s : Standing). Some s) (sym at);
          lives = ap (λ (o : Option Notes). is_some o) has ∙ sym (ap is_live at ∙ ap (λ (o : Option Reason). is_none o) alive);
          notes = λ notes e.
              subst (λ (x : Notes). AreNotes (more Busy) n (standing_in new) x) (same_Some held.value.notes notes (sym has ∙ e)) (record {
                opening = opening Busy ∙ ap (λ (o : Opening). Some o) (sym m.opening);
                told = λ j f.
                    let done : (standing_in old).done ≡ Some j = sym (ap (λ (s : Standing). s.done) at) ∙ f in
                    ap (map served_of) m.told ∙ noted.told j done ∙ sym (slice_unserved turn n h parts given j last Busy (not-done j done) own);
                making = λ f.
                    made Busy held.value.notes.making.items m.making ∙ ap (λ (s : Standing). served_in n s.last (more Busy)) (sym at);
                none = λ f. absurd (false≢true (sym f ∙ ap is_busy at ∙ busy));
              });
          ahead = ahead Busy (ap (λ (s : Standing). s.last) at);
        }
    slice_kept (Finished None) (none, is, m) left =
        let at = slice_stands (Finished None) (none, is, m) left in
        let has : notes_in new ≡ Some held.value.notes = ap notes_in left in
        record {
          standing = slice_standing turn n h (standing_in old) parts given last (Finished None) k.standing ∙ ap (λ (s : Standing). Some s) (sym at);
          lives = ap (λ (o : Option Notes). is_some o) has ∙ sym (ap is_live at);
          notes = λ notes e.
              subst (λ (x : Notes). AreNotes (more (Finished None)) n (standing_in new) x) (same_Some held.value.notes notes (sym has ∙ e)) (record {
                opening = opening (Finished None) ∙ ap (λ (o : Opening). Some o) (sym m.opening);
                told = λ j f.
                    made (Finished None) held.value.notes.told.items m.told
                    ∙ ap (λ (i : ℕ). served_in n i (more (Finished None))) (same_Some last j (sym (ap (λ (s : Standing). s.done) at) ∙ f));
                making = λ f. absurd (false≢true (sym (idle_finished (standing_in old) None) ∙ sym (ap is_busy at) ∙ f));
                none = λ f. m.making;
              });
          ahead = ahead (Finished None) (ap (λ (s : Standing). s.last) at);
        }
    slice_kept (Finished (Some ending)) l left =
        let at = slice_stands (Finished (Some ending)) l left in
        record {
          standing = slice_standing turn n h (standing_in old) parts given last (Finished (Some ending)) k.standing ∙ ap (λ (s : Standing). Some s) (sym at);
          lives = ap (λ (x : Seat T). is_some (notes_in x)) left ∙ sym (ap (λ (x : Seat T). is_live (standing_in x)) left);
          notes = λ notes e. absurd (not-some notes (sym (ap notes_in left) ∙ e));
          ahead = ahead (Finished (Some ending)) (ap (λ (s : Standing). s.last) at);
        }

    -- what it leaves
    pub slice_leaves : (p : Progress) → IsAfter p (answered_calls parts given) legacy before.value held.value
        → Leaves p legacy n (standing_in old).last (h ++ (served_entries turn n parts given ++ done_entries turn n (standing_in old).last p))
    slice_leaves Busy a = a.0
    slice_leaves (Finished None) a = a.0
    slice_leaves (Finished (Some ending)) l = record {
      left = l.left;
      some = l.some;
      opening = opening (Finished (Some ending)) ∙ ap (λ (o : Opening). Some o) (sym l.opening);
      told = made (Finished (Some ending)) (let x = l.left in x.told.items) l.told;
    }
