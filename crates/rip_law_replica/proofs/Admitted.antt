-- A session that is admitted a batch.
use Rattle.std.proofs.Common.{◌≡◌, ◌⊎◌, ℕ, suc, ◌+◌, ◌<◌, ◌≤◌, ◌==◌, ◌&&◌, ◌||◌, Bool, false, List, [], ◌∷◌, ◌++◌, length, slice_get, Some, inl, inr, if◌then◌else◌, refl, ap, sym, subst, ◌∙◌, arith, append_assoc, length-append}
use Rattle.rip_wire.specs.Batches.{Contents}
use Rattle.rip_eval_rows.specs.Evaluation.{Evaluation}
use Rattle.rip_history.specs.Parts.{Given, Part, ends_batch}
use Rattle.rip_history.specs.Parts as parts
use Rattle.rip_history.specs.Stages.{MayAdmit, Stage, finishes_batch, is_done, is_ended, with_batch}
use Rattle.rip_replica.specs.declared.replica.Place.{Place}
use Rattle.rip_replica.specs.Parts.{Doing, batch_parts, behind_items, later_parts, meaning_of, session_behind, session_parts, stand_at}
use Rattle.rip_replica.specs.Sessions.{AreBehind, IsAt, IsBusy, IsIdle, behind_batch}
use Rattle.rip_replica.specs.Standing.{Ahead, IsCut, Left, Spot, Stands, next_number}
use Rattle.rip_replica.proofs.TurnLemmas.{items_cost}
use Rattle.rip_law_replica.specs.Sound.{IsSound}
use Rattle.rip_law_replica.specs.Spots.{IsAdmitted}
use Rattle.rip_law_replica.proofs.Behind.{behind_more, items_follow, last_more}
use Rattle.rip_law_replica.proofs.Done.{busy_not_done, never}

-- PARTS OF BATCHES UP TO THE LAST

below_next : (last number units : ℕ) (p : Part) → (p.batch < last) ⊎ ((p.batch ≡ last) × (p.item < number) × (p.cost ≤ units)) → p.batch < last + 1
below_next last number units p (inl less) = omega (arith, less)
below_next last number units p (inr h) = omega (arith, h.0)

behind_next : (last number units n : ℕ) (ps : List Part) → AreBehind last number units ps → AreBehind (last + 1) n 0 ps
behind_next last number units n [] h = tt
behind_next last number units n (p ∷ ps) h = (inl (below_next last number units p h.0), behind_next last number units n ps h.1)

other_batch : (a b : ℕ) → a < b → (a == b) ≡ false
other_batch a b less = grind (arith, less)

none_finish : (last number units : ℕ) (ps : List Part) → AreBehind last number units ps → finishes_batch (last + 1) ps ≡ false
none_finish last number units [] h = refl
none_finish last number units (p ∷ ps) h =
    ap (λ x. (x && ends_batch p.fact) || finishes_batch (last + 1) ps) (other_batch p.batch (last + 1) (below_next last number units p h.0))
    ∙ none_finish last number units ps h.1

none_spent : (last number units base : ℕ) (ps : List Part) → AreBehind last number units ps → parts.spent (last + 1) ps base ≡ base
none_spent last number units base [] h = refl
none_spent last number units base (p ∷ ps) h =
    ap (λ x. parts.spent (last + 1) ps (if x then p.cost else base)) (other_batch p.batch (last + 1) (below_next last number units p h.0))
    ∙ none_spent last number units base ps h.1

-- THE NEXT BATCH

-- its parts, by where the session stands then
next_parts : {M A S : Type 0} (d : Doing A S) (number last : ℕ) (b : Contents) (at to : Spot M A S) → number ≡ last + 1 → IsAdmitted d b at to
    → (bs : List Contents) (gs : List Given) → behind_batch d last (b ∷ bs) gs at.world at.page ≡ batch_parts d number to.all gs to.world to.page (behind_batch d number bs)
next_parts d number last b at to counted is bs gs =
    ap (λ k. batch_parts d k (d.items b) gs at.world at.page (behind_batch d k bs)) (sym counted)
    ∙ ap (λ xs. batch_parts d number xs gs at.world at.page (behind_batch d number bs)) (sym is.all)
    ∙ ap (λ w. batch_parts d number to.all gs w at.page (behind_batch d number bs)) (sym is.world)
    ∙ ap (λ s. batch_parts d number to.all gs to.world s (behind_batch d number bs)) (sym is.page)

-- what comes of it
abbrev pub next_ahead : {M A S : Type 0} → Doing A S → Stage → Contents → Spot M A S → Ahead S
next_ahead d st b at = record {
  parts = λ bs gs. behind_batch d (length st.batches) (b ∷ bs) gs at.world at.page;
  behind = λ gs k. session_behind d (st.batches ++ b ∷ []) (st.given ++ gs) k;
}

-- the session stands before its first unit
next_stands : {M A S : Type 0} (e : Evaluation M S) (doing : ℕ → ℕ → Doing A S) (may : S → Bool) (at to : Spot M A S) (st : Stage) (b : Contents) (number : ℕ)
    → number ≡ length st.batches + 1 → IsSound doing may → IsIdle e (doing st.seed st.time) may at st → b.number ≡ length st.batches + 1 → IsAdmitted (doing st.seed st.time) b at to
    → Stands e (doing st.seed st.time) may number (behind_batch (doing st.seed st.time) number) to 0 1 0
    (next_ahead (doing st.seed st.time) st b at)
next_stands e doing may at to st b number counted sound idle next is =
    let d : Doing _ _ = doing st.seed st.time in
    let last : ℕ = length st.batches in
    let ahead : Ahead _ = next_ahead d st b at in
    let at_items : (gs : List Given) (k : ℕ) → session_behind d (st.batches ++ b ∷ []) (st.given ++ gs) k ≡ behind_items d number (d.items b) gs at.world at.page k = λ gs k.
    behind_more d number idle.cost st.batches b (st.given ++ gs) gs at.world at.page k counted (idle.behind gs) in
    let L : Place → Type 0 = λ p. Left e d number (behind_batch d number) to p 1 0 ahead in
    record {
      keeps = record {
        run = ap e.run is.evaluator ∙ idle.keeps.run;
        full = is.full ∙ idle.keeps.full;
        plan = is.plan ∙ ap d.plan (next ∙ sym counted);
        counts = sound.counts st.seed st.time;
        shapes = λ a n w s. sound.shapes st.seed st.time number a n w s;
        still = λ a n w s. sound.still st.seed st.time number a n w s;
      };
      left = subst L (sym is.place) (
        refl,
        refl,
        is.begun,
        next_parts d number last b at to counted is,
        λ gs. at_items gs 0 ∙ ap (λ w. Some (stand_at 1 gs w at.page)) (sym is.world) ∙ ap (λ s. Some (stand_at 1 gs to.world s)) (sym is.page),
      );
      more = λ bs gs. items_cost d (last + 1) (d.items b) 1 1 (d.items b) gs at.world at.page (λ hs x r. later_parts d (last + 1 + 1) bs hs x r) 0 (omega arith);
      follows = λ k a gs before item behind.
          at_items gs (suc k)
          ∙ items_follow d number (d.items b) gs at.world at.page k a before (ap (λ xs. slice_get xs k) (sym is.all) ∙ item) (sym (at_items gs k) ∙ behind);
    }

next_busy : {M A S : Type 0} (e : Evaluation M S) (doing : ℕ → ℕ → Doing A S) (may : S → Bool) (at to : Spot M A S) (st : Stage) (b : Contents)
    → IsSound doing may → IsIdle e (doing st.seed st.time) may at st → MayAdmit (meaning_of doing) st b → IsAdmitted (doing st.seed st.time) b at to
    → IsBusy e (doing st.seed st.time) may to (with_batch b st)
next_busy e doing may at to st b sound idle ok is =
    let d : Doing _ _ = doing st.seed st.time in
    let last : ℕ = length st.batches in
    let counted : length (st.batches ++ b ∷ []) ≡ last + 1 = length-append st.batches (b ∷ []) in
    let number : ℕ = next_number to.place to.begun in
    let B : ℕ → Type 0 = λ k. AreBehind k number 0 idle.earlier in
    let ahead : Ahead _ = next_ahead d st b at in
    let all : ℕ = length (st.batches ++ b ∷ []) in
    let C : Place → Type 0 = λ p. IsCut e d all (behind_batch d all) to p 1 0 ahead in
    record {
      earlier = idle.earlier;
      ahead = ahead;
      base = 1;
      whole = λ bs gs. ap (λ xs. session_parts d xs (st.given ++ gs)) (append_assoc st.batches (b ∷ []) bs) ∙ idle.whole (b ∷ bs) gs;
      behind = λ gs k. refl;
      all = is.all ∙ sym (last_more d st.batches b);
      come = subst B (sym counted) (behind_next last idle.number st.units number idle.earlier idle.come);
      busy = ap (λ k. finishes_batch k idle.earlier) counted ∙ none_finish last idle.number st.units idle.earlier idle.come;
      lives = idle.lives;
      based = ap (λ k. parts.spent k idle.earlier 1) counted ∙ none_spent last idle.number st.units 1 idle.earlier idle.come;
      none = idle.none;
      stands = next_stands e doing may at to st b all counted sound idle ok.next is;
      cut = subst C (sym is.place) tt;
    }

pub admitted_next : {M A S : Type 0} (e : Evaluation M S) (doing : ℕ → ℕ → Doing A S) (may : S → Bool) (at to : Spot M A S) (st : Stage) (b : Contents)
    → IsSound doing may → IsAt e doing may at st → MayAdmit (meaning_of doing) st b → IsAdmitted (doing st.seed st.time) b at to → IsAt e doing may to (with_batch b st)
admitted_next e doing may at to st b sound (inl busy) ok is = never (is_done (meaning_of doing) st) ok.done (busy_not_done e doing may at st busy)
admitted_next e doing may at to st b sound (inr (inl idle)) ok is = inl (next_busy e doing may at to st b sound idle ok is)
admitted_next e doing may at to st b sound (inr (inr ended)) ok is = never (is_ended (meaning_of doing) st) ended.ended ok.lives
