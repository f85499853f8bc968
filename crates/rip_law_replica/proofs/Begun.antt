-- A session as it is opened.
use Rattle.std.proofs.Common.{◌≡◌, ℕ, Bool, List, [], ◌∷◌, slice_get, Some, inl, refl, ap, sym, subst, ◌∙◌, arith}
use Rattle.rip_wire.specs.Batches.{Contents}
use Rattle.rip_eval_rows.specs.Evaluation.{Evaluation}
use Rattle.rip_history.specs.Parts.{Given}
use Rattle.rip_history.specs.Stages.{begun}
use Rattle.rip_replica.specs.declared.replica.Place.{Place}
use Rattle.rip_replica.specs.Parts.{Doing, batch_parts, later_parts, session_behind, session_parts, stand_at}
use Rattle.rip_replica.specs.Sessions.{IsAt, behind_batch}
use Rattle.rip_replica.specs.Standing.{Ahead, IsCut, Left, Spot}
use Rattle.rip_replica.proofs.TurnLemmas.{items_cost}
use Rattle.rip_law_replica.specs.Sound.{IsSound}
use Rattle.rip_law_replica.specs.Spots.{IsOpened}
use Rattle.rip_law_replica.proofs.Behind.{items_follow}

-- its parts, by where it stands
opening_parts : {M A S : Type 0} (e : Evaluation M S) (d : Doing A S) (at : Spot M A S) → IsOpened e d at
    → (bs : List Contents) (gs : List Given) → session_parts d bs gs ≡ batch_parts d 0 at.all gs at.world at.page (behind_batch d 0 bs)
opening_parts e d at is bs gs =
    ap (λ xs. batch_parts d 0 xs gs d.world d.page (behind_batch d 0 bs)) (sym is.all)
    ∙ ap (λ w. batch_parts d 0 at.all gs w d.page (behind_batch d 0 bs)) (sym is.world)
    ∙ ap (λ s. batch_parts d 0 at.all gs at.world s (behind_batch d 0 bs)) (sym is.page)

pub opened_begun : {M A S : Type 0} (e : Evaluation M S) (doing : ℕ → ℕ → Doing A S) (may : S → Bool) (at : Spot M A S) (seed time : ℕ)
    → IsSound doing may → IsOpened e (doing seed time) at → IsAt e doing may at (begun seed time)
opened_begun e doing may at seed time sound is =
    let d : Doing _ _ = doing seed time in
    let ahead : Ahead _ = record { parts = λ bs gs. session_parts d bs gs; behind = λ gs k. session_behind d [] gs k } in
    let L : Place → Type 0 = λ p. Left e d 0 (behind_batch d 0) at p 1 0 ahead in
    let C : Place → Type 0 = λ p. IsCut e d 0 (behind_batch d 0) at p 1 0 ahead in
    inl (record {
      earlier = [];
      ahead = ahead;
      base = 1;
      whole = λ bs gs. refl;
      behind = λ gs k. refl;
      all = is.all;
      come = tt;
      busy = refl;
      lives = refl;
      based = refl;
      none = refl;
      stands = record {
        keeps = record { run = is.run; full = is.full; plan = is.plan; counts = sound.counts seed time; shapes = λ a n w s. sound.shapes seed time 0 a n w s; still = λ a n w s. sound.still seed time 0 a n w s };
        left = subst L (sym is.place) (
          refl,
          refl,
          is.begun,
          opening_parts e d at is,
          λ gs. ap (λ w. Some (stand_at 1 gs w d.page)) (sym is.world) ∙ ap (λ s. Some (stand_at 1 gs at.world s)) (sym is.page),
        );
        more = λ bs gs. items_cost d 0 (d.opening ∷ []) 1 1 (d.opening ∷ []) gs d.world d.page (λ hs x r. later_parts d 1 bs hs x r) 0 (omega arith);
        follows = λ k a gs before item behind. items_follow d 0 (d.opening ∷ []) gs d.world d.page k a before (ap (λ xs. slice_get xs k) (sym is.all) ∙ item) behind;
      };
      cut = subst C (sym is.place) tt;
    })
