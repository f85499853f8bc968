-- What has come of a session that is busy, and of one that is idle.
use Rattle.std.proofs.Common.{◌≡◌, ℕ, Bool, true, false, [], length, inl, inr, ap, sym, ◌∙◌}
use Rattle.rip_eval_rows.specs.Evaluation.{Evaluation}
use Rattle.rip_history.specs.Parts.{has_ended}
use Rattle.rip_history.specs.Stages.{Stage, finishes_batch, is_done, is_ended, parts_at}
use Rattle.rip_replica.specs.Parts.{Doing, meaning_of}
use Rattle.rip_replica.specs.Sessions.{HasEnded, IsAt, IsBusy, IsIdle, behind_batch}
use Rattle.rip_replica.specs.Standing.{Spot, next_number}
use Rattle.rip_replica.proofs.StageLemmas.{HeadsBatch, left_heads, parts_of_stage}

pub never : {A : Type 0} (b : Bool) → b ≡ true → b ≡ false → A
never b on off = absurd (let e : true ≡ false = sym on ∙ off in cc)

-- a busy session is not done
pub busy_not_done : {M A S : Type 0} (e : Evaluation M S) (doing : ℕ → ℕ → Doing A S) (may : S → Bool) (at : Spot M A S) (st : Stage)
    → IsBusy e (doing st.seed st.time) may at st → is_done (meaning_of doing) st ≡ false
busy_not_done e doing may at st busy =
    let d : Doing _ _ = doing st.seed st.time in
    let b : ℕ = length st.batches in
    let come : parts_at (meaning_of doing) st ≡ busy.earlier =
    parts_of_stage doing st (next_number at.place at.begun) busy.earlier (busy.ahead.parts [] []) busy.none (busy.whole [] []) busy.come
    (left_heads e d b (behind_batch d b) at at.place busy.base st.units busy.ahead busy.stands.left [] []) (busy.stands.more [] []) in
    ap (λ ps. finishes_batch b ps) come ∙ busy.busy

-- and lives
pub busy_lives : {M A S : Type 0} (e : Evaluation M S) (doing : ℕ → ℕ → Doing A S) (may : S → Bool) (at : Spot M A S) (st : Stage)
    → IsBusy e (doing st.seed st.time) may at st → is_ended (meaning_of doing) st ≡ false
busy_lives e doing may at st busy =
    let d : Doing _ _ = doing st.seed st.time in
    let b : ℕ = length st.batches in
    let come : parts_at (meaning_of doing) st ≡ busy.earlier =
    parts_of_stage doing st (next_number at.place at.begun) busy.earlier (busy.ahead.parts [] []) busy.none (busy.whole [] []) busy.come
    (left_heads e d b (behind_batch d b) at at.place busy.base st.units busy.ahead busy.stands.left [] []) (busy.stands.more [] []) in
    ap has_ended come ∙ busy.lives

-- an idle one is
pub idle_done : {M A S : Type 0} (e : Evaluation M S) (doing : ℕ → ℕ → Doing A S) (may : S → Bool) (at : Spot M A S) (st : Stage)
    → IsIdle e (doing st.seed st.time) may at st → is_done (meaning_of doing) st ≡ true
unfolding HeadsBatch
idle_done e doing may at st idle =
    let come : parts_at (meaning_of doing) st ≡ idle.earlier = parts_of_stage doing st idle.number idle.earlier [] idle.none (idle.whole [] []) idle.come tt tt in
    ap (λ ps. finishes_batch (length st.batches) ps) come ∙ idle.done

-- and lives
idle_lives : {M A S : Type 0} (e : Evaluation M S) (doing : ℕ → ℕ → Doing A S) (may : S → Bool) (at : Spot M A S) (st : Stage)
    → IsIdle e (doing st.seed st.time) may at st → is_ended (meaning_of doing) st ≡ false
unfolding HeadsBatch
idle_lives e doing may at st idle =
    let come : parts_at (meaning_of doing) st ≡ idle.earlier = parts_of_stage doing st idle.number idle.earlier [] idle.none (idle.whole [] []) idle.come tt tt in
    ap has_ended come ∙ idle.lives

pub not_done_busy : {M A S : Type 0} (e : Evaluation M S) (doing : ℕ → ℕ → Doing A S) (may : S → Bool) (at : Spot M A S) (st : Stage)
    → IsAt e doing may at st → is_done (meaning_of doing) st ≡ false → IsBusy e (doing st.seed st.time) may at st
not_done_busy e doing may at st (inl busy) undone = busy
not_done_busy e doing may at st (inr (inl idle)) undone = never (is_done (meaning_of doing) st) (idle_done e doing may at st idle) undone
not_done_busy e doing may at st (inr (inr ended)) undone = never (is_done (meaning_of doing) st) ended.done undone

pub done_idle : {M A S : Type 0} (e : Evaluation M S) (doing : ℕ → ℕ → Doing A S) (may : S → Bool) (at : Spot M A S) (st : Stage)
    → IsAt e doing may at st → is_done (meaning_of doing) st ≡ true → is_ended (meaning_of doing) st ≡ false → IsIdle e (doing st.seed st.time) may at st
done_idle e doing may at st (inl busy) done lives = never (is_done (meaning_of doing) st) done (busy_not_done e doing may at st busy)
done_idle e doing may at st (inr (inl idle)) done lives = idle
done_idle e doing may at st (inr (inr ended)) done lives = never (is_ended (meaning_of doing) st) ended.ended lives

pub ended_has : {M A S : Type 0} (e : Evaluation M S) (doing : ℕ → ℕ → Doing A S) (may : S → Bool) (at : Spot M A S) (st : Stage)
    → IsAt e doing may at st → is_ended (meaning_of doing) st ≡ true → HasEnded (meaning_of doing) (doing st.seed st.time) at st
ended_has e doing may at st (inl busy) ended = never (is_ended (meaning_of doing) st) ended (busy_lives e doing may at st busy)
ended_has e doing may at st (inr (inl idle)) ended = never (is_ended (meaning_of doing) st) ended (idle_lives e doing may at st idle)
ended_has e doing may at st (inr (inr has)) ended = has
