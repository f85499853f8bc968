-- A replica at a stage, as it is opened, admitted a batch and gone on with.
use Rattle.std.proofs.Common.{◌≡◌, ℕ, Bool, List, [], ◌∷◌, ◌++◌, length, ap, sym, subst, ◌∙◌, length-append}
use Rattle.rip_heap.specs.World.{World}
use Rattle.rip_wire.specs.Batches.{Contents}
use Rattle.rip_wire.specs.declared.ending.Ending.{Ending}
use Rattle.rip_eval_rows.specs.declared.close.Close.{Close}
use Rattle.rip_eval_rows.specs.Evaluation.{Evaluation}
use Rattle.rip_eval_rows.specs.Plan.{Plan}
use Rattle.rip_history.specs.Parts.{Fact, Given, Meaning}
use Rattle.rip_history.specs.Services.{Called, Service}
use Rattle.rip_history.specs.Stages.{MayAdmit, Resumed, Stage, begun, with_batch}
use Rattle.rip_history.specs.declared.sessions.Made.{Made}
use Rattle.rip_history.specs.declared.sessions.Progress.{Progress}
use Rattle.rip_history.specs.declared.sessions.Slice.{Slice}
use Rattle.rip_replica.specs.declared.replica.Replica.{Replica}
use Rattle.rip_replica.specs.Parts.{Doing, meaning_of}
use Rattle.rip_replica.specs.Plays.{IsItemPlan, IsStill}
use Rattle.rip_replica.specs.Sessions.{IsAt}
use Rattle.rip_replica.specs.Standing.{spot}
use Rattle.rip_law_replica.specs.AtStage.{AreDoneBy, IsAtStage}
use Rattle.rip_law_replica.specs.Sound.{IsSound}
use Rattle.rip_law_replica.specs.Spots.{IsAdmitted, IsOpened}
use Rattle.rip_law_replica.proofs.Admitted.{admitted_next}
use Rattle.rip_law_replica.proofs.Begun.{opened_begun}

-- what works do has their shapes
pub sound_by : {A S : Type 0} (doing : ℕ → ℕ → Doing A S) (plans : ℕ → A → ℕ → World → S → Plan S) (fact : A → Fact) (serve : ℕ → Given → S → S) (ending : List A → Close → S → Ending) (may : S → Bool)
    → AreDoneBy doing plans fact serve ending → ((batch : ℕ) (a : A) (n : ℕ) (w : World) (s : S) → IsItemPlan may (fact a) (plans batch a n w s))
    → ((batch : ℕ) (a : A) (n : ℕ) (w : World) (s : S) → IsStill (fact a) w s (plans batch a n w s)) → IsSound doing may
sound_by doing plans fact serve ending may by shapes still = record {
  counts = by.counts;
  shapes = λ seed time batch a n w s.
      (let F : (_ → Fact) → Type 0 = λ f. IsItemPlan may (f a) (plans batch a n w s) in
      let P : (ℕ → _ → ℕ → World → _ → Plan _) → Type 0 = λ p. IsItemPlan may ((doing seed time).fact a) (p batch a n w s) in
      let agrees = by.agrees seed time in
      subst P (sym (by.planned seed time)) (subst F (sym agrees.facts) (shapes batch a n w s)));
  still = λ seed time batch a n w s.
      (let F : (_ → Fact) → Type 0 = λ f. IsStill (f a) w s (plans batch a n w s) in
      let P : (ℕ → _ → ℕ → World → _ → Plan _) → Type 0 = λ p. IsStill ((doing seed time).fact a) w s (p batch a n w s) in
      let agrees = by.agrees seed time in
      subst P (sym (by.planned seed time)) (subst F (sym agrees.facts) (still batch a n w s)));
}

-- a list that was empty has one item
pub only_one : {A : Type 0} (xs ys : List A) (a b : A) → xs ≡ ys ++ a ∷ [] → ys ≡ [] → b ≡ a → xs ≡ b ∷ []
only_one xs ys a b pushed none same = pushed ∙ ap (λ zs. zs ++ a ∷ []) none ∙ ap (λ c. c ∷ []) (sym same)

pub open_stands : {M I A S : Type 0} (e : Evaluation M S) (doing : ℕ → ℕ → Doing A S) (ip under : I → A → ℕ → World → S → Plan S) (may : S → Bool) (r : Replica M I A S) (seed time : ℕ)
    → IsSound doing may → r.number ≡ 0 → IsOpened e (doing seed time) (spot ip under r) → IsAtStage e doing ip under may r (begun seed time)
open_stands e doing ip under may r seed time sound number is = record { number = number; stands = opened_begun e doing may (spot ip under r) seed time sound is }

pub admit_stands : {M I A S : Type 0} (e : Evaluation M S) (doing : ℕ → ℕ → Doing A S) (ip under : I → A → ℕ → World → S → Plan S) (may : S → Bool) (r q : Replica M I A S) (st : Stage) (b : Contents)
    → IsSound doing may → IsAtStage e doing ip under may r st → MayAdmit (meaning_of doing) st b → q.number ≡ b.number → IsAdmitted (doing st.seed st.time) b (spot ip under r) (spot ip under q)
    → IsAtStage e doing ip under may q (with_batch b st)
admit_stands e doing ip under may r q st b sound at ok number is = record {
  number = number ∙ ok.next ∙ sym (length-append st.batches (b ∷ []));
  stands = admitted_next e doing may (spot ip under r) (spot ip under q) st b sound at.stands ok is;
}

-- how the session stands may be told in other words
resumed_as : (m : Meaning) (st : Stage) (service : Service) (calls : List Called) (slice : Slice) (old new : Made) (progress : Progress) (Stands Others : Stage → Type 0) (Replies : List Called → Type 0)
    → ((next : Stage) → next.batches ≡ st.batches → Stands next → Others next) → Resumed m st service calls slice old new progress Stands Replies → Resumed m st service calls slice old new progress Others Replies
resumed_as m st service calls slice old new progress Stands Others Replies tells h = record {
  parts = h.parts;
  given = h.given;
  next = h.next;
  goes_on = h.goes_on;
  stands = tells h.next h.goes_on.batches h.stands;
  replied = h.replied;
  replies = h.replies;
  entries = h.entries;
  served = h.served;
  how_far = h.how_far;
}

pub resume_stands : {M I A S : Type 0} (e : Evaluation M S) (doing : ℕ → ℕ → Doing A S) (ip under : I → A → ℕ → World → S → Plan S) (may : S → Bool) (r q : Replica M I A S) (m : Meaning) (st : Stage) (service : Service) (calls : List Called)
    (slice : Slice) (old new : Made) (progress : Progress) (Replies : List Called → Type 0) → r.number ≡ length st.batches → q.number ≡ r.number
    → Resumed m st service calls slice old new progress (IsAt e doing may (spot ip under q)) Replies → Resumed m st service calls slice old new progress (IsAtStage e doing ip under may q) Replies
resume_stands e doing ip under may r q m st service calls slice old new progress Replies number same h =
    resumed_as m st service calls slice old new progress (IsAt e doing may (spot ip under q)) (IsAtStage e doing ip under may q) Replies
    (λ next batches stands. record { number = same ∙ number ∙ ap (λ bs. length bs) (sym batches); stands = stands }) h
