-- The reply that is due, by its place.
use Rattle.std.proofs.Common.{◌≡◌, ℕ, suc, ◌+◌, ◌<◌, Bool, true, false, cond, None, Some, List, [], ◌∷◌, ◌++◌, length, take, drop, get_or, All, refl, sym, ap, subst, ◌∙◌, arith, position}
use Rattle.std.specs.List.{position_from}
use Rattle.std.specs.Prelude.{IfSome}
use Rattle.std.proofs.lemmas.Iterator.Adapters.{position_from-zero}
use Rattle.std.proofs.lemmas.List.Elements.{All-head, All-tail, All-cons}
use Rattle.rip_base.specs.declared.value.Value.TheVariants.{Object}
use Rattle.rip_heap.specs.Growth.{Belongs}
use Rattle.rip_heap.specs.World.{World}
use Rattle.rip_host.specs.declared.replies.WaitingReply.{WaitingReply}
use Rattle.rip_host.specs.Replies.{due, is_due, without_due}
use Rattle.rip_host.specs.Waiting.{Waiting}

pub record IsPlace (n b : ℕ) (rs : List WaitingReply) (j : ℕ) : Type 0 where
  pub within : j < length rs
  pub found : (d : WaitingReply) → due n b rs ≡ Some (get_or rs j d)
  pub rest : without_due n b rs ≡ take j rs ++ drop (suc j) rs

found_from : (n b : ℕ) (rs : List WaitingReply) (k i : ℕ) → position_from (is_due n b) k rs ≡ Some i → (j : ℕ) × ((i ≡ k + j) × IsPlace n b rs j)
found_from n b [] k i h = absurd (cc)
found_from n b (r ∷ rs) k i h = by (is_due n b r) refl h (found_from n b rs (k + 1) i)
  where
    by : (x : Bool) → is_due n b r ≡ x → cond x (Some k) (position_from (is_due n b) (k + 1) rs) ≡ Some i → (position_from (is_due n b) (k + 1) rs ≡ Some i → (j : ℕ) × ((i ≡ k + 1 + j) × IsPlace n b rs j))
        → (j : ℕ) × ((i ≡ k + j) × IsPlace n b (r ∷ rs) j)
    by true is e further =
        let same : k ≡ i = cc in (
          0,
          (
            omega (arith, same),
            record {
              within = omega arith;
              found = λ d. ap (λ x. cond x (Some r) (due n b rs)) is;
              rest = ap (λ x. cond x rs (r ∷ without_due n b rs)) is;
            },
          ),
        )
    by false is e further =
        let f = further e in
        let p = f.1.1 in (
          suc f.0,
          (
            omega (arith, f.1.0),
            record {
              within = omega (arith, p.within);
              found = λ d. ap (λ x. cond x (Some r) (due n b rs)) is ∙ p.found d;
              rest = ap (λ x. cond x rs (r ∷ without_due n b rs)) is ∙ ap (λ l. r ∷ l) p.rest;
            },
          ),
        )

none_from : (n b : ℕ) (rs : List WaitingReply) (k : ℕ) → position_from (is_due n b) k rs ≡ None → (due n b rs ≡ None) × (without_due n b rs ≡ rs)
none_from n b [] k h = (refl, refl)
none_from n b (r ∷ rs) k h = by (is_due n b r) refl h (none_from n b rs (k + 1))
  where
    by : (x : Bool) → is_due n b r ≡ x → cond x (Some k) (position_from (is_due n b) (k + 1) rs) ≡ None → (position_from (is_due n b) (k + 1) rs ≡ None → (due n b rs ≡ None) × (without_due n b rs ≡ rs))
        → (due n b (r ∷ rs) ≡ None) × (without_due n b (r ∷ rs) ≡ r ∷ rs)
    by true is e further = absurd (cc)
    by false is e further =
        let f = further e in
        (ap (λ x. cond x (Some r) (due n b rs)) is ∙ f.0, ap (λ x. cond x rs (r ∷ without_due n b rs)) is ∙ ap (λ l. r ∷ l) f.1)

pub found_at : (n b : ℕ) (rs : List WaitingReply) (i : ℕ) → position (is_due n b) rs ≡ Some i → IsPlace n b rs i
found_at n b rs i h =
    let f = found_from n b rs 0 i (sym (position_from-zero (is_due n b) rs) ∙ h) in
    let same : f.0 ≡ i = omega (arith, f.1.0) in
    subst (IsPlace n b rs) same f.1.1

pub found_none : (n b : ℕ) (rs : List WaitingReply) → position (is_due n b) rs ≡ None → (due n b rs ≡ None) × (without_due n b rs ≡ rs)
found_none n b rs h = none_from n b rs 0 (sym (position_from-zero (is_due n b) rs) ∙ h)

-- the callbacks of the replies that are left, and of the one that is due
pub callbacks-left : (w : World) (n b : ℕ) (rs : List WaitingReply) → All (λ r. Belongs w (Object r.callback)) rs → All (λ r. Belongs w (Object r.callback)) (without_due n b rs)
callbacks-left w n b [] h = h
callbacks-left w n b (r ∷ rs) h = by (is_due n b r) (All-tail (λ r. Belongs w (Object r.callback)) r rs h) (callbacks-left w n b rs (All-tail (λ r. Belongs w (Object r.callback)) r rs h))
  where
    by : (x : Bool) → All (λ r. Belongs w (Object r.callback)) rs → All (λ r. Belongs w (Object r.callback)) (without_due n b rs) → All (λ r. Belongs w (Object r.callback)) (cond x rs (r ∷ without_due n b rs))
    by true all left = all
    by false all left = All-cons (λ r. Belongs w (Object r.callback)) r (without_due n b rs) (All-head (λ r. Belongs w (Object r.callback)) r rs h) left

pub callback-due : (w : World) (n b : ℕ) (rs : List WaitingReply) → All (λ r. Belongs w (Object r.callback)) rs → IfSome (due n b rs) (λ r. Belongs w (Object r.callback))
callback-due w n b [] h = tt
callback-due w n b (r ∷ rs) h = by (is_due n b r) (callback-due w n b rs (All-tail (λ r. Belongs w (Object r.callback)) r rs h))
  where
    by : (x : Bool) → IfSome (due n b rs) (λ r. Belongs w (Object r.callback)) → IfSome (cond x (Some r) (due n b rs)) (λ r. Belongs w (Object r.callback))
    by true further = All-head (λ r. Belongs w (Object r.callback)) r rs h
    by false further = further

-- what waits, by its parts
pub same_waiting : {m n : ℕ} {rs us : List WaitingReply} → m ≡ n → rs ≡ us → ◌≡◌ {A = Waiting} (record { most = m; replies = rs }) (record { most = n; replies = us })
same_waiting e f = cc
