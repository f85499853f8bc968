-- An item ends a session in one world and with one page.
use Rattle.std.proofs.Common.{◌≡◌, ℕ, suc, ◌-◌, nat_le, List, [], ◌∷◌, ◌++◌, length, slice_get, Option, Some, refl, ap, sym, ◌∙◌, arith}
use Rattle.std.proofs.lemmas.Option.{same_Some}
use Rattle.rip_heap.specs.World.{World}
use Rattle.rip_wire.specs.Batches.{Contents}
use Rattle.rip_eval_rows.specs.declared.close.Close.{Close}
use Rattle.rip_eval_rows.specs.declared.close.Close.TheVariants.{Fine}
use Rattle.rip_replica.specs.Play.{Played, Closes, Holds}
use Rattle.rip_history.specs.Parts.{Given}
use Rattle.rip_replica.specs.Cuts.{EndedBy}
use Rattle.rip_replica.specs.Parts.{Doing, Stand, behind_next, first_given, is_fine, last_items, session_behind, stand_at, whole_item}
use Rattle.rip_replica.specs.Standing.{ClosedIn, item_play}
use Rattle.rip_law_replica.proofs.Done.{never}
use Rattle.rip_law_replica.proofs.OneCut.{Passed, by-order, held-page, held-world, in_step, passed_to}

abbrev held-close : {S : Type 0} → Played S → Close
held-close (Closes close gs fuel u w s) = close
held-close (Holds depth w s) = Fine

module _ {A S : Type 0} (d : Doing A S) (n : ℕ) (all : List A) (behind : List Given → ℕ → Option (Stand S))
    (steps : (k : ℕ) → behind [] (suc k) ≡ behind_next d n (suc k) (slice_get all k) (behind [] k)) where
  -- an item that ended the session is not over and fine
  not-over : (number base cost more : ℕ) (close : Close) (w : World) (s : S) → ClosedIn d n all number base cost close behind w s → Passed d n all (behind []) (number - 1) more → ⊥
  not-over number base cost more close w s h p =
      let up : suc (number - 1) ≡ number = omega (arith, h.one) in
      let at_it : p.before ≡ stand_at base [] h.world h.page = same_Some p.before (stand_at base [] h.world h.page) (sym p.there ∙ h.began []) in
      let it : p.item ≡ h.item = same_Some p.item h.item (sym p.is ∙ h.is) in
      let whole : whole_item d n h.item number h.world h.page (first_given []) ≡ Closes Fine p.changes p.fuel p.left p.world p.page =
      sym (ap (λ (l : Stand _). whole_item d n h.item number l.world l.page (first_given l.given)) at_it)
      ∙ ap (λ a. whole_item d n a number p.before.world p.before.page (first_given p.before.given)) (sym it)
      ∙ ap (λ k. whole_item d n p.item k p.before.world p.before.page (first_given p.before.given)) (sym up)
      ∙ p.closes in
      let same : Closes close (d.serve n (first_given []) ∷ []) h.fuel h.units w s ≡ Closes Fine p.changes p.fuel p.left p.world p.page =
      sym (h.closes (d.serve n (first_given []) ∷ [])) ∙ whole in
      let fine : close ≡ Fine = ap held-close same in
      never (is_fine close) (ap is_fine fine) h.ends

  two-ends : (a b base rest cost spent : ℕ) (close other : Close) (w x : World) (s r : S)
      → ClosedIn d n all a base cost close behind w s → ClosedIn d n all b rest spent other behind x r → (w ≡ x) × (s ≡ r)
  two-ends a b base rest cost spent close other w x s r h g =
      by-order (a - 1) (b - 1) (nat_le (b - 1) (a - 1)) (nat_le (a - 1) (b - 1)) refl refl
      (λ less. absurd (not-over a base cost rest close w s h (passed_to d n all (behind []) steps (a - 1) (b - 1) (stand_at rest [] g.world g.page) less (g.began []))))
      (λ less. absurd (not-over b rest spent base other x r g (passed_to d n all (behind []) steps (b - 1) (a - 1) (stand_at base [] h.world h.page) less (h.began []))))
      (λ same.
      (let at_it : stand_at base [] h.world h.page ≡ stand_at rest [] g.world g.page =
      same_Some (stand_at base [] h.world h.page) (stand_at rest [] g.world g.page) (sym (h.began []) ∙ ap (behind []) same ∙ g.began []) in
      let it : h.item ≡ g.item = same_Some h.item g.item (sym h.is ∙ ap (λ k. slice_get all k) same ∙ g.is) in
      let number : a ≡ b = omega (arith, same, h.one, g.one) in
      let e : Closes close [] h.fuel h.units w s ≡ Closes other [] g.fuel g.units x r =
      sym (h.closes [])
      ∙ ap (λ i. item_play d n i a h.world h.page [] d.full) it
      ∙ ap (λ k. item_play d n g.item k h.world h.page [] d.full) number
      ∙ ap (λ (l : Stand _). item_play d n g.item b l.world l.page [] d.full) at_it
      ∙ g.closes [] in
      (ap held-world e, ap held-page e)))

pub ends_one : {A S : Type 0} (d : Doing A S) (batches : List Contents) (given : List Given) (w x : World) (s r : S)
    → EndedBy d batches given w s → EndedBy d batches given x r → (w ≡ x) × (s ≡ r)
ends_one d batches given w x s r first second =
    two-ends d (length batches) (last_items d batches) (λ gs k. session_behind d batches (given ++ gs) k) steps
    first.number second.number first.base second.base first.cost second.cost first.close second.close w x s r first.closed second.closed
  where
    steps : (k : ℕ) → session_behind d batches (given ++ []) (suc k) ≡ behind_next d (length batches) (suc k) (slice_get (last_items d batches) k) (session_behind d batches (given ++ []) k)
    steps k = in_step d 0 (length batches) (d.opening ∷ []) batches k (Some (stand_at 1 (given ++ []) d.world d.page)) (omega arith)
