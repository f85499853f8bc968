-- Which batches are admitted, and which sessions are closed.
use Rattle.std.proofs.Common.{◌≡◌, ◌↔◌, ℕ, ◌+◌, ◌-◌, Bool, true, false, cond, not, Option, Some, None, refl, sym, ap, ◌∙◌, subst, arith, ltb}
use Rattle.std.specs.Prelude.{◌&&◌, is_none}
use Rattle.std.proofs.lemmas.Bool.{eqb-true, ltb-false, le-ltb, eq-eqb, ne_eqb, not-false, and_right, and_from, true≢false}
use Rattle.rip_wire.specs.declared.ending.Reason.{Reason}
use Rattle.rip_history.specs.Decisions.{batch_decision, close_decision}
use Rattle.rip_history.specs.Standings.{has_done}
use Rattle.rip_history.specs.declared.standing.Standing.{Standing}
use Rattle.rip_history.specs.declared.decision.BatchDecision.{BatchDecision}
use Rattle.rip_history.specs.declared.decision.BatchDecision.TheVariants as batch
use Rattle.rip_history.specs.declared.decision.CloseDecision.{CloseDecision}
use Rattle.rip_history.specs.declared.decision.CloseDecision.TheVariants as close

-- what is admitted alone, and what is closed alone
abbrev IsAdmit : BatchDecision → Type 0
IsAdmit batch.Repeat = ⊥
IsAdmit batch.Gone = ⊥
IsAdmit batch.Busy = ⊥
IsAdmit batch.Old = ⊥
IsAdmit batch.Gap = ⊥
IsAdmit batch.Admit = Unit {0}

abbrev IsClose : CloseDecision → Type 0
IsClose close.Gone = ⊥
IsClose close.Busy = ⊥
IsClose close.Close = Unit {0}

-- the five tests in order
abbrev ladder : Bool → Bool → Bool → Bool → Bool → BatchDecision
ladder repeats lives busy old gap = cond repeats batch.Repeat (cond (not lives) batch.Gone (cond busy batch.Busy (cond old batch.Old (cond gap batch.Gap batch.Admit))))

down : (repeats lives busy old gap : Bool) → ladder repeats lives busy old gap ≡ batch.Admit
    → (repeats ≡ false) × (lives ≡ true) × (busy ≡ false) × (old ≡ false) × (gap ≡ false)
down true lives busy old gap h = absurd (subst IsAdmit (sym h) tt)
down false false busy old gap h = absurd (subst IsAdmit (sym h) tt)
down false true true old gap h = absurd (subst IsAdmit (sym h) tt)
down false true false true gap h = absurd (subst IsAdmit (sym h) tt)
down false true false false true h = absurd (subst IsAdmit (sym h) tt)
down false true false false false h = (refl, refl, refl, refl, refl)

up : (repeats lives busy old gap : Bool) → repeats ≡ false → lives ≡ true → busy ≡ false → old ≡ false → gap ≡ false
    → ladder repeats lives busy old gap ≡ batch.Admit
up repeats lives busy old gap r l b o g =
    (λ i. ladder (r i) (l i) (b i) (o i) (g i))

alive : (o : Option Reason) → is_none o ≡ true → o ≡ None
alive None h = refl
alive (Some r) h = absurd (true≢false (sym h))

was_done : (o : Option ℕ) (n : ℕ) → has_done o n ≡ true → o ≡ Some n
was_done None n h = absurd (true≢false (sym h))
was_done (Some m) n h = ap Some (eqb-true m n h)

other_number : (l : Bool) (o : Option ℕ) (last n : ℕ) → l ≡ true → o ≡ Some last → (l && has_done o n) ≡ false → last ≡ n → ⊥
other_number l o last n lives is not_same same =
    true≢false (sym (and_from l (has_done o n) lives (ap (λ x. has_done x n) is ∙ eq-eqb last n same)) ∙ not_same)

pub admits_next : (s : Standing) (number : ℕ) → (batch_decision s number ≡ batch.Admit) ↔ ((s.ended ≡ None) × (s.done ≡ Some s.last) × (number ≡ s.last + 1))
admits_next s number = (there, back)
  where
    there : batch_decision s number ≡ batch.Admit → (s.ended ≡ None) × (s.done ≡ Some s.last) × (number ≡ s.last + 1)
    there h =
        let d = down (is_none s.ended && has_done s.done number) (is_none s.ended) (not (has_done s.done s.last)) (ltb number s.last) (ltb 1 (number - s.last)) h in
        let is = was_done s.done s.last (not-false (has_done s.done s.last) d.2) in
        let other = other_number (is_none s.ended) s.done s.last number d.1 is d.0 in
        let above = ltb-false number s.last d.3 in
        let near = ltb-false 1 (number - s.last) d.4 in
        (alive s.ended d.1, is, omega (arith, above, near, other))

    back : (s.ended ≡ None) × (s.done ≡ Some s.last) × (number ≡ s.last + 1) → batch_decision s number ≡ batch.Admit
    back h =
        let later : s.last ≡ number → ⊥ = λ e. omega (arith, e, h.2) in
        up (is_none s.ended && has_done s.done number) (is_none s.ended) (not (has_done s.done s.last)) (ltb number s.last) (ltb 1 (number - s.last))
        (and_right (is_none s.ended) (has_done s.done number) (ap (λ x. has_done x number) h.1 ∙ ne_eqb s.last number later))
        (ap is_none h.0)
        (ap (λ x. not (has_done x s.last)) h.1 ∙ ap not (eq-eqb s.last s.last refl))
        (le-ltb number s.last (omega (arith, h.2)))
        (le-ltb 1 (number - s.last) (omega (arith, h.2)))

close_down : (lives busy : Bool) → cond (not lives) close.Gone (cond busy close.Busy close.Close) ≡ close.Close → (lives ≡ true) × (busy ≡ false)
close_down false busy h = absurd (subst IsClose (sym h) tt)
close_down true true h = absurd (subst IsClose (sym h) tt)
close_down true false h = (refl, refl)

pub closes_idle : (s : Standing) → (close_decision s ≡ close.Close) ↔ ((s.ended ≡ None) × (s.done ≡ Some s.last))
closes_idle s = (there, back)
  where
    there : close_decision s ≡ close.Close → (s.ended ≡ None) × (s.done ≡ Some s.last)
    there h =
        let d = close_down (is_none s.ended) (not (has_done s.done s.last)) h in
        (alive s.ended d.0, was_done s.done s.last (not-false (has_done s.done s.last) d.1))

    back : (s.ended ≡ None) × (s.done ≡ Some s.last) → close_decision s ≡ close.Close
    back h =
        let lives : is_none s.ended ≡ true = ap is_none h.0 in
        let idle : not (has_done s.done s.last) ≡ false = ap (λ x. not (has_done x s.last)) h.1 ∙ ap not (eq-eqb s.last s.last refl) in
        (λ i. cond (not (lives i)) close.Gone (cond (idle i) close.Busy close.Close))
