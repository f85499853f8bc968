-- The first of some numbers for which a test is true, and the chains of listeners.
use Rattle.std.proofs.Common.{◌≡◌, ℕ, zero, suc, ◌+◌, ◌-◌, ◌<◌, ◌≤◌, ◌⊎◌, inl, inr, Bool, true, false, cond, List, [], ◌∷◌, ◌++◌, length, get_or, Option, None, Some, refl, sym, ap, ap₂, ◌∙◌, subst, arith}
use Rattle.std.proofs.lemmas.Bool.{cond-true, cond-false, cases_Bool, cases_eq, cases_lt, ne_eqb, eqb-true}
use Rattle.std.proofs.lemmas.Option.{none-some, same_Some}
use Rattle.std.proofs.lemmas.List.{get_or_append_left, get_or_push, get_or_past, length_push}
use Rattle.rip_events.specs.declared.listener.Listener.{Listener}
use Rattle.rip_events.specs.declared.listeners.Ends.{Ends}
use Rattle.rip_events.specs.Listed.{listener_at, first_number}
use Rattle.rip_events.specs.Chained.{no_ends, ends_at, or_this, is_on, first_on, AreSameEnds}

one-left : (e n : ℕ) → n < e → e - n ≡ suc (e - suc n)
one-left e n h = omega (arith, h)

-- from a place on

pub beyond : (e n : ℕ) (Q : ℕ → Bool) → e ≤ n → first_number (e - n) n Q ≡ None
beyond e n Q h = let z : e - n ≡ 0 = omega (arith, h) in ap (λ k. first_number k n Q) z

pub here : (e n : ℕ) (Q : ℕ → Bool) → n < e → Q n ≡ true → first_number (e - n) n Q ≡ Some n
here e n Q h q = ap (λ k. first_number k n Q) (one-left e n h) ∙ cond-true (Q n) (Some n) (first_number (e - suc n) (suc n) Q) q

pub past : (e n : ℕ) (Q : ℕ → Bool) → Q n ≡ false → first_number (e - n) n Q ≡ first_number (e - suc n) (suc n) Q
past e n Q q = by (cases_lt n e)
  where
    by : (n < e) ⊎ (e ≤ n) → first_number (e - n) n Q ≡ first_number (e - suc n) (suc n) Q
    by (inl h) = ap (λ k. first_number k n Q) (one-left e n h) ∙ cond-false (Q n) (Some n) (first_number (e - suc n) (suc n) Q) q
    by (inr h) = beyond e n Q h ∙ sym (beyond e (suc n) Q (omega (arith, h)))

-- the first from a number at hand on, or none
abbrev pub rest : ℕ → (ℕ → Bool) → Option ℕ → Option ℕ
rest e Q None = None
rest e Q (Some n) = first_number (e - n) n Q

-- where none passes from a number on, none is found
pub none-from : (k n : ℕ) (Q : ℕ → Bool) → ((m : ℕ) → n ≤ m → Q m ≡ false) → first_number k n Q ≡ None
none-from zero n Q f = refl
none-from (suc k) n Q f = cond-false (Q n) (Some n) (first_number k (suc n) Q) (f n (omega arith)) ∙ none-from k (suc n) Q (λ m h. f m (omega (arith, h)))

-- numbers at which a weaker test fails can be left out, and so can those behind which none passes
pub skip : (j n e : ℕ) (Q On : ℕ → Bool) → ((m : ℕ) → On m ≡ false → Q m ≡ false) → ((m : ℕ) → n + j ≤ m → Q m ≡ false) → rest e Q (first_number j n On) ≡ first_number (e - n) n Q
skip zero n e Q On f g = sym (none-from (e - n) n Q (λ m h. g m (omega (arith, h))))
skip (suc j) n e Q On f g = by (cases_Bool (On n)) (skip j (suc n) e Q On f (λ m h. g m (omega (arith, h))))
  where
    by : (On n ≡ true) ⊎ (On n ≡ false) → rest e Q (first_number j (suc n) On) ≡ first_number (e - suc n) (suc n) Q → rest e Q (first_number (suc j) n On) ≡ first_number (e - n) n Q
    by (inl t) on = ap (rest e Q) (cond-true (On n) (Some n) (first_number j (suc n) On) t)
    by (inr t) on = ap (rest e Q) (cond-false (On n) (Some n) (first_number j (suc n) On) t) ∙ on ∙ sym (past e n Q (f n t))

-- what is found is in the range, and passes
pub within : (k n m : ℕ) (Q : ℕ → Bool) → first_number k n Q ≡ Some m → (n ≤ m) × (m < n + k) × (Q m ≡ true)
within zero n m Q h = absurd (none-some m h)
within (suc k) n m Q h = by (cases_Bool (Q n)) (λ g. within k (suc n) m Q g)
  where
    by : (Q n ≡ true) ⊎ (Q n ≡ false) → (first_number k (suc n) Q ≡ Some m → (suc n ≤ m) × (m < suc n + k) × (Q m ≡ true)) → (n ≤ m) × (m < n + suc k) × (Q m ≡ true)
    by (inl t) on = let e = same_Some n m (sym (cond-true (Q n) (Some n) (first_number k (suc n) Q) t) ∙ h) in
        (omega (arith, e), omega (arith, e), subst (λ x. Q x ≡ true) e t)
    by (inr t) on = let r = on (sym (cond-false (Q n) (Some n) (first_number k (suc n) Q) t) ∙ h) in
        (omega (arith, r.0), omega (arith, r.1), r.2)

-- where none is found, none passes
pub none-passes : (k n m : ℕ) (Q : ℕ → Bool) → first_number k n Q ≡ None → n ≤ m → m < n + k → Q m ≡ false
none-passes zero n m Q h a b = absurd (omega (arith, a, b))
none-passes (suc k) n m Q h a b = by (cases_Bool (Q n)) (cases_eq n m) (λ g u v. none-passes k (suc n) m Q g u v)
  where
    by : (Q n ≡ true) ⊎ (Q n ≡ false) → (n ≡ m) ⊎ (n ≡ m → ⊥) → (first_number k (suc n) Q ≡ None → suc n ≤ m → m < suc n + k → Q m ≡ false) → Q m ≡ false
    by (inl t) e on = absurd (none-some n (sym h ∙ cond-true (Q n) (Some n) (first_number k (suc n) Q) t))
    by (inr t) (inl e) on = subst (λ x. Q x ≡ false) e t
    by (inr t) (inr e) on = on (sym (cond-false (Q n) (Some n) (first_number k (suc n) Q) t) ∙ h) (omega (arith, a, e)) (omega (arith, b))

pub same : (k n : ℕ) (Q R : ℕ → Bool) → ((m : ℕ) → m < n + k → Q m ≡ R m) → first_number k n Q ≡ first_number k n R
same zero n Q R f = refl
same (suc k) n Q R f = ap₂ (λ b o. cond b (Some n) o) (f n (omega arith)) (same k (suc n) Q R (λ m h. f m (omega (arith, h))))

-- with one number more at the end
abbrev pub or_last : Option ℕ → Bool → ℕ → Option ℕ
or_last None b n = cond b (Some n) None
or_last (Some m) b n = Some m

pub one-more : (k n e : ℕ) (Q : ℕ → Bool) → e ≡ n + k → first_number (suc k) n Q ≡ or_last (first_number k n Q) (Q e) e
one-more zero n e Q h = let z : n ≡ e = omega (arith, h) in ap (λ x. cond (Q x) (Some x) None) z
one-more (suc k) n e Q h = by (cases_Bool (Q n)) (one-more k (suc n) e Q (omega (arith, h)))
  where
    by : (Q n ≡ true) ⊎ (Q n ≡ false) → first_number (suc k) (suc n) Q ≡ or_last (first_number k (suc n) Q) (Q e) e → first_number (suc (suc k)) n Q ≡ or_last (first_number (suc k) n Q) (Q e) e
    by (inl t) on = cond-true (Q n) (Some n) (first_number (suc k) (suc n) Q) t ∙ sym (ap (λ o. or_last o (Q e) e) (cond-true (Q n) (Some n) (first_number k (suc n) Q) t))
    by (inr t) on = cond-false (Q n) (Some n) (first_number (suc k) (suc n) Q) t ∙ on ∙ sym (ap (λ o. or_last o (Q e) e) (cond-false (Q n) (Some n) (first_number k (suc n) Q) t))

pub or-last-not : (o : Option ℕ) (b : Bool) (n : ℕ) → b ≡ false → or_last o b n ≡ o
or-last-not None b n h = cond-false b (Some n) None h
or-last-not (Some m) b n h = refl

pub or-last-this : (o : Option ℕ) (b : Bool) (n : ℕ) → b ≡ true → or_last o b n ≡ or_this o n
or-last-this None b n h = cond-true b (Some n) None h
or-last-this (Some m) b n h = refl

-- ONE LISTENER MORE

-- the number at hand is that of a listener of this node, and not below i
abbrev pub IsAhead : List Listener → ℕ → ℕ → Option ℕ → Type 0
IsAhead all p i None = Unit {0}
IsAhead all p i (Some n) = (i ≤ n) × (n < length all) × ((listener_at all n).node ≡ p)

on-node : (all : List Listener) (p n : ℕ) → is_on all p n ≡ true → (listener_at all n).node ≡ p
on-node all p n h = eqb-true (listener_at all n).node p h

-- what a search on the node finds is on it
pub ahead : (all : List Listener) (p i from : ℕ) (o : Option ℕ) → i ≤ from → o ≡ first_on all p from → IsAhead all p i o
ahead all p i from None h e = tt
ahead all p i from (Some n) h e = by (within (length all - from) from n (is_on all p) (sym e)) (cases_lt from (length all))
  where
    by : (from ≤ n) × (n < from + (length all - from)) × (is_on all p n ≡ true) → (from < length all) ⊎ (length all ≤ from) → (i ≤ n) × (n < length all) × ((listener_at all n).node ≡ p)
    by w (inl g) = (omega (arith, h, w.0), omega (arith, w.1, g), on-node all p n w.2)
    by w (inr g) = absurd (omega (arith, w.0, w.1, g))

pub same-push : (old now new : List Ends) → AreSameEnds old now → new ≡ now ++ no_ends ∷ [] → AreSameEnds old new
same-push old now new s e p = ap (λ ends. ends_at ends p) e ∙ more now p ∙ s p
  where
    more : (ends : List Ends) (p : ℕ) → get_or (ends ++ no_ends ∷ []) p no_ends ≡ get_or ends p no_ends
    more ends p = by (cases_lt p (length ends)) (cases_eq p (length ends))
      where
        by : (p < length ends) ⊎ (length ends ≤ p) → (p ≡ length ends) ⊎ (p ≡ length ends → ⊥) → get_or (ends ++ no_ends ∷ []) p no_ends ≡ get_or ends p no_ends
        by (inl h) e = get_or_append_left ends (no_ends ∷ []) no_ends p h
        by (inr h) (inl e) = get_or_push ends no_ends no_ends p (sym e) ∙ sym (get_or_past ends p no_ends h)
        by (inr h) (inr e) = get_or_past (ends ++ no_ends ∷ []) p no_ends (omega (arith, h, e, length_push ends no_ends)) ∙ sym (get_or_past ends p no_ends h)

pub off : (all : List Listener) (p n : ℕ) (r : Listener) → r ≡ listener_at all n → (r.node ≡ p → ⊥) → is_on all p n ≡ false
off all p n r e f = ne_eqb (listener_at all n).node p (λ q. f (ap (λ (l : Listener). l.node) e ∙ q))

pub past-one : (e n : ℕ) (Q : ℕ → Bool) → Q n ≡ false → first_number (e - n) n Q ≡ first_number (e - (n + 1)) (n + 1) Q
past-one e n Q q = let k : suc n ≡ n + 1 = omega arith in past e n Q q ∙ ap (λ k. first_number (e - k) k Q) k
