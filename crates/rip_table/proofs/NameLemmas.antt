-- Sessions by their identifiers.
use Rattle.std.proofs.Common.{◌≡◌, ℕ, suc, ◌+◌, Bool, true, false, cond, not, ◌||◌, eqb, ltb, nat_eq, List, [], ◌∷◌, length, Option, Some, None, refl, sym, ap, ◌∙◌, arith}
use Rattle.std.specs.Prelude.{option_map, position, is_some}
use Rattle.std.specs.List.{list_any, position_or_len}
use Rattle.std.proofs.lemmas.Bool.{eqb-true, eqb-false, eq-eqb, ne_eqb, ltb-true, ltb-false, lt-ltb, le-ltb}
use Rattle.rip_log.specs.Entries.{Recorded, opened, admitted, served, done, closed, ended}
use Rattle.rip_history.specs.Requests.{identifiers_in, session_named, was_opened}
use Rattle.rip_history.specs.Sequences.{ordinals_in, counted}

eqb-flip : (a b : ℕ) → eqb a b ≡ eqb b a
eqb-flip a b = by (eqb a b) refl
  where
    by : (t : Bool) → eqb a b ≡ t → t ≡ eqb b a
    by true e = sym (eq-eqb b a (sym (eqb-true a b e)))
    by false e = sym (ne_eqb b a (λ s. eqb-false a b e (sym s)))

-- the place of the first of these
place-more : (n m : ℕ) → cond (ltb (1 + n) (suc m)) (Some (1 + n)) None ≡ option_map (λ (p : ℕ). p + 1) (cond (ltb n m) (Some n) None)
place-more n m = by (ltb n m) refl
  where
    by : (b : Bool) → ltb n m ≡ b → cond (ltb (1 + n) (suc m)) (Some (1 + n)) None ≡ option_map (λ (p : ℕ). p + 1) (cond b (Some n) None)
    by true e =
        let more : 1 + n ≡ n + 1 = omega arith in
        ap (λ (t : Bool). cond t (Some (1 + n)) None) (lt-ltb (1 + n) (suc m) (omega (arith, ltb-true n m e))) ∙ ap (λ (k : ℕ). Some k) more
    by false e = ap (λ (t : Bool). cond t (Some (1 + n)) None) (le-ltb (1 + n) (suc m) (omega (arith, ltb-false n m e)))

place-here : (test : ℕ → Bool) (x : ℕ) (xs : List ℕ) (b : Bool) → test x ≡ b
    → position test (x ∷ xs) ≡ cond b (Some 0) (option_map (λ (p : ℕ). p + 1) (position test xs))
place-here test x xs true e =
    ap (λ (t : Bool). cond (ltb (cond (not t) (1 + position_or_len test xs) 0) (suc (length xs))) (Some (cond (not t) (1 + position_or_len test xs) 0)) None) e
    ∙ ap (λ (t : Bool). cond t (Some 0) None) (lt-ltb 0 (suc (length xs)) (omega arith))
place-here test x xs false e =
    ap (λ (t : Bool). cond (ltb (cond (not t) (1 + position_or_len test xs) 0) (suc (length xs))) (Some (cond (not t) (1 + position_or_len test xs) 0)) None) e
    ∙ place-more (position_or_len test xs) (length xs)

numbered-more : (from : ℕ) (o : Option ℕ) → option_map (λ (p : ℕ). p + (from + 1)) o ≡ option_map (λ (p : ℕ). p + from) (option_map (λ (p : ℕ). p + 1) o)
numbered-more from None = refl
numbered-more from (Some p) = let same : p + (from + 1) ≡ p + 1 + from = omega arith in ap (λ (k : ℕ). Some k) same

named-step : (from wanted id session : ℕ) (named : Option ℕ) (ids : List ℕ) (b : Bool) → eqb id wanted ≡ b → session ≡ from
    → named ≡ option_map (λ (p : ℕ). p + (from + 1)) (position (nat_eq wanted) ids)
    → cond b (Some session) named ≡ option_map (λ (p : ℕ). p + from) (position (nat_eq wanted) (id ∷ ids))
named-step from wanted id session named ids true is same rest =
    let zero-more : from ≡ 0 + from = omega arith in
    ap (λ (k : ℕ). Some k) (same ∙ zero-more)
    ∙ sym (ap (option_map (λ (p : ℕ). p + from)) (place-here (nat_eq wanted) id ids true (eqb-flip wanted id ∙ is)))
named-step from wanted id session named ids false is same rest =
    rest ∙ numbered-more from (position (nat_eq wanted) ids)
    ∙ sym (ap (option_map (λ (p : ℕ). p + from)) (place-here (nat_eq wanted) id ids false (eqb-flip wanted id ∙ is)))

named-from : (from wanted : ℕ) (h : List Recorded) → ordinals_in h ≡ counted from (length (identifiers_in h))
    → session_named wanted h ≡ option_map (λ (p : ℕ). p + from) (position (nat_eq wanted) (identifiers_in h))
named-from from wanted [] e = refl
named-from from wanted (opened turn session id seed time ∷ h) e =
    named-step from wanted id session (session_named wanted h) (identifiers_in h) (eqb id wanted) refl (cc)
    (named-from (from + 1) wanted h (cc))
named-from from wanted (admitted turn session b ∷ h) e = named-from from wanted h e
named-from from wanted (served turn session batch number name args time reply ∷ h) e = named-from from wanted h e
named-from from wanted (done turn session batch how ∷ h) e = named-from from wanted h e
named-from from wanted (closed turn session ∷ h) e = named-from from wanted h e
named-from from wanted (ended turn status ∷ h) e = named-from from wanted h e

-- the ordinal of the session of an identifier counts the identifiers before it
pub named_place : (wanted : ℕ) (h : List Recorded) → ordinals_in h ≡ counted 1 (length (identifiers_in h))
    → session_named wanted h ≡ option_map (λ (p : ℕ). p + 1) (position (nat_eq wanted) (identifiers_in h))
named_place wanted h e = named-from 1 wanted h e

some-map : {A B : Type 0} (f : A → B) (o : Option A) → is_some (option_map f o) ≡ is_some o
some-map f None = refl
some-map f (Some x) = refl

opened-step : (a b : Bool) (o : Option ℕ) (d : Bool) → a ≡ b → d ≡ is_some o → (b || d) ≡ is_some (cond a (Some 0) (option_map (λ (p : ℕ). p + 1) o))
opened-step true b o d e f = ap (λ (t : Bool). t || d) (sym e)
opened-step false b o d e f = ap (λ (t : Bool). t || d) (sym e) ∙ f ∙ sym (some-map (λ (p : ℕ). p + 1) o)

opened-in : (wanted : ℕ) (ids : List ℕ) → list_any (λ other. eqb other wanted) ids ≡ is_some (position (nat_eq wanted) ids)
opened-in wanted [] = refl
opened-in wanted (id ∷ ids) =
    opened-step (eqb wanted id) (eqb id wanted) (position (nat_eq wanted) ids) (list_any (λ other. eqb other wanted) ids) (eqb-flip wanted id) (opened-in wanted ids)
    ∙ sym (ap (λ (o : Option ℕ). is_some o) (place-here (nat_eq wanted) id ids (eqb wanted id) refl))

-- a session was opened with an identifier where it has an ordinal
pub opened_place : (wanted : ℕ) (h : List Recorded)
    → was_opened wanted h ≡ is_some (option_map (λ (p : ℕ). p + 1) (position (nat_eq wanted) (identifiers_in h)))
opened_place wanted h = opened-in wanted (identifiers_in h) ∙ sym (some-map (λ (p : ℕ). p + 1) (position (nat_eq wanted) (identifiers_in h)))
