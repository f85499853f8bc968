-- The longest prefix of the reported calls.
use Rattle.std.proofs.Common.{◌≡◌, ℕ, zero, suc, ◌+◌, ◌<◌, ◌≤◌, Bool, true, false, nat_lt, List, [], ◌∷◌, ◌++◌, length, slice_get, Option, None, Some, IfSome, refl, ap, sym, subst, ◌∙◌, arith, append-nil, append_assoc, length-append}
use Rattle.std.proofs.lemmas.Bool.{ltb-true, ltb-false}
use Rattle.rip_replica.specs.Served.{IsServed, MatchesAt, ReportedCall, reported_behind, reported_calls, with_report}

-- there is one
one_by : {A C : Type 0} (made : List A → List C) (reported : List (ReportedCall A C)) (n m : ℕ) (x y : Bool) → nat_lt n m ≡ x → nat_lt m n ≡ y
    → IsServed made reported n → IsServed made reported m → n ≡ m
one_by made reported n m true y p q a b =
    let less : n < m = ltb-true n m p in
    let below : n < length reported = omega (arith, b.within) in
    absurd (a.longest below (b.match n less))
one_by made reported n m false true p q a b =
    let less : m < n = ltb-true m n q in
    let below : m < length reported = omega (arith, a.within) in
    absurd (b.longest below (a.match m less))
one_by made reported n m false false p q a b =
    let up : m ≤ n = ltb-false n m p in
    let down : n ≤ m = ltb-false m n q in
    omega arith

pub one : {A C : Type 0} (made : List A → List C) (reported : List (ReportedCall A C)) (n m : ℕ) → IsServed made reported n → IsServed made reported m → n ≡ m
one made reported n m a b = one_by made reported n m (nat_lt n m) (nat_lt m n) refl refl a b

-- what stands in a list with one element more
get_front : {X : Type 0} (xs : List X) (y : X) (k : ℕ) → k < length xs → slice_get (xs ++ y ∷ []) k ≡ slice_get xs k
get_front [] y k less = absurd (omega arith)
get_front (x ∷ xs) y zero less = refl
get_front (x ∷ xs) y (suc k) less = get_front xs y k (omega arith)

get_last : {X : Type 0} (xs : List X) (y : X) → slice_get (xs ++ y ∷ []) (length xs) ≡ Some y
get_last [] y = refl
get_last (x ∷ xs) y = get_last xs y

with_more : {A C : Type 0} (o : Option C) (before : List A) (xs ys : List (ReportedCall A C)) → with_report o before (xs ++ ys) ≡ with_report o before xs ++ ys
with_more None before xs ys = refl
with_more (Some c) before xs ys = refl

-- the reported calls of one item more
behind_more : {A C : Type 0} (call : A → Option C) (before items : List A) (a : A)
    → reported_behind call before (items ++ a ∷ []) ≡ reported_behind call before items ++ with_report (call a) (before ++ items) []
behind_more call before [] a = ap (λ b. with_report (call a) b []) (sym (append-nil before))
behind_more call before (x ∷ items) a =
    ap (λ rest. with_report (call x) before rest) (behind_more call (before ++ x ∷ []) items a)
    ∙ with_more (call x) before (reported_behind call (before ++ x ∷ []) items) _
    ∙ ap (λ b. with_report (call x) before (reported_behind call (before ++ x ∷ []) items) ++ with_report (call a) b []) (append_assoc before (x ∷ []) items)

pub none_more : {A C : Type 0} (call : A → Option C) (items : List A) (a : A) → call a ≡ None → reported_calls call (items ++ a ∷ []) ≡ reported_calls call items
none_more call items a none = behind_more call [] items a ∙ ap (λ o. reported_calls call items ++ with_report o items []) none ∙ append-nil (reported_calls call items)

some_more : {A C : Type 0} (call : A → Option C) (items : List A) (a : A) (c : C) → call a ≡ Some c
    → reported_calls call items ++ record { before = items; call = c } ∷ [] ≡ reported_calls call (items ++ a ∷ [])
some_more call items a c is = sym (behind_more call [] items a ∙ ap (λ o. reported_calls call items ++ with_report o items []) is)

-- a position below the last matches as before; at the last stands the call itself
match_front : {A C : Type 0} (made : List A → List C) (rs : List (ReportedCall A C)) (r : ReportedCall A C) (k : ℕ) → k < length rs → MatchesAt made rs k → MatchesAt made (rs ++ r ∷ []) k
match_front made rs r k less h =
    let P : Option _ → Type 0 = λ o. IfSome o (λ q. slice_get (made q.before) k ≡ Some q.call) in
    subst P (sym (get_front rs r k less)) h

match_last : {A C : Type 0} (made : List A → List C) (rs : List (ReportedCall A C)) (r : ReportedCall A C) (k : ℕ) → k ≡ length rs → slice_get (made r.before) (length rs) ≡ Some r.call → MatchesAt made (rs ++ r ∷ []) k
match_last made rs r k at h =
    let K : ℕ → Type 0 = λ k. MatchesAt made (rs ++ r ∷ []) k in
    let P : Option _ → Type 0 = λ o. IfSome o (λ q. slice_get (made q.before) (length rs) ≡ Some q.call) in
    subst K (sym at) (subst P (sym (get_last rs r)) h)

match_more : {A C : Type 0} (made : List A → List C) (rs : List (ReportedCall A C)) (r : ReportedCall A C) (k : ℕ) (below : Bool) → nat_lt k (length rs) ≡ below → k < length rs + 1
    → IsServed made rs (length rs) → slice_get (made r.before) (length rs) ≡ Some r.call → MatchesAt made (rs ++ r ∷ []) k
match_more made rs r k true below less served h = match_front made rs r k (ltb-true k (length rs) below) (served.match k (ltb-true k (length rs) below))
match_more made rs r k false below less served h =
    let from : length rs ≤ k = ltb-false k (length rs) below in
    match_last made rs r k (omega arith) h

-- one call more behind those that were all served
served_last : {A C : Type 0} (made : List A → List C) (rs : List (ReportedCall A C)) (r : ReportedCall A C) → IsServed made rs (length rs)
    → slice_get (made r.before) (length rs) ≡ Some r.call → IsServed made (rs ++ r ∷ []) (length rs + 1)
served_last made rs r served h = record {
  within = omega (arith, length-append rs (r ∷ []));
  match = λ k less. match_more made rs r k (nat_lt k (length rs)) refl less served h;
  longest = λ less. absurd (omega (arith, length-append rs (r ∷ [])));
}

unserved_last : {A C : Type 0} (made : List A → List C) (rs : List (ReportedCall A C)) (r : ReportedCall A C) → IsServed made rs (length rs)
    → ¬ (slice_get (made r.before) (length rs) ≡ Some r.call) → IsServed made (rs ++ r ∷ []) (length rs)
unserved_last made rs r served no-match = record {
  within = omega (arith, length-append rs (r ∷ []));
  match = λ k less. match_front made rs r k less (served.match k less);
  longest = λ less h. (let P : Option _ → Type 0 = λ o. IfSome o (λ q. slice_get (made q.before) (length rs) ≡ Some q.call) in no-match (subst P (get_last rs r) h));
}

pub stepwise : {A C : Type 0} (made : List A → List C) (call : A → Option C) (items : List A) (a : A) (c : C) → call a ≡ Some c → IsServed made (reported_calls call items) (length (reported_calls call items))
    → (slice_get (made items) (length (reported_calls call items)) ≡ Some c → IsServed made (reported_calls call (items ++ a ∷ [])) (length (reported_calls call items) + 1))
    × (¬ (slice_get (made items) (length (reported_calls call items)) ≡ Some c) → IsServed made (reported_calls call (items ++ a ∷ [])) (length (reported_calls call items)))
stepwise made call items a c is served =
    let rs : List (ReportedCall _ _) = reported_calls call items in
    let P : List (ReportedCall _ _) → Type 0 = λ all. (slice_get (made items) (length rs) ≡ Some c → IsServed made all (length rs + 1)) × (¬ (slice_get (made items) (length rs) ≡ Some c) → IsServed made all (length rs)) in
    subst P (some_more call items a c is)
    ((λ h. served_last made rs (record { before = items; call = c }) served h), (λ n. unserved_last made rs (record { before = items; call = c }) served n))
