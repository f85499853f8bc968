-- The search for a head's end finds the first empty line behind a byte that is neither CR nor LF, and nothing else.
use Rattle.std.proofs.Common.{◌≡◌, ◌≢◌, ℕ, zero, suc, ◌≤◌, ◌<◌, ◌⊎◌, inl, inr, ⊎_elim, Bool, true, false, cond, ◌↔◌, List, [], ◌∷◌, ◌++◌, length, take, drop, Option, Some, None, option_map, refl, sym, ap, ◌∙◌, subst, arith}
use Rattle.std.proofs.lemmas.List.{append_assoc, append-nil, same_from_push, length-append}
use Rattle.std.proofs.lemmas.Bool.{cases_eq, cases_lt, eq-eqb, ne_eqb, cond-true, cond-false}
use Rattle.rip_http.specs.Heads.{is_line_byte, head_at, EndsInEmptyLine, IsHeadEnd, step, end_from, head_end, ended_or}
use Rattle.rip_http.specs.declared.head.Scan.{Scan}
use Rattle.rip_http.specs.declared.head.Scan.TheVariants.{Before, Inside, AfterFeed, AfterReturn}

-- the bytes end with LF; with LF CR
abbrev WithFeed : List ℕ → Type 0
WithFeed p = (front : List ℕ) × (p ≡ front ++ 10 ∷ [])

abbrev WithReturn : List ℕ → Type 0
WithReturn p = (front : List ℕ) × (p ≡ front ++ 10 ∷ 13 ∷ [])

-- what the state of a search inside a head says of the head so far
abbrev Stands : Scan → List ℕ → Type 0
Stands Before p = ⊥
Stands Inside p = (¬ WithFeed p) × (¬ WithReturn p)
Stands AfterFeed p = WithFeed p
Stands AfterReturn p = WithReturn p

-- a last byte is that byte
last_is : (p front : List ℕ) (b c : ℕ) → p ++ b ∷ [] ≡ front ++ c ∷ [] → (p ≡ front) × (b ≡ c)
last_is p front b c e = same_from_push p front b c e

-- two last bytes are one behind one
two_last : (p front : List ℕ) (b c d : ℕ) → p ++ b ∷ [] ≡ front ++ c ∷ d ∷ [] → (p ≡ front ++ c ∷ []) × (b ≡ d)
two_last p front b c d e = same_from_push p (front ++ c ∷ []) b d (e ∙ sym (append_assoc front (c ∷ []) (d ∷ [])))

three_last : (p front : List ℕ) (b c d f : ℕ) → p ++ b ∷ [] ≡ front ++ c ∷ d ∷ f ∷ [] → (p ≡ front ++ c ∷ d ∷ []) × (b ≡ f)
three_last p front b c d f e = same_from_push p (front ++ c ∷ d ∷ []) b f (e ∙ sym (append_assoc front (c ∷ d ∷ []) (f ∷ [])))

-- an empty line ends with LF, behind LF or LF CR
ends_with : (p : List ℕ) (b : ℕ) → EndsInEmptyLine (p ++ b ∷ []) → (b ≡ 10) × (WithFeed p ⊎ WithReturn p)
ends_with p b (front, inl e) = let r = two_last p front b 10 10 e in (r.1, inl (front, r.0))
ends_with p b (front, inr e) = let r = three_last p front b 10 13 10 e in (r.1, inr (front, r.0))

feed_ends : (p : List ℕ) (b : ℕ) → b ≡ 10 → WithFeed p → EndsInEmptyLine (p ++ b ∷ [])
feed_ends p b ten (front, e) =
    (front, inl (ap (λ xs. xs ++ b ∷ []) e ∙ append_assoc front (10 ∷ []) (b ∷ []) ∙ ap (λ x. front ++ 10 ∷ x ∷ []) ten))

return_ends : (p : List ℕ) (b : ℕ) → b ≡ 10 → WithReturn p → EndsInEmptyLine (p ++ b ∷ [])
return_ends p b ten (front, e) =
    (front, inr (ap (λ xs. xs ++ b ∷ []) e ∙ append_assoc front (10 ∷ 13 ∷ []) (b ∷ []) ∙ ap (λ x. front ++ 10 ∷ 13 ∷ x ∷ []) ten))

feed_or_return : (p : List ℕ) → WithFeed p → WithReturn p → ⊥
feed_or_return p (f, e) (g, h) =
    let r = same_from_push f (g ++ 10 ∷ []) 10 13 (sym e ∙ h ∙ sym (append_assoc g (10 ∷ []) (13 ∷ []))) in
    absurd (omega (arith, r.1))

-- one step: the head ends, or goes on in the next state
abbrev Steps : Option Scan → List ℕ → ℕ → Type 0
Steps None p b = EndsInEmptyLine (p ++ b ∷ [])
Steps (Some t) p b = Stands t (p ++ b ∷ []) × (¬ EndsInEmptyLine (p ++ b ∷ []))

goes_inside : (p : List ℕ) (b : ℕ) → b ≢ 10 → (b ≡ 13 → ¬ WithFeed p) → Steps (Some Inside) p b
goes_inside p b ne no_return = (
  (
    (λ (front, e). ne (last_is p front b 10 e).1),
    (λ (front, e). let r = two_last p front b 10 13 e in no_return r.1 (front, r.0)),
  ),
  (λ ends. ne (ends_with p b ends).0),
)

step_inside : (p : List ℕ) (b : ℕ) → Stands Inside p → Steps (step Inside b) p b
step_inside p b stands =
    ⊎_elim
    (λ (ten : b ≡ 10).
    let P : Option Scan → Type 0 = λ o. Steps o p b in
    subst P (sym (cond-true _ _ _ (eq-eqb b 10 ten))) (
      (p, ap (λ x. p ++ x ∷ []) ten),
      (λ ends. ⊎_elim (λ (h : WithFeed p). stands.0 h) (λ (h : WithReturn p). stands.1 h) (ends_with p b ends).1),
    ))
    (λ (ne : b ≢ 10).
    let P : Option Scan → Type 0 = λ o. Steps o p b in
    subst P (sym (cond-false _ _ _ (ne_eqb b 10 ne))) (goes_inside p b ne (λ _ h. stands.0 h)))
    (cases_eq b 10)

step_after_feed : (p : List ℕ) (b : ℕ) → WithFeed p → Steps (step AfterFeed b) p b
step_after_feed p b stands =
    let P : Option Scan → Type 0 = λ o. Steps o p b in
    ⊎_elim
    (λ (ten : b ≡ 10). subst P (sym (cond-true _ _ _ (eq-eqb b 10 ten))) (feed_ends p b ten stands))
    (λ (ne : b ≢ 10).
    subst P (sym (cond-false _ _ _ (ne_eqb b 10 ne)))
    (⊎_elim
    (λ (cr : b ≡ 13).
    subst P (sym (cond-true _ _ _ (eq-eqb b 13 cr))) (
      (stands.0, ap (λ xs. xs ++ b ∷ []) stands.1 ∙ append_assoc stands.0 (10 ∷ []) (b ∷ []) ∙ ap (λ x. stands.0 ++ 10 ∷ x ∷ []) cr),
      (λ ends. ne (ends_with p b ends).0),
    ))
    (λ (other : b ≢ 13). subst P (sym (cond-false _ _ _ (ne_eqb b 13 other))) (goes_inside p b ne (λ cr. absurd (other cr))))
    (cases_eq b 13)))
    (cases_eq b 10)

step_after_return : (p : List ℕ) (b : ℕ) → WithReturn p → Steps (step AfterReturn b) p b
step_after_return p b stands =
    let P : Option Scan → Type 0 = λ o. Steps o p b in
    ⊎_elim
    (λ (ten : b ≡ 10). subst P (sym (cond-true _ _ _ (eq-eqb b 10 ten))) (return_ends p b ten stands))
    (λ (ne : b ≢ 10). subst P (sym (cond-false _ _ _ (ne_eqb b 10 ne))) (goes_inside p b ne (λ _ h. feed_or_return p h stands)))
    (cases_eq b 10)

steps : (s : Scan) (p : List ℕ) (b : ℕ) → Stands s p → Steps (step s b) p b
steps Before p b stands = absurd stands
steps Inside p b stands = step_inside p b stands
steps AfterFeed p b stands = step_after_feed p b stands
steps AfterReturn p b stands = step_after_return p b stands

-- what a search says of the head p and the bytes behind it: the head ends first behind n of them, or nowhere
record EndsFirst (p bytes : List ℕ) (n : ℕ) : Type 0 where
  within : n ≤ length bytes
  ends : EndsInEmptyLine (p ++ take n bytes)
  first : (m : ℕ) → m < n → ¬ EndsInEmptyLine (p ++ take m bytes)

abbrev Finds : Option ℕ → List ℕ → List ℕ → Type 0
Finds None p bytes = (m : ℕ) → ¬ EndsInEmptyLine (p ++ take m bytes)
Finds (Some n) p bytes = EndsFirst p bytes n

-- one byte is moved in front
moved : (p bytes : List ℕ) (b m : ℕ) → EndsInEmptyLine (p ++ take (suc m) (b ∷ bytes)) → EndsInEmptyLine ((p ++ b ∷ []) ++ take m bytes)
moved p bytes b m ends =
    let P : List ℕ → Type 0 = λ xs. EndsInEmptyLine xs in subst P (sym (append_assoc p (b ∷ []) (take m bytes))) ends

moved_back : (p bytes : List ℕ) (b m : ℕ) → EndsInEmptyLine ((p ++ b ∷ []) ++ take m bytes) → EndsInEmptyLine (p ++ take (suc m) (b ∷ bytes))
moved_back p bytes b m ends =
    let P : List ℕ → Type 0 = λ xs. EndsInEmptyLine xs in subst P (append_assoc p (b ∷ []) (take m bytes)) ends

not_yet : (p bytes : List ℕ) (m : ℕ) → ¬ EndsInEmptyLine p → EndsInEmptyLine (p ++ take zero bytes) → ⊥
not_yet p bytes m none ends = let P : List ℕ → Type 0 = λ xs. EndsInEmptyLine xs in none (subst P (append-nil p) ends)

finds_later : (o : Option ℕ) (p bytes : List ℕ) (b : ℕ) → ¬ EndsInEmptyLine p → Finds o (p ++ b ∷ []) bytes
    → Finds (option_map (λ n. suc n) o) p (b ∷ bytes)
finds_later None p bytes b none later = by_count
  where
    by_count : (m : ℕ) → ¬ EndsInEmptyLine (p ++ take m (b ∷ bytes))
    by_count zero ends = not_yet p bytes zero none ends
    by_count (suc m) ends = later m (moved p bytes b m ends)
finds_later (Some n) p bytes b none later = record {
  within = omega (arith, later.within);
  ends = moved_back p bytes b n later.ends;
  first = by_count;
}
  where
    by_count : (m : ℕ) → m < suc n → ¬ EndsInEmptyLine (p ++ take m (b ∷ bytes))
    by_count zero less ends = not_yet p bytes zero none ends
    by_count (suc m) less ends = later.first m (omega (arith, less)) (moved p bytes b m ends)

finds_now : (p bytes : List ℕ) (b : ℕ) → ¬ EndsInEmptyLine p → EndsInEmptyLine (p ++ b ∷ []) → EndsFirst p (b ∷ bytes) 1
finds_now p bytes b none ends = record {
  within = omega arith;
  ends = ends;
  first = by_count;
}
  where
    by_count : (m : ℕ) → m < 1 → ¬ EndsInEmptyLine (p ++ take m (b ∷ bytes))
    by_count zero less ended = not_yet p bytes zero none ended
    by_count (suc m) less ended = absurd (omega (arith, less))

finds : (s : Scan) (p bytes : List ℕ) → Stands s p → ¬ EndsInEmptyLine p → Finds (end_from s bytes) p bytes
finds s p [] stands none = by_count
  where
    by_count : (m : ℕ) → ¬ EndsInEmptyLine (p ++ take m [])
    by_count zero ends = not_yet p [] zero none ends
    by_count (suc m) ends = not_yet p [] zero none ends
finds s p (b ∷ bytes) stands none = by_step (λ t st no. finds t (p ++ b ∷ []) bytes st no) (step s b) (steps s p b stands)
  where
    by_step : ((t : Scan) → Stands t (p ++ b ∷ []) → ¬ EndsInEmptyLine (p ++ b ∷ []) → Finds (end_from t bytes) (p ++ b ∷ []) bytes)
        → (o : Option Scan) → Steps o p b
        → Finds (ended_or (Some 1) o (λ next. option_map (λ n. suc n) (end_from next bytes))) p (b ∷ bytes)
    by_step later None ends = finds_now p bytes b none ends
    by_step later (Some t) goes = finds_later (end_from t bytes) p bytes b none (later t goes.0 goes.1)

-- ---- behind the CR and LF at the front

abbrev FindsHead : Option ℕ → List ℕ → Type 0
FindsHead None bytes = (m : ℕ) → ¬ EndsInEmptyLine (head_at bytes m)
FindsHead (Some n) bytes = IsHeadEnd bytes n

nothing_ends : EndsInEmptyLine [] → ⊥
nothing_ends (front, inl e) = absurd (omega (arith, ap length e, length-append front (10 ∷ 10 ∷ [])))
nothing_ends (front, inr e) = absurd (omega (arith, ap length e, length-append front (10 ∷ 13 ∷ 10 ∷ [])))

blank_step : (b m : ℕ) (bytes : List ℕ) → is_line_byte b ≡ true → head_at (b ∷ bytes) (suc m) ≡ head_at bytes m
blank_step b m bytes e = ap (λ n. drop n (b ∷ take m bytes)) (cond-true _ _ _ e)

head_step : (b m : ℕ) (bytes : List ℕ) → is_line_byte b ≡ false → head_at (b ∷ bytes) (suc m) ≡ b ∷ take m bytes
head_step b m bytes e = ap (λ n. drop n (b ∷ take m bytes)) (cond-false _ _ _ e)

line_byte_later : (o : Option ℕ) (b : ℕ) (bytes : List ℕ) → is_line_byte b ≡ true → FindsHead o bytes
    → FindsHead (option_map (λ n. suc n) o) (b ∷ bytes)
line_byte_later None b bytes e later = by_count
  where
    by_count : (m : ℕ) → ¬ EndsInEmptyLine (head_at (b ∷ bytes) m)
    by_count zero ends = nothing_ends ends
    by_count (suc m) ends = let P : List ℕ → Type 0 = λ xs. EndsInEmptyLine xs in later m (subst P (blank_step b m bytes e) ends)
line_byte_later (Some n) b bytes e later = record {
  within = omega (arith, later.within);
  ends = (let P : List ℕ → Type 0 = λ xs. EndsInEmptyLine xs in subst P (sym (blank_step b n bytes e)) later.ends);
  first = by_count;
}
  where
    by_count : (m : ℕ) → m < suc n → ¬ EndsInEmptyLine (head_at (b ∷ bytes) m)
    by_count zero less ends = nothing_ends ends
    by_count (suc m) less ends =
        let P : List ℕ → Type 0 = λ xs. EndsInEmptyLine xs in
        later.first m (omega (arith, less)) (subst P (blank_step b m bytes e) ends)

head_begins : (o : Option ℕ) (b : ℕ) (bytes : List ℕ) → is_line_byte b ≡ false → Finds o (b ∷ []) bytes
    → FindsHead (option_map (λ n. suc n) o) (b ∷ bytes)
head_begins None b bytes e later = by_count
  where
    by_count : (m : ℕ) → ¬ EndsInEmptyLine (head_at (b ∷ bytes) m)
    by_count zero ends = nothing_ends ends
    by_count (suc m) ends = let P : List ℕ → Type 0 = λ xs. EndsInEmptyLine xs in later m (subst P (head_step b m bytes e) ends)
head_begins (Some n) b bytes e later = record {
  within = omega (arith, later.within);
  ends = (let P : List ℕ → Type 0 = λ xs. EndsInEmptyLine xs in subst P (sym (head_step b n bytes e)) later.ends);
  first = by_count;
}
  where
    by_count : (m : ℕ) → m < suc n → ¬ EndsInEmptyLine (head_at (b ∷ bytes) m)
    by_count zero less ends = nothing_ends ends
    by_count (suc m) less ends =
        let P : List ℕ → Type 0 = λ xs. EndsInEmptyLine xs in
        later.first m (omega (arith, less)) (subst P (head_step b m bytes e) ends)

no_feed : (b : ℕ) → is_line_byte b ≡ false → b ≢ 10
no_feed b e ten =
    let yes : is_line_byte b ≡ true = ap is_line_byte ten in cc

one_stands : (b : ℕ) → is_line_byte b ≡ false → Stands Inside (b ∷ [])
one_stands b e = (
  (λ (front, h). no_feed b e (last_is [] front b 10 h).1),
  (λ (front, h). absurd (omega (arith, ap length (two_last [] front b 10 13 h).0, length-append front (10 ∷ [])))),
)

one_ends : (b : ℕ) → is_line_byte b ≡ false → ¬ EndsInEmptyLine (b ∷ [])
one_ends b e ends = no_feed b e (ends_with [] b ends).0

finds_head : (bytes : List ℕ) → FindsHead (head_end bytes) bytes
finds_head [] = by_count
  where
    by_count : (m : ℕ) → ¬ EndsInEmptyLine (head_at [] m)
    by_count zero ends = nothing_ends ends
    by_count (suc m) ends = nothing_ends ends
finds_head (b ∷ bytes) = by_byte (finds_head bytes) (is_line_byte b) refl
  where
    by_byte : FindsHead (head_end bytes) bytes → (t : Bool) → is_line_byte b ≡ t
        → FindsHead (ended_or (Some 1) (cond t (Some Before) (Some Inside)) (λ next. option_map (λ n. suc n) (end_from next bytes))) (b ∷ bytes)
    by_byte later true e = line_byte_later (head_end bytes) b bytes e later
    by_byte later false e = head_begins (end_from Inside bytes) b bytes e (finds Inside (b ∷ []) bytes (one_stands b e) (one_ends b e))

-- two ends are one
ends_same : (bytes : List ℕ) (n k : ℕ) → IsHeadEnd bytes n → IsHeadEnd bytes k → k ≡ n
ends_same bytes n k x y =
    ⊎_elim
    (λ (less : k < n). absurd (x.first k less y.ends))
    (λ (more : n ≤ k). ⊎_elim
    (λ (less : n < k). absurd (y.first n less x.ends))
    (λ (same : k ≤ n). omega arith)
    (cases_lt n k))
    (cases_lt k n)

from_found : (o : Option ℕ) (bytes : List ℕ) (n : ℕ) → FindsHead o bytes → IsHeadEnd bytes n → o ≡ Some n
from_found None bytes n none is = absurd (none n is.ends)
from_found (Some k) bytes n found is = ap Some (ends_same bytes n k is found)

pub head_end_is_found : (bytes : List ℕ) (n : ℕ) → (head_end bytes ≡ Some n) ↔ IsHeadEnd bytes n
head_end_is_found bytes n = (
  (λ e. let P : Option ℕ → Type 0 = λ o. FindsHead o bytes in subst P e (finds_head bytes)),
  (λ is. from_found (head_end bytes) bytes n (finds_head bytes) is),
)
